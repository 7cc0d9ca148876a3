use Rattle.std.proofs.Common.{◌∷◌, ◌++◌, lit<, ◌∙◌, ap}
use Rattle.edit_lookups.proofs.CutLemmas.{cut-whole, cut-first, cut-none}
use Rattle.edit_answers.proofs.LineLemmas.{no-number, no-status, no-exit, no-redirects, no-parse}
use Rattle.edit_answers.proofs.answers.read_answer.Goals as goal

pub returns-in-Ok-clause-some : goal.returns-in-Ok-clause-some
returns-in-Ok-clause-some c =
    let cut = cut-whole 9 _ _ _ c.in-Some.ensures.cases (lit< tt) in
    let cut2 = cut-whole 9 _ _ _ c.in-Some-split_once.ensures.cases (lit< tt) in
    let cut3 = cut-whole 9 _ _ _ c.in-Some-split_once-2.ensures.cases (lit< tt) in
    let cut4 = cut-whole 9 _ _ _ c.in-Some-split_once-3.ensures.cases (lit< tt) in
    record {
      digits = c.in-Some.number.now;
      is = cut ∙ ap (λ t. c.in-Some.number.now ++ 9 ∷ t)
          (cut2 ∙ ap (λ t. c.in-Some-split_once.code.now ++ 9 ∷ t)
          (cut3 ∙ ap (λ t. c.in-Some-split_once-2.exit.now ++ 9 ∷ t) cut4));
      number_is = c.in-Ok.ensures.value.0;
      no_tab_number = cut-first 9 _ _ _ c.in-Some.ensures.cases (lit< tt);
      no_tab = cut-first 9 _ _ _ c.in-Some-split_once.ensures.cases (lit< tt);
      no_tab_exit = cut-first 9 _ _ _ c.in-Some-split_once-2.ensures.cases (lit< tt);
      no_tab_redirects = cut-first 9 _ _ _ c.in-Some-split_once-3.ensures.cases (lit< tt);
    }

pub returns-in_default-clause-none : goal.returns-in_default-clause-none
returns-in_default-clause-none c n a = no-number _ n a (cut-none 9 _ c.in_default.ensures.cases (lit< tt))

pub returns-in_default-split_once-clause-none : goal.returns-in_default-split_once-clause-none
returns-in_default-split_once-clause-none c n a =
    no-status _ _ _ n a (cut-whole 9 _ _ _ c.in-Some.ensures.cases (lit< tt))
    (cut-first 9 _ _ _ c.in-Some.ensures.cases (lit< tt))
    (cut-none 9 _ c.in_default-split_once.ensures.cases (lit< tt))

pub returns-in_default-split_once-2-clause-none : goal.returns-in_default-split_once-2-clause-none
returns-in_default-split_once-2-clause-none c n a =
    let cut = cut-whole 9 _ _ _ c.in-Some.ensures.cases (lit< tt) in
    let cut2 = cut-whole 9 _ _ _ c.in-Some-split_once.ensures.cases (lit< tt) in
    no-exit _ _ _ _ n a (cut ∙ ap (λ t. c.in-Some.number.now ++ 9 ∷ t) cut2)
    (cut-first 9 _ _ _ c.in-Some.ensures.cases (lit< tt))
    (cut-first 9 _ _ _ c.in-Some-split_once.ensures.cases (lit< tt))
    (cut-none 9 _ c.in_default-split_once-2.ensures.cases (lit< tt))

pub returns-in_default-split_once-3-clause-none : goal.returns-in_default-split_once-3-clause-none
returns-in_default-split_once-3-clause-none c n a =
    let cut = cut-whole 9 _ _ _ c.in-Some.ensures.cases (lit< tt) in
    let cut2 = cut-whole 9 _ _ _ c.in-Some-split_once.ensures.cases (lit< tt) in
    let cut3 = cut-whole 9 _ _ _ c.in-Some-split_once-2.ensures.cases (lit< tt) in
    no-redirects _ _ _ _ _ n a
    (cut ∙ ap (λ t. c.in-Some.number.now ++ 9 ∷ t)
    (cut2 ∙ ap (λ t. c.in-Some-split_once.code.now ++ 9 ∷ t) cut3))
    (cut-first 9 _ _ _ c.in-Some.ensures.cases (lit< tt))
    (cut-first 9 _ _ _ c.in-Some-split_once.ensures.cases (lit< tt))
    (cut-first 9 _ _ _ c.in-Some-split_once-2.ensures.cases (lit< tt))
    (cut-none 9 _ c.in_default-split_once-3.ensures.cases (lit< tt))

pub returns-in-Err-clause-none : goal.returns-in-Err-clause-none
returns-in-Err-clause-none c n a =
    no-parse _ _ _ n a (cut-whole 9 _ _ _ c.in-Some.ensures.cases (lit< tt))
    (cut-first 9 _ _ _ c.in-Some.ensures.cases (lit< tt)) c.in-Err.ensures.value.0
