use Rattle.std.proofs.Common.{◌≡◌, ◌∷◌, ◌++◌, lit<, ◌∙◌, ap, sym}
use Rattle.std.specs.Prelude.{codes}
use Rattle.edit_lookups.proofs.CutLemmas.{cut-whole, cut-first, cut-none}
use Rattle.std.proofs.lemmas.Slice.Eq.{bytes_eq-Decides}
use Rattle.edit_answers.proofs.VersionLemmas.{no-dot, no-second-dot, no-major, no-minor, not-not}
use Rattle.edit_answers.proofs.curl_version.version_in.Goals as goal

pub returns-in_default-split_once-clause-none : goal.returns-in_default-split_once-clause-none
returns-in_default-split_once-clause-none c a b says =
    no-dot _ a b says _ _ (cut-whole 32 _ _ _ c.in-Some.ensures.cases (lit< tt))
    (cut-first 32 _ _ _ c.in-Some.ensures.cases (lit< tt))
    (cut-none 46 _ c.in_default-split_once.ensures.cases (lit< tt))

pub returns-in_default-split_once-2-clause-none : goal.returns-in_default-split_once-2-clause-none
returns-in_default-split_once-2-clause-none c a b says =
    let cut = cut-whole 32 _ _ _ c.in-Some.ensures.cases (lit< tt) in
    let cut2 = cut-whole 46 _ _ _ c.in-Some-split_once.ensures.cases (lit< tt) in
    no-second-dot _ a b says _ _ _ (cut ∙ ap (λ t. c.in-Some.name.now ++ 32 ∷ t) cut2)
    (cut-first 32 _ _ _ c.in-Some.ensures.cases (lit< tt))
    (cut-first 46 _ _ _ c.in-Some-split_once.ensures.cases (lit< tt))
    (cut-none 46 _ c.in_default-split_once-2.ensures.cases (lit< tt))

pub returns-in_default-parse-clause-none : goal.returns-in_default-parse-clause-none
returns-in_default-parse-clause-none c a b says =
    let cut = cut-whole 32 _ _ _ c.in-Some.ensures.cases (lit< tt) in
    let cut2 = cut-whole 46 _ _ _ c.in-Some-split_once.ensures.cases (lit< tt) in
    let cut3 = cut-whole 46 _ _ _ c.in-Some-split_once-2.ensures.cases (lit< tt) in
    no-major _ a b says _ _ _ _
    (cut ∙ ap (λ t. c.in-Some.name.now ++ 32 ∷ t)
    (cut2 ∙ ap (λ t. c.in-Some-split_once.major.now ++ 46 ∷ t) cut3))
    (cut-first 32 _ _ _ c.in-Some.ensures.cases (lit< tt))
    (cut-first 46 _ _ _ c.in-Some-split_once.ensures.cases (lit< tt))
    (cut-first 46 _ _ _ c.in-Some-split_once-2.ensures.cases (lit< tt)) c.in_default-parse.ensures.value.0

pub returns-in_default-parse-2-clause-none : goal.returns-in_default-parse-2-clause-none
returns-in_default-parse-2-clause-none c a b says =
    let cut = cut-whole 32 _ _ _ c.in-Some.ensures.cases (lit< tt) in
    let cut2 = cut-whole 46 _ _ _ c.in-Some-split_once.ensures.cases (lit< tt) in
    let cut3 = cut-whole 46 _ _ _ c.in-Some-split_once-2.ensures.cases (lit< tt) in
    no-minor _ a b says _ _ _ _
    (cut ∙ ap (λ t. c.in-Some.name.now ++ 32 ∷ t)
    (cut2 ∙ ap (λ t. c.in-Some-split_once.major.now ++ 46 ∷ t) cut3))
    (cut-first 32 _ _ _ c.in-Some.ensures.cases (lit< tt))
    (cut-first 46 _ _ _ c.in-Some-split_once.ensures.cases (lit< tt))
    (cut-first 46 _ _ _ c.in-Some-split_once-2.ensures.cases (lit< tt)) c.in_default-parse-2.ensures.value.0

pub returns-clause-some : goal.returns-clause-some
returns-clause-some c =
    let cut = cut-whole 32 _ _ _ c.in-Some.ensures.cases (lit< tt) in
    let cut2 = cut-whole 46 _ _ _ c.in-Some-split_once.ensures.cases (lit< tt) in
    let cut3 = cut-whole 46 _ _ _ c.in-Some-split_once-2.ensures.cases (lit< tt) in
    let name : c.in-Some.name.now ≡ codes "curl" = (bytes_eq-Decides _ (codes "curl")).0
    (not-not _ (sym c.if-ne.ensures)) in
    record {
      major_digits = c.in-Some-split_once.major.now;
      minor_digits = c.in-Some-split_once-2.minor.now;
      rest = c.in-Some-split_once-2.field-0-1.now;
      is = cut ∙ (ap (λ n. n ++ 32 ∷ c.in-Some.rest.now) name
          ∙ ap (λ t. codes "curl" ++ 32 ∷ t) (cut2
          ∙ ap (λ t. c.in-Some-split_once.major.now ++ 46 ∷ t) cut3));
      no_dot_major = cut-first 46 _ _ _ c.in-Some-split_once.ensures.cases (lit< tt);
      no_dot_minor = cut-first 46 _ _ _ c.in-Some-split_once-2.ensures.cases (lit< tt);
      major_is = c.in-Ok.ensures.value.0;
      minor_is = c.in-Ok-parse.ensures.value.0;
    }
