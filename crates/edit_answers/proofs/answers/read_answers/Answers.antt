use Rattle.std.proofs.Common.{lit<, ◌∙◌, refl, rules}
use Rattle.edit_lookups.proofs.CutLemmas.{cut-first, cut-none, cut-whole}
use Rattle.edit_answers.proofs.LineLemmas.{one-number}
use Rattle.edit_answers.proofs.TableLemmas.{all-found, line-on, one-first, says-none, says-one}
use Rattle.edit_answers.proofs.answers.read_answers.Goals as goal

pub loop-line-preserved : goal.loop-line-preserved
loop-line-preserved c =
    let cut = cut-whole 10 _ _ _ c.in-Some.ensures.cases (lit< tt) in
    let none = cut-first 10 _ _ _ c.in-Some.ensures.cases (lit< tt) in (
      search rules,
      c.loop-line.invariant.1,
      c.loop-line.invariant.2,
      line-on _ _ _ _ _ _ c.loop-line.invariant.3 cut none refl (λ k a h. h)
          (says-none _ _ c.in_default-read_answer.ensures.none),
    )

pub loop-line-preserved-in-Some-read_answer : goal.loop-line-preserved-in-Some-read_answer
loop-line-preserved-in-Some-read_answer c =
    let cut = cut-whole 10 _ _ _ c.in-Some.ensures.cases (lit< tt) in
    let none = cut-first 10 _ _ _ c.in-Some.ensures.cases (lit< tt) in
    let says = c.in-Some-read_answer.ensures.some in (
      search rules,
      c.put_answer.ensures.count ∙ c.loop-line.invariant.1,
      one-first _ _ c.in-Some.line.now _ _ _ c.in-Some-read_answer.number c.in-Some-read_answer.answer
          c.loop-line.invariant.3 cut none says c.put_answer.ensures.put c.put_answer.ensures.preserved
          c.put_answer.ensures.count c.loop-line.invariant.2,
      line-on _ _ _ _ _ _ c.loop-line.invariant.3 cut none c.put_answer.ensures.count c.put_answer.ensures.preserved
          (says-one _ _ _ _ _ says (one-number _) c.put_answer.ensures.count c.put_answer.ensures.has),
    )

pub returns-clause-found : goal.returns-clause-found
returns-clause-found c =
    all-found _ _ _ c.loop-line.invariant.3 (cut-none 10 _ c.in_default.ensures.cases (lit< tt))
