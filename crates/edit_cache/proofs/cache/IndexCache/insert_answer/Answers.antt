use Rattle.std.proofs.Common.{arith, inl, inr}
use Rattle.std.proofs.lemmas.Map.Text.{text_keys}
use Rattle.edit_cache.proofs.CacheLemmas.{same-on-err}
use Rattle.edit_cache.proofs.cache.IndexCache.insert_answer.Goals as goal

pub returns-in_err-insert-clause-error : goal.returns-in_err-insert-clause-error
returns-in_err-insert-clause-error g c =
    let old = c.args.self.now in
    same-on-err old (record { index = old.index; answers = c.get_mut.follows.lender c.insert.new.self })
    c.from_residual.result (λ address name. grind (arith, text_keys, c.in_err-insert.ensures.error name))

pub returns-in_err-insert-clause-others : goal.returns-in_err-insert-clause-others
returns-in_err-insert-clause-others g c = λ address name other.
    grind (arith, text_keys, c.in_err-insert.ensures.error name)

pub returns-in-Some-clause-preserved : goal.returns-in-Some-clause-preserved
returns-in-Some-clause-preserved g c = grind (arith, text_keys)

pub returns-in-Some-clause-others : goal.returns-in-Some-clause-others
returns-in-Some-clause-others g c = λ address name other. elim other [
  | inl apart ↦ grind (arith, text_keys)
  | inr apart ↦ grind (arith, text_keys, c.in_ok-insert.ensures.others name apart)
]

pub returns-clause-preserved : goal.returns-clause-preserved
returns-clause-preserved g c = grind (arith, text_keys)

pub returns-clause-others : goal.returns-clause-others
returns-clause-others g c = λ address name other. elim other [
  | inl apart ↦ grind (arith, text_keys)
  | inr apart ↦
      grind (arith, text_keys, c.in_ok-insert-2.ensures.others name apart, c.new-names.ensures name)
]
