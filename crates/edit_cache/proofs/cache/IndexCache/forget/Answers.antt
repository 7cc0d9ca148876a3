use Rattle.std.proofs.Common.{arith, inl, inr}
use Rattle.std.proofs.lemmas.Map.Text.{text_keys}
use Rattle.edit_cache.proofs.cache.IndexCache.forget.Goals as goal

pub returns-in-Some-clause-others : goal.returns-in-Some-clause-others
returns-in-Some-clause-others g c = λ address name other. elim other [
  | inl apart ↦ grind (arith, text_keys)
  | inr apart ↦ grind (arith, text_keys, c.remove.ensures.others name apart)
]
