use Rattle.std.proofs.Common.{arith}
use Rattle.std.proofs.lemmas.Map.Text.{text_keys}
use Rattle.edit_cache.proofs.cache.IndexCache.rank_for_at.Goals as goal

-- the cached result is the one that was, and so is every other
pub returns-in-Some-clause-preserved : goal.returns-in-Some-clause-preserved
returns-in-Some-clause-preserved g c = λ address name.
    grind (arith, text_keys, c.rank_for.ensures.preserved name)
