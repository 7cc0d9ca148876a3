use Rattle.std.proofs.Common.{inl, inr, ⊎_elim}
use Rattle.std.proofs.lemmas.Result.{IfErr-weaker}
use Rattle.edit_sources.proofs.config.cache.read_configs.Goals as goal

pub returns-clause-first : goal.returns-clause-first
returns-clause-first g c = IfErr-weaker c.read_configs.result _ _ (λ e. ⊎_elim (λ memory. inl memory)
    (λ other. inr (⊎_elim (λ failed. inl failed)
    (λ stops. inr (stops (c.new-cache.ensures (g.S.Store.view c.args.store.now)))) other)))
    c.read_configs.ensures.first
