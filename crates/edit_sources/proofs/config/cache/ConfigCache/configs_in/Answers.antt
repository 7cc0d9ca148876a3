use Rattle.std.proofs.Common.{◌++◌, ◌∙◌, ap, map}
use Rattle.edit_sources.proofs.CachedConfigLemmas.{found_more}
use Rattle.edit_sources.proofs.config.cache.ConfigCache.configs_in.Goals as goal

pub loop-place-preserved : goal.loop-place-preserved
loop-place-preserved c = found_more c.args.self.now c.args.places.now c.loop-place.place-index
    c.place-item.result c.as_str.result.now (map (λ x. x.now) c.loop-place.configs.items)
    (map (λ x. x.now) c.add.new.configs.items) c.loop-place-test.true c.place-item.is c.as_str.ensures.value
    c.loop-place.invariant (c.in_ok-add.ensures
    ∙ ap (λ cs. map (λ x. x.now) c.loop-place.configs.items ++ cs) c.cached_configs.ensures)
