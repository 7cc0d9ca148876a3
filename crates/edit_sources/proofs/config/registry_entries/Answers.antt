use Rattle.std.proofs.Common.{◌≡◌, Some, map, option_map, rules}
use Rattle.std.specs.Map.Iter.{deref_pair}
use Rattle.std.proofs.lemmas.Map.Iter.{rest_more}
use Rattle.toml.specs.View.{view}
use Rattle.edit_sources.specs.Configuration.{index_of, is_alternate}
use Rattle.edit_sources.specs.Configured.{registry_entry}
use Rattle.edit_sources.proofs.ConfigurationLemmas.{entry_chosen}
use Rattle.edit_sources.proofs.config.registry_entries.Goals as goal

pub loop-key-preserved : goal.loop-key-preserved
loop-key-preserved c =
    let next = rest_more deref_pair c.loop-key.key-iterator c.next.new.self c.next.result
    (c.in-Some.key, c.in-Some.value) c.in-Some.is c.next.ensures.steps in
    let index = option_map (λ t. t.now) c.in-Some-index_of.index in
    let said : index_of (view c.in-Some.value.now) ≡ Some index = search rules in
    entry_chosen index_of is_alternate _ (map registry_entry c.loop-key.registries.items)
    (map registry_entry c.push_registry.new.registries.items) index
    c.loop-key.key-iterator c.next.new.self _ _ c.loop-key.invariant next said (search rules)
