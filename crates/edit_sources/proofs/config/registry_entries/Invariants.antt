use Rattle.std.proofs.Common.{◌≡◌, ◌++◌, filter, map, option_map}
use Rattle.toml.specs.View.{table_view, members_view}
use Rattle.edit_sources.specs.Configuration.{entries_of, index_of, is_alternate}
use Rattle.edit_sources.specs.Configured.{registry_entry}
use Rattle.edit_sources.proofs.config.registry_entries.Given as goal

abbrev pub invariant-loop-key : goal.invariant-loop-key
invariant-loop-key l = option_map (filter is_alternate) (entries_of index_of (table_view l.table))
    ≡ option_map (λ rest. map registry_entry l.registries.items ++ filter is_alternate rest)
    (entries_of index_of (members_view l.key-iterator))
