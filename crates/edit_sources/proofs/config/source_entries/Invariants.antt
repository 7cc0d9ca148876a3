use Rattle.std.proofs.Common.{◌≡◌, ◌++◌, map, option_map}
use Rattle.toml.specs.View.{table_view, members_view}
use Rattle.edit_sources.specs.Configuration.{entries_of, source_of}
use Rattle.edit_sources.specs.Configured.{source_entry}
use Rattle.edit_sources.proofs.config.source_entries.Given as goal

abbrev pub invariant-loop-key : goal.invariant-loop-key
invariant-loop-key l = entries_of source_of (table_view l.table)
    ≡ option_map (λ rest. map source_entry l.sources.items ++ rest)
    (entries_of source_of (members_view l.key-iterator))
