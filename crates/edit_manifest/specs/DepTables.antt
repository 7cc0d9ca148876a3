-- The model of a dependency table.
use Rattle.std.specs.Prelude.{ℕ, List, Option, option_map, string_bytes}
use Rattle.edit_manifest.specs.declared.dep_table.DepKind.{DepKind}
use Rattle.edit_manifest.specs.declared.dep_table.DepTable.{DepTable}

-- the kind and the target of a dependency table
abbrev pub table_view : DepTable → DepKind × Option (List ℕ)
table_view t = (t.kind, option_map string_bytes t.target)
