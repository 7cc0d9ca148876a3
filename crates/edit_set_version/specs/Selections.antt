-- The selection of members (own).
use Rattle.std.specs.Prelude.{map, option_map, string_bytes}
use Rattle.edit_set_version.specs.Chosen.{SelectionView}
use Rattle.edit_set_version.specs.declared.plan.Selection.{Selection}

-- the selection of the program, by its texts
abbrev pub selection_view : Selection → SelectionView
selection_view s = record {
  packages = map string_bytes s.packages.items;
  exclude = map string_bytes s.exclude.items;
  workspace = s.workspace;
  metadata = option_map string_bytes s.metadata;
}
