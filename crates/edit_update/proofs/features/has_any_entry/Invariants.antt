use Rattle.std.proofs.Common.{◌≡◌, drop}
use Rattle.std.specs.List.{list_any}
use Rattle.edit_tree.specs.DocumentViews.{tree_of}
use Rattle.edit_update.specs.Features.{has_section_entry}
use Rattle.edit_manifest.specs.Places.{places_view}
use Rattle.edit_update.proofs.features.has_any_entry.Given as goal

abbrev pub invariant-tables : goal.invariant-tables
invariant-tables l = list_any (has_section_entry (tree_of l.document) l.name) (places_view l.tables)
    ≡ list_any (has_section_entry (tree_of l.document) l.name) (places_view (drop l.table-index l.tables))
