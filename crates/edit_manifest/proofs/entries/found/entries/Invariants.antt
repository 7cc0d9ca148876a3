use Rattle.std.proofs.Common.{◌≡◌, All, map, take}
use Rattle.std.specs.List.{flat_map}
use Rattle.edit_tree.specs.DocumentViews.{tree_of}
use Rattle.edit_manifest.specs.Places.{places_view}
use Rattle.edit_manifest.specs.Entries.{entries_of}
use Rattle.edit_manifest.specs.EntryViews.{HasReason, entry_view}
use Rattle.edit_manifest.proofs.entries.found.entries.Given as goal

abbrev pub invariant-tables : goal.invariant-tables
invariant-tables l = record {
  entries : map entry_view l.entries.items ≡ flat_map (entries_of (tree_of l.document) l.root)
      (places_view (take l.table-index l.table-items));
  reasons : All (HasReason (tree_of l.document) l.root) l.entries.items;
}
