use Rattle.std.proofs.Common.{◌≡◌, ◌++◌, All, map}
use Rattle.edit_document.specs.Items.{place_view}
use Rattle.edit_tree.specs.DocumentViews.{tree_of}
use Rattle.edit_manifest.specs.Entries.{entry_at}
use Rattle.edit_manifest.specs.EntryViews.{HasReason, entry_view}
use Rattle.edit_manifest.proofs.entries.found.push_entries.Given as goal

abbrev pub invariant-names : goal.invariant-names
invariant-names l = record {
  entries : map entry_view l.entries.items ≡ map entry_view l.initial.entries.items
      ++ map (entry_at (tree_of l.document) l.root (place_view l.place)) (map (λ s. s.now) l.yielded);
  reasons : All (HasReason (tree_of l.document) l.root) l.initial.entries.items
      → All (HasReason (tree_of l.document) l.root) l.entries.items;
}
