use Rattle.std.proofs.Common.{drop, take}
use Rattle.edit_tree.specs.DocumentViews.{tree_of}
use Rattle.edit_manifest.specs.Places.{places_view}
use Rattle.edit_update.specs.Removals.{AreInTurn, AreStrings, IsTextWithout}
use Rattle.edit_update.proofs.features.remove_strings.Given as goal

abbrev pub invariant-places : goal.invariant-places
invariant-places l = record {
  without : IsTextWithout (places_view (take l.place-index l.places)) l.document.bytes l.left.bytes;
  strings : AreStrings (tree_of l.left) (places_view (drop l.place-index l.places));
  apart : AreInTurn (places_view (drop l.place-index l.places));
}
