use Rattle.std.proofs.Common.{◌≡◌, ◌++◌}
use Rattle.edit_document.specs.Items.{place_view}
use Rattle.edit_tree.specs.DocumentViews.{tree_of}
use Rattle.edit_manifest.specs.Places.{places_view}
use Rattle.edit_update.proofs.StaleElements.{stale_back}
use Rattle.edit_update.proofs.features.push_stale.Given as goal

abbrev pub invariant-elements : goal.invariant-elements
invariant-elements l = places_view l.places.items
    ++ stale_back (tree_of l.document) l.gone.is_held l.gone.name.now (place_view l.array) l.left
    ≡ places_view l.initial.places.items
    ++ stale_back (tree_of l.document) l.gone.is_held l.gone.name.now (place_view l.array) l.initial.left

abbrev pub decreases-elements : goal.decreases-elements
decreases-elements l = l.left
