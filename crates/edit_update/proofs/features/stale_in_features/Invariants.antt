use Rattle.std.proofs.Common.{◌≡◌, map}
use Rattle.std.specs.List.{flat_map}
use Rattle.edit_tree.specs.Assertions.{at, key}
use Rattle.edit_tree.specs.DocumentViews.{tree_of}
use Rattle.edit_update.specs.Features.{features, stale_in}
use Rattle.edit_manifest.specs.Places.{places_view}
use Rattle.edit_update.proofs.features.stale_in_features.Given as goal

abbrev pub invariant-features : goal.invariant-features
invariant-features l = places_view l.places.items
    ≡ flat_map (λ f. stale_in (tree_of l.document) l.gone.is_held l.gone.name.now (at features (key f)))
    (map (λ s. s.now) l.yielded)
