use Rattle.std.proofs.Common.{◌≡◌, map}
use Rattle.std.specs.List.{flat_map}
use Rattle.edit_tree.specs.DocumentViews.{tree_of}
use Rattle.edit_manifest.specs.Places.{places_view}
use Rattle.edit_manifest.specs.Tables.{tables_under}
use Rattle.edit_manifest.proofs.tables.dependency_tables.Given as goal

abbrev pub invariant-names : goal.invariant-names
invariant-names l = places_view l.tables.items
    ≡ flat_map (tables_under (tree_of l.document)) (map (λ s. s.now) l.yielded)
