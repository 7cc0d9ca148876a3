use Rattle.std.proofs.Common.{◌≡◌, ◌++◌, map}
use Rattle.std.specs.List.{flat_map}
use Rattle.edit_tree.specs.DocumentViews.{tree_of}
use Rattle.edit_manifest.specs.Places.{places_view}
use Rattle.edit_manifest.specs.Tables.{target_table}
use Rattle.edit_manifest.proofs.tables.push_target.Given as goal

abbrev pub invariant-names : goal.invariant-names
invariant-names l = places_view l.tables.items ≡ places_view l.initial.tables.items
    ++ flat_map (target_table (tree_of l.document) l.target) (map (λ s. s.now) l.yielded)
