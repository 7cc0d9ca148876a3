use Rattle.std.proofs.Common.{◌≡◌, ◌++◌, map}
use Rattle.std.specs.List.{flat_map}
use Rattle.edit_tree.specs.DocumentViews.{tree_of}
use Rattle.edit_manifest.specs.Places.{places_view}
use Rattle.edit_manifest.specs.Tables.{tables_of_target}
use Rattle.edit_manifest.proofs.tables.push_targets.Given as goal

abbrev pub invariant-targets : goal.invariant-targets
invariant-targets l = places_view l.tables.items ≡ places_view l.initial.tables.items
    ++ flat_map (tables_of_target (tree_of l.document)) (map (λ s. s.now) l.yielded)
