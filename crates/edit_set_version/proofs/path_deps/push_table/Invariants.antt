use Rattle.std.proofs.Common.{◌≡◌, ◌++◌, map}
use Rattle.std.specs.List.{flat_map}
use Rattle.edit_document.specs.Items.{place_view}
use Rattle.edit_tree.specs.DocumentViews.{tree_of}
use Rattle.edit_set_version.specs.PathDependency.{path_dependency_named, path_dependency_views}
use Rattle.edit_set_version.proofs.path_deps.push_table.Given as goal

abbrev pub invariant-names : goal.invariant-names
invariant-names l = path_dependency_views l.entries.items ≡ path_dependency_views l.initial.entries.items
    ++ flat_map (path_dependency_named (tree_of l.document) (place_view l.place)) (map (λ s. s.now) l.yielded)
