use Rattle.std.proofs.Common.{◌≡◌, take}
use Rattle.std.specs.List.{flat_map}
use Rattle.edit_tree.specs.DocumentViews.{tree_of}
use Rattle.edit_manifest.specs.Places.{places_view}
use Rattle.edit_set_version.specs.PathDependency.{path_dependencies_in, path_dependency_views}
use Rattle.edit_set_version.proofs.path_deps.entries_of.Given as goal

abbrev pub invariant-tables : goal.invariant-tables
invariant-tables l = path_dependency_views l.entries.items
    ≡ flat_map (path_dependencies_in (tree_of l.document)) (places_view (take l.table-index l.table-items))
