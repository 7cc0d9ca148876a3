use Rattle.std.proofs.Common.{◌≡◌, ◌++◌, List, map}
use Rattle.std.specs.Prelude.{All}
use Rattle.std.specs.List.{filter_map}
use Rattle.edit_metadata.specs.Inputs.{path_of}
use Rattle.edit_tree.specs.DocumentViews.{tree_of}
use Rattle.edit_set_version.specs.Dependents.{HasRaisedText, numbered_dependent_view, with_bump_index}
use Rattle.edit_set_version.specs.BumpsByFolder.{HasFirstBumps}
use Rattle.edit_set_version.specs.PathDependency.{path_dependencies, path_dependency_views}
use Rattle.edit_set_version.specs.SetVersioned.{Bump}
use Rattle.edit_set_version.proofs.dependents.dependents_of.Given as goal

abbrev pub invariant-entries : goal.invariant-entries
invariant-entries l = record {
  seen : (bs : List Bump) → HasFirstBumps bs l.numbers
      → map numbered_dependent_view l.dependents.items
      ≡ filter_map (with_bump_index bs (path_of l.input)) (path_dependency_views l.yielded);
  rest : path_dependency_views (l.yielded ++ l.entry-iterator.rest.items) ≡ path_dependencies (tree_of l.document);
  risen : All HasRaisedText l.dependents.items;
}
