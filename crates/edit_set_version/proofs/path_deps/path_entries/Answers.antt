use Rattle.std.proofs.Common.{◌∙◌, ap, sym}
use Rattle.std.specs.List.{filter_map}
use Rattle.edit_tree.specs.DocumentViews.{tree_of}
use Rattle.edit_set_version.specs.PathDependency.{dependent_by_path}
use Rattle.edit_set_version.proofs.PointedLemmas.{dependents_pointed}
use Rattle.edit_set_version.proofs.path_deps.path_entries.Goals as goal

pub returns-clause-dependents : goal.returns-clause-dependents
returns-clause-dependents c = λ bumps file.
    dependents_pointed bumps file (tree_of c.args.document.now)
    ∙ ap (filter_map (dependent_by_path bumps file)) (sym c.in_ok-entries.ensures.ok)
