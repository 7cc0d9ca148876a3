use Rattle.edit_shown.proofs.AnnotationLemmas.{below_folder, beside_folder}
use Rattle.edit_shown.proofs.paths.without_folder.Goals as goal

pub returns-in-Some : goal.returns-in-Some
returns-in-Some c = below_folder c.args.folder.now c.args.path.now c.in-Some.rest.now c.in-Some.ensures.cases

pub returns-in-None : goal.returns-in-None
returns-in-None c = beside_folder c.args.folder.now c.args.path.now c.in-None.ensures.cases
