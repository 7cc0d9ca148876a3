use Rattle.edit_shown.proofs.PathLemmas.{inside, outside, relative}
use Rattle.edit_shown.proofs.paths.strip_folder.Goals as goal

pub returns-in-Some : goal.returns-in-Some
returns-in-Some c = inside c.args.folder.now c.args.path.now c.in-Some.rest.now c.in-Some.ensures.cases

pub returns-in-Some-strip_prefix : goal.returns-in-Some-strip_prefix
returns-in-Some-strip_prefix c =
    outside c.args.folder.now c.args.path.now c.in-Some-strip_prefix.rest.now c.in_default.ensures.cases
    c.in-Some-strip_prefix.ensures.cases

pub returns-in-None : goal.returns-in-None
returns-in-None c =
    relative c.args.folder.now c.args.path.now c.in_default.ensures.cases c.in-None.ensures.cases
