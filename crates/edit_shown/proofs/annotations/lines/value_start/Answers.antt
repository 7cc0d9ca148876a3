use Rattle.std.proofs.Common.{None, Some}
use Rattle.edit_document.specs.Items.{place_view}
use Rattle.edit_shown.proofs.RequirementLineLemmas.{start_is}
use Rattle.edit_shown.proofs.annotations.lines.value_start.Goals as goal

pub returns-in-Some : goal.returns-in-Some
returns-in-Some c form document =
    start_is c.args.document.now.bytes form (place_view c.args.place.now) (Some c.in-Some.range) document
    (c.in-Some.ensures form document)

pub returns-in-None : goal.returns-in-None
returns-in-None c form document =
    start_is c.args.document.now.bytes form (place_view c.args.place.now) None document
    (c.in-None.ensures form document)
