use Rattle.std.proofs.Common.{◌∙◌, ap}
use Rattle.std.specs.List.{list_any}
use Rattle.semver.specs.Identifiers.{comparator_view, parts_of}
use Rattle.semver.specs.declared.Comparator.{Comparator}
use Rattle.edit_version.specs.Floors.{begins_after}
use Rattle.edit_version.specs.ReadRequirement.{text_in}
use Rattle.edit_version.specs.Requirement.{comparators_of}
use Rattle.edit_version.proofs.FloorReadings.{below-read}
use Rattle.edit_version.proofs.Readable.{requirement-ok}
use Rattle.edit_version.proofs.floors.is_below.Goals as goal

pub returns-in-Some : goal.returns-in-Some
returns-in-Some c =
    let text = text_in c.args.old.now in
    let v = parts_of c.args.version.now in
    below-read text c.in-Some.req.now.comparators.items v c.one_begins_after.result
    (requirement-ok text (comparators_of c.in-Some.req.now) c.in-Some.ensures)
    (c.one_begins_after.ensures
    ∙ ap (list_any (λ (x : Comparator). begins_after v (comparator_view x))) c.deref.ensures.value)
