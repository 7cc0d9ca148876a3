use Rattle.std.proofs.Common.{◌∙◌, List, ap, map}
use Rattle.std.specs.Prelude.{find, option_copied}
use Rattle.semver.specs.Identifiers.{comparator_view}
use Rattle.semver.specs.declared.Comparator.{Comparator}
use Rattle.edit_version.specs.Floors.{names_floor}
use Rattle.edit_version.specs.ReadRequirement.{text_in}
use Rattle.edit_version.proofs.FloorReadings.{floor-read}
use Rattle.edit_version.proofs.floors.floor.Goals as goal

pub returns-in-Some : goal.returns-in-Some
returns-in-Some c =
    floor-read (text_in c.args.old.now) c.in-Some.req.now.comparators.items
    (option_copied c.floor_among.result) c.in-Some.ensures
    (c.floor_among.ensures
    ∙ ap (λ (cs : List Comparator). find (λ x. names_floor (map comparator_view cs) (comparator_view x)) cs)
    c.deref.ensures.value)
