use Rattle.std.proofs.Common.{◌∙◌, ap}
use Rattle.std.specs.Prelude.{◌||◌}
use Rattle.std.specs.List.{list_any}
use Rattle.semver.specs.declared.Comparator.{Comparator}
use Rattle.edit_version.specs.ReadRequirement.{text_in}
use Rattle.edit_version.specs.Requirement.{comparators_of}
use Rattle.edit_upgrade.specs.Decision.{is_pin}
use Rattle.edit_upgrade.proofs.Pins.{pin-read}
use Rattle.edit_version.proofs.Readable.{requirement-ok}
use Rattle.edit_upgrade.proofs.decision.requirement.requirement_pin.Goals as goal

pub returns-in-Some-clause-pinned : goal.returns-in-Some-clause-pinned
returns-in-Some-clause-pinned c =
    let text = text_in c.args.old.now in
    ap (λ b. c.args.renamed || b)
    (pin-read text c.in-Some.req.now.comparators.items c.has_pin.result
    (requirement-ok text (comparators_of c.in-Some.req.now) c.in-Some.ensures)
    (c.has_pin.ensures ∙ ap (list_any (λ (x : Comparator). is_pin x.op)) c.deref.ensures.value))
