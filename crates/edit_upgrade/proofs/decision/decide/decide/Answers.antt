use Rattle.std.proofs.Common.{◌∙◌, List, ℕ, ap, false}
use Rattle.std.specs.Prelude.{option_copied, option_map, string_bytes}
use Rattle.edit_version.specs.ReadRequirement.{text_in}
use Rattle.edit_upgrade.specs.Decided.{case_view, decision_by}
use Rattle.edit_upgrade.proofs.Pins.{decision-is}
use Rattle.edit_upgrade.proofs.decision.decide.decide.Goals as goal

pub returns-clause-decided : goal.returns-clause-decided
returns-clause-decided c =
    c.in_ok-decide_by.ensures
    ∙ ap (λ (t : List ℕ).
    decision_by c.args.options.now false c.requirement_pin-pin.result.pinned c.requirement_pin-pin.result.readable
    (option_copied c.args.case.selected) t
    (option_map string_bytes c.in_ok-far.far) (option_map string_bytes c.in_ok-near.near)) c.text-2.ensures
    ∙ decision-is c.args.options.now
    (case_view c.args.case c.args.options.now.never_lower (text_in c.args.old.now))
    _ _ _ _ c.if-case.false c.requirement_pin-pin.ensures.pinned c.requirement_pin-pin.ensures.readable
    c.in_ok-far.ensures.text c.in_ok-near.ensures.text
