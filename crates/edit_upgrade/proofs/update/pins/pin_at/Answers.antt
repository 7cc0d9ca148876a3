use Rattle.std.proofs.Common.{◌∙◌, ap, option_map}
use Rattle.edit_upgrade.specs.PinViews.{pin_view}
use Rattle.edit_upgrade.proofs.Entries.{joined-seen, missing-seen}
use Rattle.edit_upgrade.proofs.update.pins.pin_at.Goals as goal

pub returns-in-Some : goal.returns-in-Some
returns-in-Some c =
    ap (option_map pin_view) c.as_ref.ensures.value
    ∙ joined-seen c.args.name.now c.args.pins.now.entries _ c.in-Some.ensures.value

pub returns-in-None : goal.returns-in-None
returns-in-None c = missing-seen c.args.name.now c.args.pins.now.entries c.in-None.ensures.value
