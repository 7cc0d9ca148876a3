use Rattle.std.proofs.Common.{◌∙◌, List, ap}
use Rattle.std.proofs.lemmas.List.{take_all}
use Rattle.edit_metadata.specs.Reading.{holds}
use Rattle.edit_upgrade.specs.declared.upgrade.Look.{Look}
use Rattle.edit_shown.specs.HeldBack.{names_of}
use Rattle.edit_shown.proofs.held_back.names_of.Goals as goal

pub returns : goal.returns
returns c =
    c.loop-lookup.invariant
    ∙ ap (λ (lookups : List Look). names_of c.args.cause (holds c.args.excluded.now) lookups)
    (take_all c.loop-lookup.lookup-index c.args.lookups.now c.loop-lookup-test.false)
