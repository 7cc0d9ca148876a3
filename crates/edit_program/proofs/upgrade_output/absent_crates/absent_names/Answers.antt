use Rattle.std.proofs.Common.{◌∙◌, List, ap}
use Rattle.std.proofs.lemmas.List.{take_all}
use Rattle.edit_metadata.specs.Reading.{holds}
use Rattle.edit_upgrade.specs.declared.upgrade.Look.{Look}
use Rattle.edit_program.specs.Absent.{absent_names}
use Rattle.edit_program.proofs.AbsentLemmas.{same_absent}
use Rattle.edit_program.proofs.upgrade_output.absent_crates.absent_names.Goals as goal

pub returns : goal.returns
returns c =
    c.loop-lookup.invariant
    ∙ ap (λ (lookups : List Look). absent_names (holds c.in_ok-excluded.excluded) lookups)
    (take_all c.loop-lookup.lookup-index c.args.lookups.now c.loop-lookup-test.false)
    ∙ same_absent _ _ c.args.lookups.now c.in_ok-excluded.ensures
