use Rattle.std.proofs.Common.{take}
use Rattle.edit_report.specs.Applied.{ArePrepared}
use Rattle.edit_steps.proofs.outputs.prepare_all.Given as goal

abbrev pub invariant-loop-output : goal.invariant-loop-output
invariant-loop-output g l = ArePrepared l.kind (take l.output-index l.outputs)
    (g.S.Store.view l.initial.files) (g.S.Store.view l.files)
