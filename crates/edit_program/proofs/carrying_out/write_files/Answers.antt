use Rattle.std.proofs.Common.{inl, inr, refl}
use Rattle.std.proofs.lemmas.Result.{on_err_weaker}
use Rattle.edit_steps.proofs.ErrorFields.{on_failure}
use Rattle.edit_steps.proofs.Written.{stopped_after}
use Rattle.edit_program.proofs.EffectLemmas.{stopped_last}
use Rattle.edit_program.proofs.carrying_out.write_files.Goals as goal

pub returns-in_err-write_outputs-clause-stopped : goal.returns-in_err-write_outputs-clause-stopped
returns-in_err-write_outputs-clause-stopped g c =
    on_failure c.from_residual-in_err-write_outputs.result _
    (inr (inl (
      stopped_after c.args.outputs.now (g.S.Store.view c.args.files.now)
          (g.S.Store.view c.stage_outputs.new.files) (g.S.Store.view c.write_outputs.new.files)
          c.stage_outputs.ensures.reads c.in_err-write_outputs.ensures.stopped,
      refl,
    )))

pub returns-clause-stopped : goal.returns-clause-stopped
returns-clause-stopped g c =
    on_err_weaker c.write_outputs-2.result
    (λ h. inr (inr (inr (stopped_last c.args.outputs.now c.args.calls_file.now
    (g.S.Store.view c.args.files.now) (g.S.Store.view c.stage_outputs.new.files)
    (g.S.Store.view c.write_outputs.new.files) (g.S.Store.view c.write_outputs-2.new.files)
    c.stage_outputs.ensures.reads c.write_outputs.ensures.tells c.in_ok-write_outputs.ensures.written h))))
    c.write_outputs-2.ensures.stopped
