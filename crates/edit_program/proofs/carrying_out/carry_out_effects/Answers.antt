use Rattle.std.specs.Io.KnownBytes.{Appends}
use Rattle.edit_steps.proofs.ErrorFields.{failure_has, on_failure}
use Rattle.edit_program.specs.Delivered.{AreBothWritten}
use Rattle.edit_program.specs.Effects.{stderr_texts, stdout_of, written_outputs}
use Rattle.edit_program.proofs.EffectLemmas.{failure_cause, interrupted_at_end, interrupted_in, shown_all, reported_all, written_all, written_cause}
use Rattle.edit_program.proofs.carrying_out.carry_out_effects.Goals as goal

pub returns-in_err-write_files-clause-stopped : goal.returns-in_err-write_files-clause-stopped
returns-in_err-write_files-clause-stopped g c =
    let shows : Appends (g.O.Write.contents c.args.out.now) (g.O.Write.contents c.print_diffs_in.new.out)
    (stdout_of c.args.effects) = shown_all c.args.effects c.as_slice.result.now c.as_slice-outputs.result.now
    (g.O.Write.contents c.args.out.now) (g.O.Write.contents c.print_messages.new.out)
    (g.O.Write.contents c.print_diffs_in.new.out) c.as_slice.ensures.value c.as_slice-outputs.ensures.value
    c.in_ok-print_messages.ensures.shown c.in_ok-print_diffs_in.ensures.text in
    let reported : Appends (g.E.Write.contents c.args.err.now) (g.E.Write.contents c.print_messages.new.err)
    (stderr_texts c.args.effects.messages.items) =
    rw c.as_slice.ensures.value at c.in_ok-print_messages.ensures.reported in
    on_failure c.from_residual-in_err-write_files.result _
    (interrupted_in
    (Appends (g.O.Write.contents c.args.out.now) (g.O.Write.contents c.print_diffs_in.new.out))
    (Appends (g.E.Write.contents c.args.err.now) (g.E.Write.contents c.write_files.new.err))
    c.args.effects c.written_outputs.result.now c.as_slice-2.result.now
    c.as_str.result.now _ (g.S.Store.view c.args.files.now) (g.S.Store.view c.write_files.new.files)
    c.written_outputs.ensures c.as_slice-2.ensures.value c.as_str.ensures.value shows
    (λ same. rw same reported) c.in_err-write_files.ensures.stopped)

pub returns-in_err-write_files-clause-error : goal.returns-in_err-write_files-clause-error
returns-in_err-write_files-clause-error g c =
    failure_has c.from_residual-in_err-write_files.result c.in_err-write_files.field-0.0 _
    c.from_residual-in_err-write_files.ensures.1
    (written_cause _ c.args.effects c.as_str.result.now (g.S.Store.view c.args.files.now)
    (g.S.Store.view c.write_files.new.files) _ c.as_str.ensures.value c.in_err-write_files.ensures.error)

pub returns-in_err-conclude-clause-stopped : goal.returns-in_err-conclude-clause-stopped
returns-in_err-conclude-clause-stopped g c =
    let shows : Appends (g.O.Write.contents c.args.out.now) (g.O.Write.contents c.print_diffs_in.new.out)
    (stdout_of c.args.effects) = shown_all c.args.effects c.as_slice.result.now c.as_slice-outputs.result.now
    (g.O.Write.contents c.args.out.now) (g.O.Write.contents c.print_messages.new.out)
    (g.O.Write.contents c.print_diffs_in.new.out) c.as_slice.ensures.value c.as_slice-outputs.ensures.value
    c.in_ok-print_messages.ensures.shown c.in_ok-print_diffs_in.ensures.text in
    let written : AreBothWritten (written_outputs c.args.effects) c.args.effects.calls_file.items
    (g.S.Store.view c.args.files.now) (g.S.Store.view c.write_files.new.files) =
    written_all c.args.effects c.written_outputs.result.now c.as_slice-2.result.now
    (g.S.Store.view c.args.files.now) (g.S.Store.view c.write_files.new.files) c.written_outputs.ensures
    c.as_slice-2.ensures.value c.in_ok-write_files.ensures.written in
    on_failure c.from_residual-in_err-conclude.result _
    (interrupted_at_end
    (Appends (g.O.Write.contents c.args.out.now) (g.O.Write.contents c.print_diffs_in.new.out))
    (Appends (g.E.Write.contents c.args.err.now) (g.E.Write.contents c.conclude.new.err))
    c.args.effects c.as_slice-3.result.now (g.S.Store.view c.args.files.now)
    (g.S.Store.view c.write_files.new.files) c.in_err-conclude.field-0.0 c.as_slice-3.ensures.value
    shows written c.in_err-conclude.ensures.error)

pub returns-in_err-conclude-clause-error : goal.returns-in_err-conclude-clause-error
returns-in_err-conclude-clause-error g c =
    let shows : Appends (g.O.Write.contents c.args.out.now) (g.O.Write.contents c.print_diffs_in.new.out)
    (stdout_of c.args.effects) = shown_all c.args.effects c.as_slice.result.now c.as_slice-outputs.result.now
    (g.O.Write.contents c.args.out.now) (g.O.Write.contents c.print_messages.new.out)
    (g.O.Write.contents c.print_diffs_in.new.out) c.as_slice.ensures.value c.as_slice-outputs.ensures.value
    c.in_ok-print_messages.ensures.shown c.in_ok-print_diffs_in.ensures.text in
    failure_has c.from_residual-in_err-conclude.result c.in_err-conclude.field-0.0 _
    c.from_residual-in_err-conclude.ensures.1
    (failure_cause
    (Appends (g.O.Write.contents c.args.out.now) (g.O.Write.contents c.print_diffs_in.new.out))
    c.args.effects c.as_slice-3.result.now (g.S.Store.view c.args.files.now)
    (g.S.Store.view c.write_files.new.files) c.in_err-conclude.field-0.0 c.as_slice-3.ensures.value shows
    (written_all c.args.effects c.written_outputs.result.now c.as_slice-2.result.now
    (g.S.Store.view c.args.files.now) (g.S.Store.view c.write_files.new.files) c.written_outputs.ensures
    c.as_slice-2.ensures.value c.in_ok-write_files.ensures.written)
    c.in_err-conclude.ensures.error)

pub returns-clause-done : goal.returns-clause-done
returns-clause-done g c = record {
  ends = c.in_ok-conclude.ensures.complete;
  shows = shown_all c.args.effects c.as_slice.result.now c.as_slice-outputs.result.now
      (g.O.Write.contents c.args.out.now) (g.O.Write.contents c.print_messages.new.out)
      (g.O.Write.contents c.print_diffs_in.new.out) c.as_slice.ensures.value c.as_slice-outputs.ensures.value
      c.in_ok-print_messages.ensures.shown c.in_ok-print_diffs_in.ensures.text;
  says = reported_all c.args.effects c.as_slice.result.now c.as_str.result.now c.as_slice-3.result.now
      (g.E.Write.contents c.args.err.now) (g.E.Write.contents c.print_messages.new.err)
      (g.E.Write.contents c.write_files.new.err) (g.E.Write.contents c.conclude.new.err)
      c.as_slice.ensures.value c.as_str.ensures.value c.as_slice-3.ensures.value
      c.in_ok-print_messages.ensures.reported c.in_ok-write_files.ensures.text c.in_ok-conclude.ensures.text;
  written = written_all c.args.effects c.written_outputs.result.now c.as_slice-2.result.now
      (g.S.Store.view c.args.files.now) (g.S.Store.view c.write_files.new.files) c.written_outputs.ensures
      c.as_slice-2.ensures.value c.in_ok-write_files.ensures.written;
}
