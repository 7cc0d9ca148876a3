use Rattle.std.proofs.Common.{◌∙◌, ◌++◌, ℕ, Global, Vec, ap, length, of_z, refl, sym, to_z, w8}
use Rattle.std.proofs.lemmas.Option.{slice_get_read}
use Rattle.edit_program.specs.Effects.{stderr_texts, stdout_texts}
use Rattle.edit_program.specs.StderrText.{input_report, input_report_at}
use Rattle.edit_program.specs.Tables.{table}
use Rattle.edit_program.proofs.DeliveryLemmas.{check_is, text_more}
use Rattle.edit_program.proofs.upgrade_output.reports.push_reports.Goals as goal

pub inputs-preserved : goal.inputs-preserved
inputs-preserved c =
    let v = to_z w8 (of_z w8 c.args.verbosity) in
    let i = c.inputs.i in
    let rows = c.args.plan.now.rows.items in
    let warnings = c.args.plan.now.warnings.items in
    let inputs = c.args.inputs.now in
    let input = c.index-inputs-i.result in
    record {
      stdout = text_more (table c.args.format v rows) i (stdout_texts c.args.messages.now.items)
          (stdout_texts c.inputs.messages.items) (stdout_texts c.push_stdout.new.messages.items)
          c.inputs.invariant.stdout
          (c.in_ok-push_stdout.ensures.stdout ∙ ap (λ xs. xs ++ c.in_ok-table.table.items)
          c.in_ok-push_stderr.ensures.stdout
          ∙ ap (λ xs. stdout_texts c.inputs.messages.items ++ xs)
          (c.in_ok-table.ensures ∙ ap (λ xs. table c.args.format v xs i) c.as_slice-in-inputs.ensures.value));
      stderr = text_more (input_report_at v warnings inputs) i (stderr_texts c.args.messages.now.items)
          (stderr_texts c.inputs.messages.items) (stderr_texts c.push_stdout.new.messages.items)
          c.inputs.invariant.stderr
          (c.in_ok-push_stdout.ensures.stderr ∙ c.in_ok-push_stderr.ensures.stderr
          ∙ ap (λ xs. stderr_texts c.inputs.messages.items ++ xs)
          (ap (λ (v : Vec ℕ Global). v.items) c.into_bytes.ensures.value ∙ c.in_ok-report.ensures
          ∙ ap (λ ws. input_report v ws i c.as_str.result.now) c.as_slice.ensures.value
          ∙ ap (input_report v warnings i) c.as_str.ensures.value
          ∙ sym (check_is v warnings inputs i input
          (slice_get_read inputs (length inputs) i input refl c.inputs-test.true c.index-inputs-i.is))));
    }
