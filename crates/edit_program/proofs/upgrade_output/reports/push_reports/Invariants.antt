use Rattle.std.proofs.Common.{◌≡◌, ◌++◌}
use Rattle.edit_program.specs.Effects.{stderr_texts, stdout_texts}
use Rattle.edit_program.specs.StderrText.{input_reports}
use Rattle.edit_program.specs.Tables.{tables}
use Rattle.edit_program.proofs.upgrade_output.reports.push_reports.Given as goal

abbrev pub invariant-inputs : goal.invariant-inputs
invariant-inputs l = record {
  stdout : stdout_texts l.messages.items
      ≡ stdout_texts l.fn.messages.items ++ tables l.format l.verbosity l.plan.rows.items l.i;
  stderr : stderr_texts l.messages.items
      ≡ stderr_texts l.fn.messages.items ++ input_reports l.verbosity l.plan.warnings.items l.inputs l.i;
}
