use Rattle.std.proofs.Common.{◌≡◌, ◌++◌, string_bytes, take}
use Rattle.std.specs.List.{flat_map}
use Rattle.edit_program.specs.StderrText.{warning_on}
use Rattle.edit_program.proofs.upgrade_output.reports.push_warnings.Given as goal

abbrev pub invariant-loop-warning : goal.invariant-loop-warning
invariant-loop-warning l = string_bytes l.text ≡ string_bytes l.initial.text
    ++ flat_map (warning_on l.verbosity l.input) (take l.warning-index l.warnings)
