use Rattle.std.proofs.Common.{◌≡◌, map, string_bytes, take}
use Rattle.edit_set_version.specs.LineViews.{report_line_view}
use Rattle.edit_program.specs.Printed.{statuses}
use Rattle.edit_program.proofs.set_version_run.set_version_output.lines_text.Given as goal

abbrev pub invariant-loop-line : goal.invariant-loop-line
invariant-loop-line l =
    string_bytes l.text ≡ statuses (map report_line_view (take l.line-index l.lines))
