use Rattle.std.proofs.Common.{◌≡◌, map, take}
use Rattle.std.specs.List.{filter}
use Rattle.edit_report.specs.ShownRows.{is_shown}
use Rattle.edit_shown.specs.Markdown.{line_of, line_view}
use Rattle.edit_shown.proofs.markdown.lines.shown_lines.Given as goal

abbrev pub invariant-loop-row : goal.invariant-loop-row
invariant-loop-row l =
    map line_view l.lines.items ≡ map line_of (filter (is_shown l.verbosity) (take l.row-index l.rows))
