use Rattle.std.proofs.Common.{◌+◌, ◌-◌, length}
use Rattle.edit_syntax.specs.Reading.{lines_at}
use Rattle.edit_syntax.proofs.NotedLines.{Completes}
use Rattle.edit_syntax.proofs.read.lines.lines.Given as goal

abbrev pub invariant-lines : goal.invariant-lines
invariant-lines l = Completes (lines_at 80 (length l.text + 1) l.text)
    (length l.text + 1 - l._line) l.rest l.out.items
