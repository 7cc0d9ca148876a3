use Rattle.std.proofs.Common.{◌≡◌, ◌+◌, drop}
use Rattle.edit_shown.specs.Lines.{line_length}
use Rattle.edit_shown.proofs.diff.lines.line_length.Given as goal

-- no line feed so far
abbrev pub invariant-loop-i : goal.invariant-loop-i
invariant-loop-i l = line_length l.text ≡ l.i + line_length (drop l.i l.text)
