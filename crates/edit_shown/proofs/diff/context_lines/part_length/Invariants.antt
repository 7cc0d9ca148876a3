use Rattle.std.proofs.Common.{◌≡◌, ◌+◌, ◌-◌, drop}
use Rattle.edit_shown.specs.ShownLines.{leading, shown_lines}
use Rattle.edit_shown.proofs.diff.context_lines.part_length.Given as goal

-- all are shown so far
abbrev pub invariant-loop-j : goal.invariant-loop-j
invariant-loop-j l = leading (drop l.i (shown_lines l.kinds))
    ≡ (l.j - l.i) + leading (drop l.j (shown_lines l.kinds))
