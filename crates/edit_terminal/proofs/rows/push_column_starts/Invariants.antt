use Rattle.std.proofs.Common.{◌≡◌, ◌++◌, filter}
use Rattle.std.specs.List.{range_with_len}
use Rattle.edit_terminal.specs.Rows as spec
use Rattle.edit_terminal.proofs.rows.push_column_starts.Given as goal

-- the starts so far were appended
abbrev pub invariant-loop-at : goal.invariant-loop-at
invariant-loop-at l =
    l.starts.items ≡ l.initial.starts.items ++ filter (spec.is_start l.line) (range_with_len 0 l.at)
