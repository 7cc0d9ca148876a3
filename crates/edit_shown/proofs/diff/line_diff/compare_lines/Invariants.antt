use Rattle.std.proofs.Common.{◌≡◌, List, ℕ, map}
use Rattle.std.specs.Prelude.{slice_get}
use Rattle.std.specs.List.{flat_map, range_with_len}
use Rattle.edit_shown.specs.LineKinds.{DiffLine, lines_in, compare_lines_at, line_kinds}
use Rattle.edit_shown.proofs.diff.line_diff.compare_lines.Given as goal

-- the lines of the first numbers
abbrev front : List (List ℕ) → List (List ℕ) → ℕ → List DiffLine
front olds news n = flat_map (λ i. compare_lines_at (slice_get olds i) (slice_get news i)) (range_with_len 0 n)

abbrev pub invariant-loop-i : goal.invariant-loop-i
invariant-loop-i l = record {
  kinds : l.diff_lines.kinds.items ≡ line_kinds (front (map (λ x. x.now) l.olds) (map (λ x. x.now) l.news) l.i);
  lines : map (λ x. x.now) l.diff_lines.lines.items
      ≡ lines_in (front (map (λ x. x.now) l.olds) (map (λ x. x.now) l.news) l.i);
}
