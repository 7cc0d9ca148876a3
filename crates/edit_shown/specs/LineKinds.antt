-- Two texts compared line by line, each line with the one at the same index (own).
use Rattle.std.specs.Prelude.{ℕ, max, Bool, List, [], ◌∷◌, Option, Some, None, length, map, slice_get, if◌then◌else◌}
use Rattle.std.specs.List.{flat_map, range_with_len, filter}
use Rattle.std.specs.Str.{bytes_eq}
use Rattle.edit_shown.specs.declared.diff.line_diff.LineKind.{LineKind}
use Rattle.edit_shown.specs.declared.diff.line_diff.LineKind.TheVariants.{Context, Removed, Added}

-- a line, and whether it is unchanged, removed or added (own)
abbrev pub DiffLine : Type 0
DiffLine = LineKind × List ℕ

-- the result for the lines at one index of two texts (own)
abbrev pub compare_lines_at : Option (List ℕ) → Option (List ℕ) → List DiffLine
compare_lines_at (Some old) (Some new) =
    if bytes_eq old new then (Context, old) ∷ [] else (Removed, old) ∷ (Added, new) ∷ []
compare_lines_at (Some old) None = (Removed, old) ∷ []
compare_lines_at None (Some new) = (Added, new) ∷ []
compare_lines_at None None = []

-- the result for all lines of two texts, each with the one at the same index (own)
abbrev pub compare_lines : List (List ℕ) → List (List ℕ) → List DiffLine
compare_lines olds news = flat_map (λ i. compare_lines_at (slice_get olds i) (slice_get news i))
    (range_with_len 0 (max (length olds) (length news)))

-- the marks alone (own)
abbrev pub line_kinds : List DiffLine → List LineKind
line_kinds lines = map (λ line. line.0) lines

-- the lines alone (own)
abbrev pub lines_in : List DiffLine → List (List ℕ)
lines_in lines = map (λ line. line.1) lines

-- the lines that have certain marks (own)
abbrev pub lines_with : (LineKind → Bool) → List DiffLine → List (List ℕ)
lines_with is lines = lines_in (filter (λ line. is line.0) lines)
