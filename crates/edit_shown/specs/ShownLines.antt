-- Which lines a diff shows: those within three of one that changes (own).
use Rattle.std.specs.Prelude.{ℕ, suc, ◌+◌, ◌-◌, min, List, [], ◌∷◌, Bool, true, false, length, map, slice_range}
use Rattle.std.specs.List.{list_any, range_with_len}
use Rattle.edit_shown.specs.declared.diff.line_diff.LineKind.{LineKind}
use Rattle.edit_shown.specs.declared.diff.line_diff.LineKind.TheVariants.{Context, Removed, Added}

-- a line that changes (own)
abbrev pub is_change : LineKind → Bool
is_change Context = false
is_change Removed = true
is_change Added = true

-- a line of the old text (own)
abbrev pub is_old : LineKind → Bool
is_old Context = true
is_old Removed = true
is_old Added = false

-- a line of the new text (own)
abbrev pub is_new : LineKind → Bool
is_new Context = true
is_new Removed = false
is_new Added = true

-- whether the line at an index is shown (own)
abbrev pub is_shown : List LineKind → ℕ → Bool
is_shown kinds i = list_any is_change (slice_range kinds (i - 3) (min (i + 4) (length kinds)))

-- whether each line is shown (own)
abbrev pub shown_lines : List LineKind → List Bool
shown_lines kinds = map (is_shown kinds) (range_with_len 0 (length kinds))

-- the number of leading lines that are shown (own)
abbrev pub leading : List Bool → ℕ
leading [] = 0
leading (true ∷ shown) = suc (leading shown)
leading (false ∷ shown) = 0
