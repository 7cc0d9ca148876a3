-- The hunks of a unified diff: a header, then lines after a space, `-` or `+` (POSIX, "diff", Diff -u or -U
-- Output Format).
use Rattle.std.specs.Prelude.{◌≡◌, ℕ, ◌+◌, ◌-◌, List, [], ◌∷◌, ◌++◌, Bool, not, ◌||◌, ◌==◌, codes, decimal, length, drop, take, slice_index, slice_index_or, if◌then◌else◌}
use Rattle.std.specs.List.{count_by, flat_map, range_with_len}
use Rattle.edit_shown.specs.declared.diff.line_diff.LineKind.{LineKind}
use Rattle.edit_shown.specs.declared.diff.line_diff.LineKind.TheVariants.{Context, Removed, Added}
use Rattle.edit_shown.specs.ShownLines.{is_new, is_old, is_shown, leading, shown_lines}

-- the character before a line (POSIX, "diff", Diff -u)
abbrev pub sign : LineKind → ℕ
sign Context = 32
sign Removed = 45
sign Added = 43

-- whether a line ends with a line feed (own)
abbrev pub ends_with_feed : List ℕ → Bool
ends_with_feed line = slice_index line (length line - 1) == 10

-- the note after a line whose text ends without a line feed, else nothing (POSIX, "diff", Diff -u)
abbrev pub note : List ℕ → List ℕ
note line = if ends_with_feed line then [] else codes "\n\\ No newline at end of file\n"

-- a line after its character (POSIX, "diff", Diff -u)
abbrev pub line_text : LineKind → List ℕ → List ℕ
line_text kind line = sign kind ∷ (line ++ note line)

-- the number of the first line of a range; for an empty range that of the line before it (POSIX, "diff",
-- Diff -u)
abbrev pub first_number : ℕ → ℕ → ℕ
first_number before count = if count == 0 then before else before + 1

-- a range as its first number and its length; for one line only its number (POSIX, "diff", Diff -u)
abbrev pub range_text : ℕ → ℕ → List ℕ
range_text before count =
    if count == 1 then decimal (first_number before count)
    else decimal (first_number before count) ++ (codes "," ++ decimal count)

-- the numbers of lines of the old and of the new text among lines (own)
pub record AreCounted (kinds : List LineKind) (old new : ℕ) : Type 0 where
  pub old_lines : old ≡ count_by is_old kinds
  pub new_lines : new ≡ count_by is_new kinds

-- the header of a hunk, from the numbers of old and new lines before it (POSIX, "diff", Diff -u)
abbrev pub hunk_header_after : ℕ → ℕ → List LineKind → List ℕ
hunk_header_after old new part =
    codes "@@ -" ++ (range_text old (count_by is_old part)
    ++ (codes " +" ++ (range_text new (count_by is_new part) ++ codes " @@\n")))

-- the header of a hunk after some lines (POSIX, "diff", Diff -u)
abbrev pub hunk_header_text : List LineKind → List LineKind → List ℕ
hunk_header_text before part = hunk_header_after (count_by is_old before) (count_by is_new before) part

-- the header of the hunk that begins at a line: the hunk has all consecutive lines that are shown (own)
abbrev pub hunk_header_at : List LineKind → ℕ → List ℕ
hunk_header_at kinds i =
    hunk_header_text (take i kinds) (take (leading (drop i (shown_lines kinds))) (drop i kinds))

-- whether a hunk begins at a line that is shown (own)
abbrev pub begins : List LineKind → ℕ → Bool
begins kinds i = (i == 0) || not (is_shown kinds (i - 1))

-- the header before a line that is shown, where a hunk begins there (own)
abbrev pub hunk_header_before : List LineKind → ℕ → List ℕ
hunk_header_before kinds i = if begins kinds i then hunk_header_at kinds i else []

-- the text of a line in a diff, where it is shown (own)
abbrev pub text_at : List LineKind → List (List ℕ) → ℕ → List ℕ
text_at kinds lines i =
    if is_shown kinds i
    then hunk_header_before kinds i ++ line_text (slice_index_or kinds i Context) (slice_index_or lines i [])
    else []

-- the hunks of a diff (own)
abbrev pub parts_text : List LineKind → List (List ℕ) → List ℕ
parts_text kinds lines = flat_map (text_at kinds lines) (range_with_len 0 (length kinds))
