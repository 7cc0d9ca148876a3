-- Rows of a table, whose cells are padded by bytes, with cells as wide as a terminal shows them (own).
use Rattle.std.specs.Prelude.{ℕ, ◌+◌, ◌-◌, List, ◌++◌, Bool, false, not, ◌&&◌, ◌||◌, ◌==◌, chars, drop, filter, if◌then◌else◌, length, min, replicate, slice_index, slice_index_or, take}
use Rattle.std.specs.List.{flat_map, list_all, range_with_len}
use Rattle.std.specs.Str.{bytes_eq, is_utf8}
use Rattle.unicode_width.specs.Width.{str_width}
use Rattle.edit_terminal.specs.Styles.{style_if, styled}
use Rattle.edit_terminal.specs.declared.styles.Style.{Style}
use Rattle.edit_terminal.specs.declared.styles.Style.TheVariants.{Plain, Change}

-- a column begins at this byte of the line that underlines the titles
abbrev pub is_start : List ℕ → ℕ → Bool
is_start line at = (slice_index line at == 61) && ((at == 0) || (slice_index line (at - 1) == 32))

-- where the columns of the underlined titles begin
abbrev pub column_starts : List ℕ → List ℕ
column_starts line = filter (is_start line) (range_with_len 0 (length line))

-- the bytes of a line in the column at this index, up to where the next one begins
abbrev pub cell : List ℕ → List ℕ → ℕ → List ℕ
cell starts line i =
    drop (slice_index starts i) (take (slice_index_or starts (i + 1) (length line)) line)

-- a text has only spaces
abbrev pub is_blank : List ℕ → Bool
is_blank text = list_all (λ b. b == 32) text

-- two cells are the same but for spaces at their ends
abbrev pub is_same_cell : List ℕ → List ℕ → Bool
is_same_cell a b =
    let n = min (length a) (length b) in
    bytes_eq (take n a) (take n b) && (is_blank (drop n a) && is_blank (drop n b))

-- the style of a cell: that of a change for a new requirement, in the column at index 4, that differs from
-- the old one, at index 1
abbrev pub cell_style : List ℕ → List ℕ → ℕ → Style
cell_style starts line i =
    if (i == 4) && not (is_same_cell (cell starts line 1) (cell starts line 4)) then Change else Plain

-- a cell, and behind it as many spaces as it takes fewer columns than bytes
abbrev pub cell_text : Style → List ℕ → List ℕ
cell_text style bytes =
    styled style (chars bytes) ++ replicate (length bytes - str_width false (chars bytes)) 32

-- the cells of a row
abbrev pub row_text : Bool → List ℕ → List ℕ → List ℕ
row_text wanted starts line =
    flat_map (λ i. cell_text (style_if wanted (cell_style starts line i)) (cell starts line i))
    (range_with_len 0 (length starts))

-- a line of a table with columns, in which no column begins within a character
abbrev pub is_row : List ℕ → List ℕ → Bool
is_row starts line = not (length starts == 0)
    && list_all (λ i. is_utf8 (cell starts line i)) (range_with_len 0 (length starts))
