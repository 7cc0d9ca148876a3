-- The rows of an upgrade as one table of GitHub Flavored Markdown (own).
use Rattle.std.specs.Prelude.{ℕ, ℤ, List, [], ◌∷◌, ◌++◌, Option, Some, None, not, codes, if◌then◌else◌, filter, map, nat_eq, encode_utf8, slice_get, string_bytes, String}
use Rattle.std.specs.Char.{is_ascii_punctuation, is_control}
use Rattle.std.specs.List.{dedup, flat_map, join_by}
use Rattle.std.specs.Option.{option_map_or}
use Rattle.std.specs.Str.{bytes_eq, chars}
use Rattle.std.specs.declared.alloc.Global.{Global}
use Rattle.edit_metadata.specs.declared.input.Input.{Input}
use Rattle.edit_report.specs.ShownRows.{is_shown}
use Rattle.edit_report.specs.Table.{name_text, reason_text}
use Rattle.edit_report.specs.declared.row.Change.{Change}
use Rattle.edit_report.specs.declared.row.Change.TheVariants as change
use Rattle.edit_report.specs.declared.row.Row.{Row}
use Rattle.edit_shown.specs.declared.markdown.lines.MarkdownLine.{MarkdownLine}

-- a character in a cell: U+FFFD for a control character, so that a row stays one line, and ASCII punctuation
-- after a backslash (CommonMark 2.4, "Backslash escapes"; GitHub Flavored Markdown 4.10, "Tables")
abbrev pub cell_char : ℕ → List ℕ
cell_char c =
    if is_control c then encode_utf8 0xFFFD
    else (if is_ascii_punctuation c then 92 ∷ encode_utf8 c else encode_utf8 c)

-- a text in a cell, in which no character is markup (own)
abbrev pub cell_text : List ℕ → List ℕ
cell_text text = flat_map cell_char (chars text)

-- a requirement in a cell, and `-` where there is none (own)
abbrev pub requirement_cell : Option (String Global) → List ℕ
requirement_cell None = codes "-"
requirement_cell (Some text) = cell_text (string_bytes text)

-- which version a new requirement was made from; empty where nothing changes (own)
abbrev pub change_text : Option Change → List ℕ
change_text None = []
change_text (Some change.Explicit) = codes "explicit"
change_text (Some change.Latest) = codes "latest"
change_text (Some change.Compatible) = codes "compatible"
change_text (Some change.Unified) = codes "unified"

-- the cells of a row, up to that of the members (own)
abbrev pub row_cells : Row → List ℕ
row_cells r =
    codes "| " ++ (cell_text (name_text (string_bytes r.name) r.rename)
    ++ (codes " | " ++ (requirement_cell r.old
    ++ (codes " | " ++ (requirement_cell r.new
    ++ (codes " | " ++ (change_text r.change
    ++ (codes " | " ++ (reason_text r.reason ++ codes " | ")))))))))

-- a row of a report: its cells up to that of the members, and the index of its input
pub record Line : Type 0 where
  pub cells : List ℕ
  pub input : ℕ

-- the line of a row (own)
abbrev pub line_of : Row → Line
line_of r = record { cells = row_cells r; input = r.input }

-- a line as the program has it
abbrev pub line_view : MarkdownLine → Line
line_view l = record { cells = string_bytes l.cells; input = l.input }

-- the lines of the rows that a report of this verbosity shows (own)
abbrev pub shown_lines : ℤ → List Row → List Line
shown_lines verbosity rows = map line_of (filter (is_shown verbosity) rows)

-- texts, each once, in the order in which they first occur
abbrev pub distinct : List (List ℕ) → List (List ℕ)
distinct [] = []
distinct (text ∷ texts) = text ∷ filter (λ other. not (bytes_eq text other)) (distinct texts)

-- the inputs of the lines with these cells, in order
abbrev pub inputs_of : List Line → List ℕ → List ℕ
inputs_of lines cells = map (λ line. line.input) (filter (λ line. bytes_eq cells line.cells) lines)

-- the name of the input at this index; empty where there is none (own)
abbrev pub member_cell : List Input → ℕ → List ℕ
member_cell inputs i = option_map_or (λ input. cell_text (string_bytes input.name)) (slice_get inputs i) []

-- the names of inputs, one that follows itself once (own)
abbrev pub members_cell : List Input → List ℕ → List ℕ
members_cell inputs members = join_by (member_cell inputs) (codes ", ") (dedup nat_eq members)

-- a row of the table: its cells, and the names of its inputs (own)
abbrev pub table_row : List Input → List ℕ → List ℕ → List ℕ
table_row inputs cells members = cells ++ (members_cell inputs members ++ codes " |\n")

-- the rows of the table: one for each text of cells, in the order in which they first occur, with the inputs
-- of the lines that have it (own)
abbrev pub table_rows : List Input → List Line → List ℕ
table_rows inputs lines =
    flat_map (λ cells. table_row inputs cells (inputs_of lines cells))
    (distinct (map (λ line. line.cells) lines))

-- the titles of the columns, and the row below them (GitHub Flavored Markdown 4.10, "delimiter row")
abbrev pub heading : List ℕ
heading = codes "| Crate | From | To | Kind | Note | Members |\n| --- | --- | --- | --- | --- | --- |\n"

-- the table of lines; empty where there are none (own)
abbrev pub table_of : List Input → List Line → List ℕ
table_of inputs [] = []
table_of inputs (line ∷ lines) = heading ++ table_rows inputs (line ∷ lines)

-- the table of the rows that a report of this verbosity shows (own)
abbrev pub markdown : ℤ → List Row → List Input → List ℕ
markdown verbosity rows inputs = table_of inputs (shown_lines verbosity rows)
