-- The table of a report, as text: lines of cells, each cell as wide as the widest of its column.
use Rattle.std.specs.Prelude.{ℕ, ◌-◌, max, List, [], ◌∷◌, ◌++◌, length, map, fold, filter, nat_lt, replicate, Bool, true, false, Option, Some, None, ℤ, codes, string_bytes}
use Rattle.std.specs.List.{flat_map, join_by, list_any}
use Rattle.edit_report.specs.ShownRows.{is_shown}
use Rattle.edit_report.specs.declared.row.Reason.{Reason}
use Rattle.edit_report.specs.declared.row.Reason.TheVariants as reason
use Rattle.edit_report.specs.declared.row.Row.{Row}
use Rattle.std.specs.declared.alloc.Global.{Global}
use Rattle.std.specs.declared.string.String.{String}

-- the cells of a line
pub record Cells : Type 0 where
  pub name : List ℕ
  pub old : List ℕ
  pub compatible : List ℕ
  pub latest : List ℕ
  pub new : List ℕ
  pub note : List ℕ

-- the line of column titles (own)
abbrev pub headings : Cells
headings = record {
  name = codes "name";
  old = codes "old req";
  compatible = codes "compatible";
  latest = codes "latest";
  new = codes "new req";
  note = codes "note";
}

-- the line that underlines the column titles (own)
abbrev pub underlines : Cells
underlines = record {
  name = codes "====";
  old = codes "=======";
  compatible = codes "==========";
  latest = codes "======";
  new = codes "=======";
  note = codes "====";
}

-- the name of a crate, and for a renamed dependency `name (rename)` (own)
abbrev pub name_text : List ℕ → Option (String Global) → List ℕ
name_text name None = name
name_text name (Some rename) = name ++ (codes " (" ++ (string_bytes rename ++ codes ")"))

-- a text, or `-` where there is none (own)
abbrev pub or_dash : Option (String Global) → List ℕ
or_dash None = codes "-"
or_dash (Some text) = string_bytes text

-- the text of a reason in the column of notes (own)
abbrev pub reason_text : Option Reason → List ℕ
reason_text None = []
reason_text (Some reason.Latest) = []
reason_text (Some reason.Compatible) = codes "compatible"
reason_text (Some reason.Incompatible) = codes "incompatible"
reason_text (Some reason.Pinned) = codes "pinned"
reason_text (Some reason.GitSource) = codes "git"
reason_text (Some reason.PathSource) = codes "local"
reason_text (Some reason.Excluded) = codes "excluded"

-- the cells of a row (own)
abbrev pub row_cells : Row → Cells
row_cells r = record {
  name = name_text (string_bytes r.name) r.rename;
  old = or_dash r.old;
  compatible = or_dash r.compatible;
  latest = or_dash r.latest;
  new = or_dash r.new;
  note = reason_text r.reason;
}

-- a column, as the function that takes its cell out of a line
abbrev pub Column : Type 0
Column = Cells → List ℕ

-- the column of notes, where there is one (own)
abbrev pub note_column : Bool → List Column
note_column true = (λ line. line.note) ∷ []
note_column false = []

-- the columns, in order (own)
abbrev pub columns : Bool → List Column
columns noted = (λ line. line.name) ∷ (λ line. line.old) ∷ (λ line. line.compatible) ∷ (λ line. line.latest)
    ∷ (λ line. line.new) ∷ note_column noted

-- the greatest of numbers, or 0 for an empty list
abbrev pub greatest : List ℕ → ℕ
greatest ns = fold max 0 ns

-- the width of a column: the greatest length of its cells, in bytes (own)
abbrev pub width : List Cells → Column → ℕ
width lines column = greatest (map (λ line. length (column line)) lines)

-- a cell padded with spaces to a width (own)
abbrev pub padded : ℕ → List ℕ → List ℕ
padded n cell = cell ++ replicate (n - length cell) 32

-- a line of a table with these lines: its padded cells, joined by a space, and a line end (own)
abbrev pub line_text : List Cells → List Column → Cells → List ℕ
line_text lines columns line =
    join_by (λ column. padded (width lines column) (column line)) (codes " ") columns ++ 10 ∷ []

-- the text of a table with these lines (own)
abbrev pub lines_text : List Column → List Cells → List ℕ
lines_text columns lines = flat_map (line_text lines columns) lines

-- the row has a text for its reason
abbrev pub has_note_text : Row → Bool
has_note_text r = nat_lt 0 (length (reason_text r.reason))

-- the table of these rows; empty where there are none (own)
abbrev pub table_of : List Row → List ℕ
table_of [] = []
table_of (r ∷ rs) =
    lines_text (columns (list_any has_note_text (r ∷ rs))) (headings ∷ underlines ∷ map row_cells (r ∷ rs))

-- the table of a report of this verbosity (own)
abbrev pub report_text : ℤ → List Row → List ℕ
report_text verbosity rows = table_of (filter (is_shown verbosity) rows)
