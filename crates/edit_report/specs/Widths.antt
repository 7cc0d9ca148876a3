-- The table of a report over the program's types for lines and columns.
use Rattle.std.specs.Prelude.{ℕ, List, [], ◌∷◌, ◌++◌, codes, length, map, string_bytes}
use Rattle.std.specs.List.{join_by}
use Rattle.edit_report.specs.Table.{Cells, greatest, padded}
use Rattle.edit_report.specs.Table.{Column as Redefinition}
use Rattle.edit_report.specs.declared.lines.Column.{Column}
use Rattle.edit_report.specs.declared.lines.Column.TheVariants as column
use Rattle.edit_report.specs.declared.lines.Line.{Line}
use Rattle.edit_report.specs.declared.lines.SizedColumn.{SizedColumn}

-- the cells of a line
abbrev pub cells_of : Line → Cells
cells_of l = record {
  name = string_bytes l.name;
  old = l.old.now;
  compatible = l.compatible.now;
  latest = l.latest.now;
  new = l.new.now;
  note = l.note.now;
}

-- the function that takes the cell of a column out of a line
abbrev pub column_of : Column → Redefinition
column_of column.Name = λ line. line.name
column_of column.Old = λ line. line.old
column_of column.Compatible = λ line. line.compatible
column_of column.Latest = λ line. line.latest
column_of column.New = λ line. line.new
column_of column.Note = λ line. line.note

-- the padded cells of a line, joined by a space
abbrev pub joined_cells : List SizedColumn → Cells → List ℕ
joined_cells ws line = join_by (λ w. padded w.width (column_of w.column line)) (codes " ") ws

-- a line of padded cells with its line end
abbrev pub sized_line : List SizedColumn → Cells → List ℕ
sized_line ws line = joined_cells ws line ++ 10 ∷ []

-- the width of a column in these lines, in bytes
abbrev pub line_width : List Line → Column → ℕ
line_width lines c = greatest (map (λ l. length (column_of c (cells_of l))) lines)

-- a column paired with its width in these lines
abbrev pub sized_column : List Line → Column → SizedColumn
sized_column lines c = record { column = c; width = line_width lines c }
