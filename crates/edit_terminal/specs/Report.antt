-- A report on a terminal: messages with styles, and tables whose columns are aligned as a terminal shows them
-- (own).
use Rattle.std.specs.Prelude.{ℕ, List, [], ◌∷◌, ◌++◌, Bool, not, ◌&&◌, ◌==◌, chars, codes, drop, fold, if◌then◌else◌, take}
use Rattle.edit_terminal.specs.Lines.{beginning, is_diff_start, is_title, is_underline}
use Rattle.edit_terminal.specs.Rows.{column_starts, is_row, row_text}
use Rattle.edit_terminal.specs.Shown.{terminal_chars}
use Rattle.edit_terminal.specs.Styles.{style_if, styled}
use Rattle.edit_terminal.specs.declared.styles.Style.TheVariants.{Title}

-- a message whose beginning has a style, where styles are wanted
abbrev pub message_text : Bool → List ℕ → List ℕ
message_text wanted line =
    styled (style_if wanted (beginning line).1) (chars (take (beginning line).0 line))
    ++ terminal_chars (chars (drop (beginning line).0 line))

-- a line, where the columns of the table before it begin at these bytes: the titles of a table, a row, or a
-- message
abbrev pub line_text : Bool → List ℕ → List ℕ → List ℕ
line_text wanted starts line =
    if is_title line then styled (style_if wanted Title) (chars line)
    else (if not (is_diff_start line) && is_row starts line then row_text wanted starts line
    else message_text wanted line)

-- where the columns begin after a line: a table ends where a diff begins
abbrev pub starts_after : List ℕ → List ℕ → List ℕ
starts_after starts line =
    if is_underline line then column_starts line
    else (if is_diff_start line then [] else starts)

-- what a writer holds of a report: the bytes of a line that has not ended, and where the columns begin
pub record Held : Type 0 where
  pub line : List ℕ
  pub starts : List ℕ

-- what is held, from its parts
abbrev pub held : List ℕ → List ℕ → Held
held line starts = record { line = line; starts = starts }

-- what is held after one more byte
abbrev pub next : Held → ℕ → Held
next h b =
    if b == 10 then held [] (starts_after h.starts h.line) else held (h.line ++ b ∷ []) h.starts

-- what is held after bytes
abbrev pub held_after : Held → List ℕ → Held
held_after h bytes = fold next h bytes

-- what is written at a byte: at a line end the line
abbrev pub written_at : Bool → Held → ℕ → List ℕ
written_at wanted h b = if b == 10 then line_text wanted h.starts h.line ++ codes "\n" else []

-- what is written of bytes
abbrev pub report_text : Bool → Held → List ℕ → List ℕ
report_text wanted h [] = []
report_text wanted h (b ∷ bytes) = written_at wanted h b ++ report_text wanted (next h b) bytes

-- what is written of a line that has not ended
abbrev pub rest_text : Bool → List ℕ → List ℕ → List ℕ
rest_text wanted starts [] = []
rest_text wanted starts (b ∷ line) = line_text wanted starts (b ∷ line)
