-- Lines of a report, by their form (own).
use Rattle.std.specs.Prelude.{ℕ, List, [], Bool, not, ◌&&◌, ◌||◌, ◌==◌, codes, drop, if◌then◌else◌, length, nat_eq, nat_le, position, take}
use Rattle.std.specs.Char.{is_ascii_alphabetic}
use Rattle.std.specs.List.{list_all, starts_with}
use Rattle.std.specs.Option.{option_map_or}
use Rattle.edit_terminal.specs.declared.styles.Style.{Style}
use Rattle.edit_terminal.specs.declared.styles.Style.TheVariants.{Plain, Status, Warning, Note, Failure}

-- a text without the spaces before it
abbrev pub without_spaces : List ℕ → List ℕ
without_spaces text = option_map_or (λ n. drop n text) (position (λ b. not (b == 32)) text) []

-- a word of letters
abbrev pub is_word : List ℕ → Bool
is_word text = nat_le 1 (length text) && list_all is_ascii_alphabetic text

-- a status line: a word that is right-aligned to twelve columns, and a space
abbrev pub is_status : List ℕ → Bool
is_status line = is_word (without_spaces (take 12 line)) && starts_with nat_eq (drop 12 line) (codes " ")

-- the line of column titles of an upgrade's table
abbrev pub is_heading : List ℕ → Bool
is_heading line =
    starts_with nat_eq line (codes "name ")
    && starts_with nat_eq (without_spaces (drop 4 line)) (codes "old req ")

-- the line that underlines the titles
abbrev pub is_underline : List ℕ → Bool
is_underline line = starts_with nat_eq line (codes "=") && list_all (λ b. (b == 61) || (b == 32)) line

-- the first line of a diff
abbrev pub is_diff_start : List ℕ → Bool
is_diff_start line = starts_with nat_eq line (codes "--- ")

-- the line has the titles of a table, or underlines them
abbrev pub is_title : List ℕ → Bool
is_title line = is_heading line || is_underline line

-- the number of bytes at the beginning of a message that have a style, and this style
abbrev pub beginning : List ℕ → ℕ × Style
beginning line =
    if is_status line then (12, Status)
    else (if starts_with nat_eq line (codes "warning:") then (8, Warning)
    else (if starts_with nat_eq line (codes "note:") then (5, Note)
    else (if starts_with nat_eq line (codes "error:") || starts_with nat_eq line (codes "Error:")
    then (6, Failure)
    else (0, Plain))))
