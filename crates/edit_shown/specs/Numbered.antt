-- The rows that change, numbered from 1 (own).
use Rattle.std.specs.Prelude.{ℕ, List, [], ◌∷◌, ◌++◌, codes, decimal, filter, is_some, suc}
use Rattle.edit_metadata.specs.declared.input.Input.{Input}
use Rattle.edit_report.specs.declared.row.Row.{Row}
use Rattle.edit_shown.specs.Annotations.{relative_path, row_text}
use Rattle.edit_shown.specs.Messages.{path_at}

-- the line of a row: its number, its manifest relative to a folder, and what becomes of its requirement
abbrev pub numbered_line : ℕ → List ℕ → List Input → Row → List ℕ
numbered_line number root inputs row =
    decimal number ++ (codes "  " ++ (relative_path root (path_at inputs row.input)
    ++ (codes "  " ++ (row_text row ++ 10 ∷ []))))

-- the lines of rows, the first of which has this number
abbrev pub numbered_from : ℕ → List ℕ → List Input → List Row → List ℕ
numbered_from number root inputs [] = []
numbered_from number root inputs (row ∷ rows) =
    numbered_line number root inputs row ++ numbered_from (suc number) root inputs rows

-- the lines of the rows that change
abbrev pub numbered : List ℕ → List Input → List Row → List ℕ
numbered root inputs rows = numbered_from 1 root inputs (filter (λ row. is_some row.change) rows)
