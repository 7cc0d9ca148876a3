-- The tables that an upgrade prints on standard output, one for each input (own, after cargo-edit).
use Rattle.std.specs.Prelude.{ℕ, ℤ, List, [], ◌==◌, filter}
use Rattle.std.specs.List.{flat_map}
use Rattle.std.specs.List.Sorted.{IsNonDecreasingBy}
use Rattle.edit_report.specs.Table.{report_text}
use Rattle.edit_report.specs.declared.row.Row.{Row}
use Rattle.edit_shown.specs.declared.presentation.MessageFormat.{MessageFormat}
use Rattle.edit_shown.specs.declared.presentation.MessageFormat.TheVariants.{Human, Json, Markdown, Github, Numbered}
use Rattle.edit_upgrade.specs.Inputs.{below}

-- the rows of an input
abbrev pub rows_at : ℕ → List Row → List Row
rows_at i rows = filter (λ row. row.input == i) rows

-- the rows are in the order of their inputs
abbrev pub AreInOrder : List Row → Type 0
AreInOrder rows = IsNonDecreasingBy (λ row. row.input) rows

-- the table of the rows of an input; empty where a plan is printed as JSON, as one table, or as annotations
abbrev pub table : MessageFormat → ℤ → List Row → ℕ → List ℕ
table Human verbosity rows i = report_text verbosity (rows_at i rows)
table Json verbosity rows i = []
table Markdown verbosity rows i = []
table Github verbosity rows i = []
table Numbered verbosity rows i = []

-- the tables of the first inputs, as many as this number
abbrev pub tables : MessageFormat → ℤ → List Row → ℕ → List ℕ
tables format verbosity rows n = flat_map (table format verbosity rows) (below n)
