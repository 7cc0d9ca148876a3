-- The choice of rows that parsed arguments give.
use Rattle.std.specs.Prelude.{◌≡◌, ◌⊎◌, ◌&&◌, List, Option, Some, None, codes, false, true}
use Rattle.clap.specs.Words.{Row, Text, first_of}
use Rattle.edit_choice.specs.ChoiceTexts.{IsChoiceText}
use Rattle.edit_choice.specs.declared.items.RowChoice.{RowChoice}
use Rattle.edit_program.specs.ParsedOptions.{is_given}

-- the choice that a value of `--rows` is, if there is one
abbrev pub IsRowChoice : Option Text → Option RowChoice → Type 0
IsRowChoice None chosen = chosen ≡ None
IsRowChoice (Some text) None = ⊥
IsRowChoice (Some text) (Some chosen) = IsChoiceText text chosen

-- the value of `--rows` is no choice
abbrev pub HasNoRowChoice : Option Text → Type 0
HasNoRowChoice None = ⊥
HasNoRowChoice (Some text) = (chosen : RowChoice) → IsChoiceText text chosen → ⊥

-- `--interactive` is given with `--check`
abbrev pub IsInteractiveCheck : List Row → Type 0
IsInteractiveCheck rows = (is_given (codes "interactive") rows && is_given (codes "check") rows) ≡ true

-- the choice that the arguments give; `--interactive` is not given with `--check`
pub record HasRowChoice (rows : List Row) (chosen : Option RowChoice) : Type 0 where
  pub apart : (is_given (codes "interactive") rows && is_given (codes "check") rows) ≡ false
  pub is : IsRowChoice (first_of (codes "rows") rows) chosen

-- `--interactive` is given with `--check`, or the value of `--rows` is no choice
abbrev pub HasRowFault : List Row → Type 0
HasRowFault rows = IsInteractiveCheck rows ⊎ HasNoRowChoice (first_of (codes "rows") rows)
