-- A plan of which only the chosen rows change.
use Rattle.std.specs.Prelude.{◌≡◌, ◌≢◌, ℕ, List, [], Option, Some, None, map, string_bytes}
use Rattle.edit_base.specs.declared.errors.Error.{Error}
use Rattle.edit_base.specs.declared.errors.Error.TheVariants.{DependenciesMissing}
use Rattle.edit_base.specs.declared.errors.MissingKind.TheVariants as kind
use Rattle.edit_metadata.specs.declared.input.Input.{Input}
use Rattle.edit_report.specs.declared.row.Row.{Row}
use Rattle.edit_upgrade.specs.Lists.{HasRowLists}
use Rattle.edit_upgrade.specs.Revisions.{HasRevisedOutputs}
use Rattle.edit_upgrade.specs.declared.upgrade.UpgradePlan.{UpgradePlan}
use Rattle.edit_choice.specs.ChosenRows.{AreChosen, missing_texts}
use Rattle.edit_choice.specs.declared.items.RowChoice.{RowChoice}

-- the plan after another one: of its rows only the chosen ones change; the outputs and lists of names are
-- those of the rows, all else stays
pub record IsChosenPlan (choice : RowChoice) (inputs : List Input) (whole p : UpgradePlan) : Type 0 where
  pub there : missing_texts choice whole.rows.items ≡ []
  pub rows : AreChosen choice whole.rows.items p.rows.items
  pub outputs : HasRevisedOutputs inputs p.rows.items p.outputs.items
  pub lists : HasRowLists p
  pub looks : p.looks ≡ whole.looks
  pub warnings : p.warnings ≡ whole.warnings
  pub missing : p.missing ≡ whole.missing

-- a plan of the chosen rows where there is a choice, else the same one
abbrev pub IsChosenOrSame : Option RowChoice → List Input → UpgradePlan → UpgradePlan → Type 0
IsChosenOrSame (Some choice) inputs whole p = IsChosenPlan choice inputs whole p
IsChosenOrSame None inputs whole p = p ≡ whole

-- the error has these texts of rows that are not there
abbrev pub AreRowsListedIn : List (List ℕ) → Error → Type 0
AreRowsListedIn missing (DependenciesMissing list) =
    (list.kind ≡ kind.Row) × (map string_bytes list.names.items ≡ missing)
AreRowsListedIn missing other = ⊥

-- the choice has a number or a name of a row that is not there, and the error lists these
abbrev pub IsMissingRow : RowChoice → List Row → Error → Type 0
IsMissingRow choice rows e =
    (missing_texts choice rows ≢ []) × AreRowsListedIn (missing_texts choice rows) e

-- the same of a choice, where there is one
abbrev pub HasMissingRow : Option RowChoice → List Row → Error → Type 0
HasMissingRow (Some choice) rows e = IsMissingRow choice rows e
HasMissingRow None rows e = ⊥
