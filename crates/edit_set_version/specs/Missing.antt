-- Selected names that no member of a workspace has (own, after cargo-edit).
use Rattle.std.specs.Prelude.{◌⊎◌, ℕ, List, map, not}
use Rattle.std.specs.List.{filter}
use Rattle.edit_base.specs.Errors.{IsMemory}
use Rattle.edit_base.specs.declared.errors.Error.{Error}
use Rattle.edit_metadata.specs.Metadata.{PackageModel, WorkspaceModel, members}
use Rattle.edit_set_version.specs.Chosen.{SelectionView, each_once, is_among, missing}
use Rattle.edit_set_version.specs.PlanCauses.{IsMissing}

-- the names of the members among packages
abbrev pub names_of : List PackageModel → List (List ℕ)
names_of ps = map (λ p. p.name) (members ps)

-- the names of a list that are not among these, without duplicates
abbrev pub names_not_among : List (List ℕ) → List (List ℕ) → List (List ℕ)
names_not_among there names = filter (λ name. not (is_among there name)) (each_once names)

-- the error has the selected names that no member has, or is out of memory
abbrev pub IsMissingNamesError : SelectionView → WorkspaceModel → Error → Type 0
IsMissingNamesError a w e = IsMemory e ⊎ IsMissing (missing a (names_of w.packages)) e
