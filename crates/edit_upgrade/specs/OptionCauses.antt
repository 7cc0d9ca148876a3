-- The errors of options, which are found before any input is read.
use Rattle.std.specs.Prelude.{◌≡◌, ◌≢◌, ◌⊎◌, ◌++◌, [], ◌∷◌, ℕ, List, All}
use Rattle.edit_base.specs.Errors.{IsMemory}
use Rattle.edit_base.specs.declared.errors.Error.{Error}
use Rattle.edit_version.specs.CrateSpecs.{IsInvalidSpec}
use Rattle.edit_upgrade.specs.EntrySelection.{IsPackageArg, package_args_of}
use Rattle.edit_upgrade.specs.declared.decision.options.Options.{Options}

-- the first `--package` argument with an error: it has no valid name, its requirement cannot be parsed, or
-- memory ran out
pub record FailsAtPackageArg (args : List (List ℕ)) (e : Error) : Type 0 where
  pub front : List (List ℕ)
  pub arg : List ℕ
  pub rest : List (List ℕ)
  pub split : args ≡ front ++ arg ∷ rest
  pub read : All IsPackageArg front
  pub refused : IsInvalidSpec arg e

-- the error of options: that of a `--package` argument, or out of memory while the excluded names are
-- collected
abbrev pub IsOptionCause : Options → Error → Type 0
IsOptionCause o e = FailsAtPackageArg (package_args_of o) e ⊎ (IsMemory e × (o.exclude.items ≢ []))

-- the error of a plan: that of its options, or, where all `--package` arguments are valid, one with this
-- cause
abbrev pub IsPlanError : Options → (Error → Type 0) → Error → Type 0
IsPlanError o Cause e = IsOptionCause o e ⊎ (All IsPackageArg (package_args_of o) × Cause e)
