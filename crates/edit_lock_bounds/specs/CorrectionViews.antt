-- The models of corrections.
use Rattle.std.specs.Prelude.{List, map, string_bytes}
use Rattle.edit_lock_bounds.specs.Corrections.{Correction, Outcome, SetBack, NoneFits, Unknown}
use Rattle.edit_lock_bounds.specs.Views.{package_view}
use Rattle.edit_lock_bounds.specs.declared.corrections.Correction.{Correction as RustCorrection}
use Rattle.edit_lock_bounds.specs.declared.corrections.Outcome.{Outcome as RustOutcome}
use Rattle.edit_lock_bounds.specs.declared.corrections.Outcome.TheVariants as rust

-- the model of an outcome (own)
abbrev pub outcome_view : RustOutcome → Outcome
outcome_view (rust.SetBack version) = SetBack (string_bytes version)
outcome_view rust.NoneFits = NoneFits
outcome_view rust.Unknown = Unknown

-- the model of a correction (own)
abbrev pub correction_view : RustCorrection → Correction
correction_view c = record { locked = package_view c.package; outcome = outcome_view c.outcome }

-- the models of corrections (own)
abbrev pub corrections_view : List RustCorrection → List Correction
corrections_view cs = map correction_view cs
