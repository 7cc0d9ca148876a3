-- The place of a failure of a plan: in which manifest, and where (own).
use Rattle.std.specs.Prelude.{◌≡◌, ◌⊎◌, ℕ, List, Some, slice_get, string_bytes, ⊤}
use Rattle.edit_base.specs.declared.errors.Error.{Error}
use Rattle.edit_base.specs.declared.errors.Error.TheVariants as error
use Rattle.edit_metadata.specs.declared.input.Input.{Input}
use Rattle.edit_set_version.specs.Failures.{manifest_of}
use Rattle.edit_set_version.specs.declared.failure.VersionFailure.{VersionFailure}
use Rattle.edit_set_version.specs.declared.failure.VersionOrigin.{VersionOrigin}
use Rattle.edit_steps.specs.Places.{IsPlaceIn}
use Rattle.edit_steps.specs.Printed.{position_text}
use Rattle.edit_tree.specs.Assertions.{Place}
use Rattle.edit_upgrade.specs.Failures.{IsFrom}
use Rattle.edit_upgrade.specs.Failures.Cause.{at_entry, at_input}
use Rattle.edit_upgrade.specs.declared.failure.PlanFailure.{PlanFailure}

-- the text names the manifest of an input, or the line and the column of an offset in it
abbrev pub IsInManifest : Input → List ℕ → Type 0
IsInManifest input text =
    (text ≡ string_bytes input.path)
    ⊎ ((at : ℕ) × (text ≡ position_text (string_bytes input.path) input.bytes.items at))

-- an error of reading an index: its device fails, or one of its lines is malformed
abbrev pub IsIndexError : Error → Type 0
IsIndexError (error.Device call) = ⊤
IsIndexError (error.IndexLine line) = ⊤
IsIndexError _ = ⊥

-- the text is the place of a failure: it is in the manifest of the input that the failure names, where the
-- input is no manifest or one of its entries is the cause; of an error of reading an index it may be any
-- text
pub data IsPlaceOf (inputs : List Input) (f : PlanFailure) (text : List ℕ) : Type 0 where
  of_input : (i : ℕ) (input : Input) → slice_get inputs i ≡ Some input → IsFrom f (at_input i)
      → IsPlaceIn (string_bytes input.path) input.bytes.items f.error text → IsPlaceOf inputs f text
  of_entry : (i : ℕ) (place : Place) (input : Input) → slice_get inputs i ≡ Some input
      → IsFrom f (at_entry i place) → IsInManifest input text → IsPlaceOf inputs f text
  of_index : IsIndexError f.error → IsPlaceOf inputs f text

-- the text is the place of a failure of new versions: it is in the manifest that the failure names
pub data IsVersionPlaceOf (f : VersionFailure) (text : List ℕ) : Type 0 where
  of_bytes : (o : VersionOrigin) → f.origin ≡ Some o
      → IsPlaceIn (string_bytes (manifest_of o).path) (manifest_of o).bytes.items f.error text
      → IsVersionPlaceOf f text
  of_value : (o : VersionOrigin) → f.origin ≡ Some o → IsInManifest (manifest_of o) text
      → IsVersionPlaceOf f text
