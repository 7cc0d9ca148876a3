-- The place of a failure, from the input or the entry that it names.
use Rattle.std.proofs.Common.{◌≡◌, ◌∙◌, ◌<◌, List, ℕ, Option, None, Some, ap, get_or, inl, inr, length, subst, sym}
use Rattle.std.specs.Prelude.{◌⊎◌, IfSome, String, option_and_then, option_map, slice_get, string_bytes}
use Rattle.std.specs.declared.alloc.Global.{Global}
use Rattle.std.proofs.lemmas.Option.{slice_get-get_or}
use Rattle.std.specs.Global.{Vec}
use Rattle.edit_base.specs.declared.errors.Error.{Error}
use Rattle.edit_document.specs.Items.{place_view}
use Rattle.edit_metadata.specs.declared.input.Input.{Input}
use Rattle.edit_steps.specs.Places.{IsPlaceIn}
use Rattle.edit_tree.specs.declared.place.Step.{Step}
use Rattle.edit_upgrade.specs.Failures.{cause_of}
use Rattle.edit_upgrade.specs.declared.failure.Origin.{Origin}
use Rattle.edit_upgrade.specs.declared.failure.Origin.TheVariants as origin
use Rattle.edit_upgrade.specs.declared.failure.PlanFailure.{PlanFailure}
use Rattle.edit_set_version.specs.Failures.{manifest_of}
use Rattle.edit_set_version.specs.declared.failure.VersionFailure.{VersionFailure}
use Rattle.edit_set_version.specs.declared.failure.VersionOrigin.{VersionOrigin}
use Rattle.edit_diagnostics.specs.declared.explanation.Explanation.{Explanation}
use Rattle.edit_diagnostics.specs.FailurePlaces.{IsInManifest, IsIndexError, IsPlaceOf, IsVersionPlaceOf}
use Rattle.edit_diagnostics.specs.FailurePlaces.IsVersionPlaceOf.{of_bytes, of_value}
use Rattle.edit_diagnostics.specs.FailurePlaces.IsPlaceOf.{of_entry, of_index, of_input}

-- an error of an index may have any place
pub index-place : (place : Option (String Global)) (e : Error) (input : Input) → IsIndexError e
    → IfSome place (λ s. IsIndexError e ⊎ IsInManifest input (string_bytes s))
index-place None e input index = tt
index-place (Some s) e input index = inl index

-- the input at an index
pub input-found : (inputs : List Input) (i : ℕ) (input : Input) → i < length inputs
    → input ≡ get_or inputs i input → slice_get inputs i ≡ Some input
input-found inputs i input low is = slice_get-get_or inputs i input low ∙ ap Some (sym is)

-- a failure at an input has a place in the bytes of this input
pub input-place : (inputs : List Input) (f : PlanFailure) (place : Option (String Global)) (o : Origin)
    (i : ℕ) (input : Input) (path bytes : List ℕ) → f.origin ≡ Some o → o ≡ origin.Input i
    → slice_get inputs i ≡ Some input → path ≡ string_bytes input.path → bytes ≡ input.bytes.items
    → IfSome place (λ s. IsPlaceIn path bytes f.error (string_bytes s))
    → IfSome place (λ s. IsPlaceOf inputs f (string_bytes s))
input-place inputs f None o i input path bytes is own at same whole h = tt
input-place inputs f (Some s) o i input path bytes is own at same whole h =
    of_input i input at (ap (option_map cause_of) is ∙ ap (λ (x : Origin). Some (cause_of x)) own)
    (subst (λ (p : List ℕ). IsPlaceIn p input.bytes.items f.error (string_bytes s)) same
    (subst (λ (b : List ℕ). IsPlaceIn path b f.error (string_bytes s)) whole h))

-- the place of a failure at an entry is in the manifest of the entry, or in an index
pub entry-place : (inputs : List Input) (f : PlanFailure) (place : Option (String Global)) (o : Origin)
    (i : ℕ) (steps : Vec Step) (input : Input) → f.origin ≡ Some o → o ≡ origin.Entry i steps
    → slice_get inputs i ≡ Some input
    → IfSome place (λ s. IsIndexError f.error ⊎ IsInManifest input (string_bytes s))
    → IfSome place (λ s. IsPlaceOf inputs f (string_bytes s))
entry-place inputs f None o i steps input is own at h = tt
entry-place inputs f (Some s) o i steps input is own at (inl index) = of_index index
entry-place inputs f (Some s) o i steps input is own at (inr within) =
    of_entry i (place_view steps.items) input at
    (ap (option_map cause_of) is ∙ ap (λ (x : Origin). Some (cause_of x)) own) within

-- ---- new versions

-- a failure of new versions at an input has a place in the bytes of this input
pub version-bytes : (f : VersionFailure) (place : Option (String Global)) (o : VersionOrigin)
    (path bytes : List ℕ) → f.origin ≡ Some o → path ≡ string_bytes (manifest_of o).path
    → bytes ≡ (manifest_of o).bytes.items
    → IfSome place (λ s. IsPlaceIn path bytes f.error (string_bytes s))
    → IfSome place (λ s. IsVersionPlaceOf f (string_bytes s))
version-bytes f None o path bytes is same whole h = tt
version-bytes f (Some s) o path bytes is same whole h =
    of_bytes o is (subst (λ (p : List ℕ). IsPlaceIn p (manifest_of o).bytes.items f.error (string_bytes s)) same
    (subst (λ (b : List ℕ). IsPlaceIn path b f.error (string_bytes s)) whole h))

-- the place of a failure of new versions is in the manifest that its origin names
pub version-value : (f : VersionFailure) (o : VersionOrigin) (x : Option Explanation)
    (place : Option (String Global)) → f.origin ≡ Some o → place ≡ option_and_then (λ y. y.place) x
    → IfSome x (λ y. IfSome y.place (λ s. IsInManifest (manifest_of o) (string_bytes s)))
    → IfSome place (λ s. IsVersionPlaceOf f (string_bytes s))
version-value f o None place is same h =
    subst (λ (p : Option (String Global)). IfSome p (λ s. IsVersionPlaceOf f (string_bytes s))) (sym same) tt
version-value f o (Some y) place is same h =
    subst (λ (p : Option (String Global)). IfSome p (λ s. IsVersionPlaceOf f (string_bytes s))) (sym same)
    (within y.place h)
  where
    within : (p : Option (String Global)) → IfSome p (λ s. IsInManifest (manifest_of o) (string_bytes s))
        → IfSome p (λ s. IsVersionPlaceOf f (string_bytes s))
    within None g = tt
    within (Some s) g = of_value o is g
