-- The failures of a plan: their errors, and the input or the entry that caused each.
use Rattle.std.specs.Prelude.{◌≡◌, ◌⊎◌, ℕ, List, Some, option_map}
use Rattle.std.specs.Global.{Vec}
use Rattle.edit_base.specs.Errors.{IsMemory}
use Rattle.edit_tree.specs.Assertions.{Place}
use Rattle.edit_document.specs.Items.{place_view}
use Rattle.edit_manifest.specs.Loaded.{IsBadManifest}
use Rattle.edit_metadata.specs.declared.input.Input.{Input}
use Rattle.edit_sources.specs.declared.config.Config.{Config}
use Rattle.edit_upgrade.specs.Caches.{CacheView, StopsManifest}
use Rattle.edit_upgrade.specs.Causes.{FirstInput, StopsFirst}
use Rattle.edit_upgrade.specs.OptionCauses.{IsPlanError}
use Rattle.edit_upgrade.specs.Records.{RowEntry}
use Rattle.edit_upgrade.specs.declared.decision.options.Options.{Options}
use Rattle.edit_upgrade.specs.declared.failure.Origin.{Origin}
use Rattle.edit_upgrade.specs.declared.failure.Origin.TheVariants as origin
use Rattle.edit_upgrade.specs.declared.failure.PlanFailure.{PlanFailure}

-- what caused an error: an input, or the entry at a place of an input
pub data Cause : Type 0 where
  at_input : ℕ → Cause
  at_entry : ℕ → Place → Cause

-- the cause that an origin names (own)
abbrev pub cause_of : Origin → Cause
cause_of (origin.Input i) = at_input i
cause_of (origin.Entry i place) = at_entry i (place_view place.items)

-- a failure names this cause
abbrev pub IsFrom : PlanFailure → Cause → Type 0
IsFrom f cause = option_map cause_of f.origin ≡ Some cause

-- the failure of a plan at an input that is no manifest: it names the input, unless memory ran out
abbrev pub FailsAtBytes : ℕ → List ℕ → PlanFailure → Type 0
FailsAtBytes i bytes f = IsBadManifest bytes f.error × (IsMemory f.error ⊎ IsFrom f (at_input i))

-- a plan fails at the first of these entries of an input with an error, and the failure names this entry
abbrev pub FailsAt : ℕ → List Config → CacheView → CacheView → List RowEntry → PlanFailure → Type 0
FailsAt i configs old new es f =
    (stops : StopsFirst configs old.gives old.cached new.cached old.faults new.faults es f.error)
    × IsFrom f (at_entry i stops.entry.place)

-- the failure of a plan at the first entry of an input that causes an error: it names the entry
abbrev pub FailsAtEntry : ℕ → List Config → List ℕ → CacheView → CacheView → PlanFailure → Type 0
FailsAtEntry i configs bytes old new f =
    (bad : StopsManifest configs bytes old new f.error) × IsFrom f (at_entry i bad.stops.entry.place)

-- the failure of a plan: at the options, or, where all `--package` arguments are valid, one of this kind
abbrev pub IsPlanFailure : Options → (PlanFailure → Type 0) → PlanFailure → Type 0
IsPlanFailure o Fails f = IsPlanError o (λ e. Fails f) f.error

-- the failure of a plan over parsed manifests: memory ran out, or it names the first entry that causes an
-- error
abbrev pub FailsOnDocuments : List Input → List (Vec Config) → CacheView → CacheView → PlanFailure → Type 0
FailsOnDocuments inputs configs old new f =
    IsMemory f.error
    ⊎ FirstInput inputs configs new.cached (λ i own bytes. FailsAtEntry i own bytes old new f)

-- the failure of a plan: it names the first input that is no manifest or that has an entry with an error
abbrev pub FailsOnInputs : List Input → List (Vec Config) → CacheView → CacheView → PlanFailure → Type 0
FailsOnInputs inputs configs old new f =
    FirstInput inputs configs new.cached
    (λ i own bytes. FailsAtBytes i bytes f ⊎ FailsAtEntry i own bytes old new f)
