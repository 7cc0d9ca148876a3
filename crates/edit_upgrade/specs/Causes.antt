-- The errors of a plan, and what causes them.
use Rattle.std.specs.Prelude.{◌≡◌, ◌⊎◌, ◌<◌, ◌++◌, ◌∷◌, ℕ, List, All, IfSome, IsSome, Option, Some, None, slice_get}
use Rattle.std.specs.Global.{Vec}
use Rattle.edit_base.specs.Errors.{IsMemory}
use Rattle.edit_syntax.specs.Grammar.{Text}
use Rattle.edit_tree.specs.Assertions.{IsDocument}
use Rattle.edit_tree.specs.Tree.{view_at}
use Rattle.edit_base.specs.declared.errors.Error.{Error}
use Rattle.edit_manifest.specs.Loaded.{IsBadManifest}
use Rattle.edit_sources.specs.Configured.{HasAddress, HasNoUrl}
use Rattle.edit_sources.specs.Index.{Outcomes}
use Rattle.edit_sources.specs.declared.config.Config.{Config}
use Rattle.url.specs.Parts as url
use Rattle.url.specs.Parts.{serialize}
use Rattle.edit_upgrade.specs.LookupSteps.{IsLookupError}
use Rattle.edit_upgrade.specs.Lookups.{CachedAnswers}
use Rattle.edit_upgrade.specs.Records.{RowEntry, at_registry, row_entries}
use Rattle.edit_upgrade.specs.Rows.{Needs}
use Rattle.edit_metadata.specs.declared.input.Input.{Input}

-- an entry that causes no error: the answer to each lookup that it needs is cached
pub record IsPassed (configs : List Config) (new : CachedAnswers) (e : RowEntry) : Type 0 where
  pub answered : (address : url.Parts) (name : List ℕ) → Needs configs e address name
      → IsSome (new (serialize address) name)
  pub has : (named : Option (List ℕ)) → e.source ≡ at_registry named
      → (address : url.Parts) × HasAddress configs named address

-- the error of an entry: its registry has no address, or the lookup that it needs fails and no answer was
-- cached
pub data StopsAt (configs : List Config) (gives : Outcomes) (old : CachedAnswers) (before now : ℕ)
    (e : RowEntry)
    (error : Error) : Type 0 where
  no_address : (named : Option (List ℕ)) → e.source ≡ at_registry named → HasNoUrl configs named error
      → StopsAt configs gives old before now e error
  no_answer : (address : url.Parts) (name : List ℕ) → Needs configs e address name
      → old (serialize address) name ≡ None
      → IsLookupError gives address name before now error → StopsAt configs gives old before now e error

-- the first entry with an error
pub record StopsFirst (configs : List Config) (gives : Outcomes) (old new : CachedAnswers) (before now : ℕ)
    (es : List RowEntry) (error : Error) : Type 0 where
  pub front : List RowEntry
  pub entry : RowEntry
  pub rest : List RowEntry
  pub split : es ≡ front ++ entry ∷ rest
  pub passed : All (IsPassed configs new) front
  pub stops : StopsAt configs gives old before now entry error

-- the first entry with an error, among those of a manifest that get a row
pub record HasBadEntry (configs : List Config) (gives : Outcomes) (old new : CachedAnswers) (before now : ℕ)
    (bytes : List ℕ) (error : Error) : Type 0 where
  pub form : Text
  pub manifest : IsDocument bytes form
  pub stops : StopsFirst configs gives old new before now (row_entries (view_at form)) error

-- an input that causes no error: it is a manifest, and the lookups of all its entries are cached
pub record InputPasses (configs : List Config) (new : CachedAnswers) (input : Input) : Type 0 where
  pub form : Text
  pub manifest : IsDocument input.bytes.items form
  pub passed : All (IsPassed configs new) (row_entries (view_at form))

-- the first of the inputs that causes an error, for this reason, which names it by its index
pub record FirstInput (inputs : List Input) (configs : List (Vec Config)) (new : CachedAnswers)
    (Stops : ℕ → List Config → List ℕ → Type 0) : Type 0 where
  pub i : ℕ
  pub input : Input
  pub own : Vec Config
  pub at : slice_get inputs i ≡ Some input
  pub configured : slice_get configs i ≡ Some own
  pub passed : (j : ℕ) → j < i
      → IfSome (slice_get inputs j)
      (λ earlier. IfSome (slice_get configs j) (λ c. InputPasses c.items new earlier))
  pub stops : Stops i own.items input.bytes.items

-- the error of a plan over parsed manifests: out of memory, or the first input with an entry that causes
-- one
abbrev pub IsEntryCause : List Input → List (Vec Config) → Outcomes → CachedAnswers → CachedAnswers → ℕ → ℕ
    → Error → Type 0
IsEntryCause inputs configs gives old new before now e =
    IsMemory e
    ⊎ FirstInput inputs configs new (λ i own bytes. HasBadEntry own gives old new before now bytes e)

-- the error of a plan: out of memory, or the first input whose bytes are no manifest or that has an entry
-- with an error
abbrev pub IsCause : List Input → List (Vec Config) → Outcomes → CachedAnswers → CachedAnswers → ℕ → ℕ → Error
    → Type 0
IsCause inputs configs gives old new before now e =
    FirstInput inputs configs new
    (λ i own bytes. IsBadManifest bytes e ⊎ HasBadEntry own gives old new before now bytes e)
