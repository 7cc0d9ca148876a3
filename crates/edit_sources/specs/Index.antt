-- The results of a lookup in an index (Cargo reference, "Registries", index format).
use Rattle.std.specs.Prelude.{◌≡◌, ℕ, ◌≤◌, ◌⊎◌, ◌↔◌, List, map, Option, option_map, Result, Err, IfErr, string_bytes}
use Rattle.std.specs.declared.alloc.Global.{Global}
use Rattle.std.specs.Rc.{rc_value}
use Rattle.std.specs.declared.rc.Rc.{Rc}
use Rattle.url.specs.Parts.{Parts}
use Rattle.edit_base.specs.declared.errors.Error.{Error}
use Rattle.edit_base.specs.declared.errors.Error.TheVariants.{Scheme, IndexPath, BadCrateName, IndexLine}
use Rattle.edit_base.specs.Errors.{number_of, IsMemory}
use Rattle.edit_version.specs.IndexEntry.{IndexEntry, entry_of}
use Rattle.edit_store.specs.Store.{IsRaisedCount}
use Rattle.edit_sources.specs.declared.index.IndexKrate.{IndexKrate}

-- the entries of a crate (own)
abbrev pub entries_of : IndexKrate → List IndexEntry
entries_of krate = map entry_of krate.versions.items

-- the entries of a crate; none where the index has no crate of that name (own)
abbrev pub answer_of : Option IndexKrate → Option (List IndexEntry)
answer_of krate = option_map entries_of krate

-- an answer that several owners share (own)
abbrev pub shared_in : Option (Rc IndexKrate Global) → Option IndexKrate
shared_in answer = option_map rc_value answer

-- the model of an error of a lookup: a scheme that the index does not support, a URL that names no folder,
-- an invalid crate name, the number of a malformed line, or any other error by its number (own)
pub data LookupError : Type 0 where
  bad_scheme : List ℕ → LookupError
  bad_address : List ℕ → LookupError
  bad_name : List ℕ → LookupError
  bad_line : ℕ → LookupError
  another : ℕ → LookupError

-- the model of an error, with its text or its line (own)
abbrev pub lookup_error : Error → LookupError
lookup_error (Scheme scheme) = bad_scheme (string_bytes scheme)
lookup_error (IndexPath address) = bad_address (string_bytes address)
lookup_error (BadCrateName name) = bad_name (string_bytes name)
lookup_error (IndexLine line) = bad_line line
lookup_error e = another (number_of e)

-- the result of a lookup: entries, none, or an error (own)
abbrev pub Outcome : Type 0
Outcome = Result (Option (List IndexEntry)) LookupError

-- the possible results of a lookup of a name at an address (own)
abbrev pub Outcomes : Type 1
Outcomes = Parts → List ℕ → Outcome → Type 0

-- the model of an index: the possible results of its lookups, and its count of faults (own)
pub record IndexView : Type 1 where
  pub gives : Outcomes
  pub faults : ℕ

-- the numbers of the errors `Scheme`, `IndexPath`, `BadCrateName` and `IndexLine` (own)
abbrev pub IsLookupErrorNumber : ℕ → Type 0
IsLookupErrorNumber n = (27 ≤ n) × (n ≤ 30)

-- the same possible results for each address and name (own)
abbrev pub SameOutcomes : Outcomes → Outcomes → Type 0
SameOutcomes old new =
    (address : Parts) (name : List ℕ) (outcome : Outcome)
    → new address name outcome ↔ old address name outcome

-- an error that depends only on the arguments of the lookup and the contents of the index (own)
abbrev pub IsOutcomeError : Outcomes → Parts → List ℕ → Error → Type 0
IsOutcomeError gives address name e = IsLookupErrorNumber (number_of e)
    × gives address name (Err (lookup_error e))

-- the errors of a lookup: lack of memory, one that the index gives, or a fault of the device, which is
-- counted (own)
abbrev pub IsLookupError : IndexView → IndexView → Parts → List ℕ → Error → Type 0
IsLookupError old new address name e =
    IsMemory e
    ⊎ (IsOutcomeError old.gives address name e ⊎ ((number_of e ≡ 3) × IsRaisedCount old.faults new.faults))

-- the count of faults never falls, and a lookup fails only for one of these reasons (own)
pub record HasLookupCause {T : Type 0} (old new : IndexView) (address : Parts) (name : List ℕ)
    (result : Result T Error) : Type 0 where
  pub later : old.faults ≤ new.faults
  pub refused : IfErr result (IsLookupError old new address name)
