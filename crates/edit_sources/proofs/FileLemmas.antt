-- Configuration files that are read one after another.
use Rattle.std.proofs.Common.{◌≡◌, ℕ, ◌+◌, ◌<◌, ◌≤◌, List, ◌∷◌, ◌++◌, length, map, take, drop, get_or, Bool, String, Global, string_bytes, ap, sym, ◌∙◌, inl, inr, ⊎_elim, arith, true}
use Rattle.std.specs.List.{AllZip}
use Rattle.std.proofs.Math.Nat.{eq-or-lt_of_le}
use Rattle.std.proofs.lemmas.List.{map-append, take-append-drop, drop_more}
use Rattle.edit_base.specs.declared.errors.Error.{Error}
use Rattle.edit_store.specs.Store.{Files, SameFiles, StoreView, IsRaisedCount}
use Rattle.edit_sources.specs.ConfigurationFiles.{AreFilesIn, IsReadFrom, HasFailed, FolderFails, IsFirstMalformed, PlaceFails}
use Rattle.edit_sources.specs.declared.config.Config.{Config}
use Rattle.edit_sources.proofs.FollowLemmas.{folder_fails_same}

-- the configurations of the files in these folders
abbrev pub AreReadAt : Files → List (List ℕ) → List Config → Type 0
AreReadAt files places configs =
    (found : List (List ℕ × List ℕ)) × (AreFilesIn files places found × AllZip IsReadFrom found configs)

raised_later : (a b c : ℕ) → a ≤ b → IsRaisedCount b c → IsRaisedCount a c
raised_later a b c le (inl lt) = inl (omega arith)
raised_later a b c le (inr ends) = ⊎_elim (λ same. inr (same ∙ ends.0, ends.1)) (λ lt. inl (omega arith))
    (eq-or-lt_of_le le)

-- a failure counts from an earlier state on
pub failed_later : (a b c : ℕ) (e : Error) → a ≤ b → HasFailed b c e → HasFailed a c e
failed_later a b c e le h = record { is = h.is; counted = raised_later a b c le h.counted }

-- the places before one of them, and those behind it
around : (places : List (String Global)) (i : ℕ) (place : String Global) (text : List ℕ)
    → i < length places → place ≡ get_or places i place → text ≡ string_bytes place
    → map string_bytes places
    ≡ map string_bytes (take i places) ++ text ∷ map string_bytes (drop (i + 1) places)
around places i place text within is said =
    ap (map string_bytes) (sym (take-append-drop i places) ∙
    ap (λ xs. take i places ++ xs) (drop_more places i place within ∙
    ap (λ p. p ∷ drop (i + 1) places) (sym is)))
    ∙ map-append string_bytes (take i places) (place ∷ drop (i + 1) places)
    ∙ ap (λ t. map string_bytes (take i places) ++ t ∷ map string_bytes (drop (i + 1) places)) (sym said)

-- a folder whose file fails
pub place_fails : (tells new_tells : Bool) (old new : Files) (places : List (String Global)) (i : ℕ)
    (place : String Global) (text : List ℕ) (e : Error)
    → i < length places → place ≡ get_or places i place → text ≡ string_bytes place → new_tells ≡ tells
    → SameFiles old new → FolderFails new_tells new text e
    → PlaceFails tells old (map string_bytes places) e
place_fails tells new_tells old new places i place text e within is said same_tells same fails = record {
  place = text;
  before = map string_bytes (take i places);
  after = map string_bytes (drop (i + 1) places);
  within = around places i place text within is said;
  fails = folder_fails_same tells new_tells old new text e same_tells same fails;
}

-- the first file that fails, behind places that are read
pub first_malformed : (old new : StoreView) (places : List (String Global)) (i : ℕ) (place : String Global)
    (text : List ℕ) (configs : List Config) (e : Error)
    → i < length places → place ≡ get_or places i place → text ≡ string_bytes place → new.tells ≡ old.tells
    → SameFiles old.file_at new.file_at
    → AreReadAt old.file_at (map string_bytes (take i places)) configs
    → FolderFails new.tells new.file_at text e → old.tells ≡ true
    → IsFirstMalformed old.file_at (map string_bytes places) e
first_malformed old new places i place text configs e within is said tells same read fails t = record {
  place = text;
  before = map string_bytes (take i places);
  after = map string_bytes (drop (i + 1) places);
  within = around places i place text within is said;
  configs = configs;
  found = read.0;
  stand = read.1.0;
  read = read.1.1;
  fails = folder_fails_same true new.tells old.file_at new.file_at text e (tells ∙ t) same fails;
}
