-- Whether the first file exists from which others are read by `include`.
use Rattle.std.proofs.Common.{◌≡◌, ℕ, List, [], ◌∷◌, ◌++◌, length, Bool, true, false, Option, Some, None, refl, ap, sym, ◌∙◌, ◌<◌, arith, subst, inl, inr}
use Rattle.std.specs.Prelude.{◌⊎◌, IsSome, codes, cond, is_some}
use Rattle.std.specs.List.{AllZip}
use Rattle.edit_base.specs.Paths.{joined}
use Rattle.edit_base.specs.declared.errors.Error.{Error}
use Rattle.edit_store.specs.Store.{Files, SameFiles}
use Rattle.edit_sources.specs.ConfigurationFiles.{FolderFails, FollowFails, IsFollowing, IsReadFrom, start_in}
use Rattle.edit_sources.specs.Following.{Follows, IsFault, StopsFollowing}
use Rattle.edit_sources.specs.Following.Follows.{begin, skip, read}
use Rattle.edit_sources.specs.Following.IsFault.{malformed, bad_include, absent, twice, many}
use Rattle.edit_sources.specs.Includes.{Include}
use Rattle.edit_sources.specs.declared.config.Config.{Config}
use Rattle.edit_sources.proofs.FollowLemmas.{stops_same}

no_last : {A : Type 0} (xs : List A) (y : A) → xs ++ y ∷ [] ≡ [] → ⊥
no_last [] y h = cc
no_last (x ∷ xs) y h = cc

only_one : {A : Type 0} (xs : List A) (y z : A) → xs ++ y ∷ [] ≡ z ∷ [] → y ≡ z
only_one [] y z h = cc
only_one (x ∷ xs) y z h =
    let none : xs ++ y ∷ [] ≡ [] = cc in absurd (no_last xs y none)

-- the first file is still to be read, or does not exist, or was read
abbrev Began : Files → List ℕ → List Include → List (List ℕ × List ℕ) → Type 0
Began files start pending found =
    ((found ≡ []) × (pending ≡ record { path = start; is_optional = true } ∷ []))
    ⊎ (((found ≡ []) × ((pending ≡ []) × (files start ≡ None))) ⊎ (IsSome (files start) × (found ≡ [] → ⊥)))

some_by : (o : Option (List ℕ)) (bytes : List ℕ) → o ≡ Some bytes → IsSome o
some_by o bytes h = ap is_some h

none_before : (xs : List Include) (next z : Include) → xs ++ next ∷ [] ≡ z ∷ [] → xs ≡ []
none_before [] next z h = refl
none_before (x ∷ xs) next z h = let e : xs ++ next ∷ [] ≡ [] = cc in absurd (no_last xs next e)

at_start : (files : Files) (start : List ℕ) (rest : List Include) (next : Include)
    → rest ++ next ∷ [] ≡ record { path = start; is_optional = true } ∷ [] → files start ≡ files next.path
at_start files start rest next h =
    ap files (ap (λ (i : Include). i.path)
    (sym (only_one rest next (record { path = start; is_optional = true }) h)))

began_skip : (files : Files) (start : List ℕ) (rest : List Include) (next : Include)
    (found : List (List ℕ × List ℕ)) → files next.path ≡ None
    → Began files start (rest ++ next ∷ []) found → Began files start rest found
began_skip files start rest next found none (inl h) =
    inr (inl (h.0, (none_before rest next _ h.1, at_start files start rest next h.1 ∙ none)))
began_skip files start rest next found none (inr (inl h)) = absurd (no_last rest next h.1.0)
began_skip files start rest next found none (inr (inr h)) = inr (inr h)

began_read : (files : Files) (start : List ℕ) (rest includes : List Include) (next : Include)
    (found : List (List ℕ × List ℕ)) (bytes : List ℕ) → files next.path ≡ Some bytes
    → Began files start (rest ++ next ∷ []) found
    → Began files start (rest ++ includes) (found ++ (next.path, bytes) ∷ [])
began_read files start rest includes next found bytes stands (inl h) =
    inr (inr (
      some_by (files start) bytes (at_start files start rest next h.1 ∙ stands),
      no_last found (next.path, bytes),
    ))
began_read files start rest includes next found bytes stands (inr (inl h)) = absurd (no_last rest next h.1.0)
began_read files start rest includes next found bytes stands (inr (inr h)) =
    inr (inr (h.0, no_last found (next.path, bytes)))

began : (files : Files) (start : List ℕ) (pending : List Include) (found : List (List ℕ × List ℕ))
    → Follows files start pending found → Began files start pending found
began files start pending found begin = inl (refl, refl)
began files start pending found (skip rest next fs before optional none) =
    began_skip files start rest next fs none (began files start (rest ++ next ∷ []) fs before)
began files start pending found (read rest includes next fs bytes before apart stands says) =
    began_read files start rest includes next fs bytes stands
    (began files start (rest ++ next ∷ []) fs before)

none_read : (found : List (List ℕ × List ℕ)) (configs : List Config) → AllZip IsReadFrom found configs
    → configs ≡ [] → found ≡ []
none_read [] configs r h = refl
none_read (f ∷ found) [] r h = absurd r
none_read (f ∷ found) (c ∷ configs) r h = cc h

some_read : (found : List (List ℕ × List ℕ)) (configs : List Config) → AllZip IsReadFrom found configs
    → found ≡ [] → configs ≡ []
some_read [] [] r h = refl
some_read [] (c ∷ configs) r h = absurd r
some_read (f ∷ found) configs r h = cc h

none_some : {A : Type 0} (x : A) → [] ≡ x ∷ [] → ⊥
none_some x h = cc

pub none_of : {A : Type 0} (xs : List A) → length xs ≡ 0 → xs ≡ []
none_of [] h = refl
none_of (x ∷ xs) h = absurd (omega arith)

pub some_of : {A : Type 0} (xs : List A) → 0 < length xs → xs ≡ [] → ⊥
some_of xs some h = omega (arith, ap length h)

first_stands : (files : Files) (start : List ℕ) (found : List (List ℕ × List ℕ)) (configs : List Config)
    → AllZip IsReadFrom found configs → (configs ≡ [] → ⊥) → Began files start [] found → IsSome (files start)
first_stands files start found configs r some (inl h) = absurd (none_some _ h.1)
first_stands files start found configs r some (inr (inl h)) = absurd (some (some_read found configs r h.0))
first_stands files start found configs r some (inr (inr h)) = h.0

first_absent : (files : Files) (start : List ℕ) (found : List (List ℕ × List ℕ)) (configs : List Config)
    → AllZip IsReadFrom found configs → configs ≡ [] → Began files start [] found → files start ≡ None
first_absent files start found configs r none (inl h) = absurd (none_some _ h.1)
first_absent files start found configs r none (inr (inl h)) = h.1.1
first_absent files start found configs r none (inr (inr h)) = absurd (h.1 (none_read found configs r none))

start_by : (files : Files) (place first : List ℕ) → first ≡ joined place (codes "config")
    → IsSome (files first) → first ≡ start_in files place
start_by files place first is some =
    is ∙ ap (λ b. cond b (joined place (codes "config")) (joined place (codes "config.toml")))
    (sym (subst (λ p. IsSome (files p)) is some))

-- configurations were read from `config`
pub start_first : (files : Files) (place first : List ℕ) (configs : List Config)
    → first ≡ joined place (codes "config") → IsFollowing files first [] configs → (configs ≡ [] → ⊥)
    → first ≡ start_in files place
start_first files place first configs is f some = start_by files place first is
    (first_stands files first f.found configs f.read some (began files first [] f.found f.follows))

-- none were, so `config.toml` counts
pub start_second : (files : Files) (place first second : List ℕ) (configs : List Config)
    → first ≡ joined place (codes "config") → second ≡ joined place (codes "config.toml")
    → IsFollowing files first [] configs → configs ≡ [] → second ≡ start_in files place
start_second files place first second configs is is_second f none =
    let gone : files (joined place (codes "config")) ≡ None = subst (λ p. files p ≡ None) is
    (first_absent files first f.found configs f.read none (began files first [] f.found f.follows)) in
    is_second ∙ ap (λ o. cond (is_some o) (joined place (codes "config")) (joined place (codes "config.toml")))
    (sym gone)

some_fault : (files : Files) (found : List (List ℕ × List ℕ)) (next : Include) → next.is_optional ≡ true
    → IsFault files found next → IsSome (files next.path)
some_fault files found next optional (malformed bytes stands why) = some_by (files next.path) bytes stands
some_fault files found next optional (bad_include bytes stands why) = some_by (files next.path) bytes stands
some_fault files found next optional (absent none needed) =
    let e : true ≡ false = sym optional ∙ needed in cc
some_fault files found next optional (twice bytes stands why) = some_by (files next.path) bytes stands
some_fault files found next optional (many bytes stands why) = some_by (files next.path) bytes stands

stopped_first : (files : Files) (start : List ℕ) (rest : List Include) (next : Include)
    (found : List (List ℕ × List ℕ)) → IsFault files found next
    → Began files start (rest ++ next ∷ []) found → IsSome (files start)
stopped_first files start rest next found fault (inl h) =
    subst IsSome (sym (at_start files start rest next h.1)) (some_fault files found next
    (ap (λ (i : Include). i.is_optional) (only_one rest next _ h.1)) fault)
stopped_first files start rest next found fault (inr (inl h)) = absurd (no_last rest next h.1.0)
stopped_first files start rest next found fault (inr (inr h)) = h.0

-- the error of `config` is that of the folder
pub folder_fails_first : (tells : Bool) (files : Files) (place first : List ℕ) (e : Error)
    → first ≡ joined place (codes "config") → FollowFails tells files first e
    → FolderFails tells files place e
folder_fails_first tells files place first e is fails = record {
  path = fails.path;
  named = fails.named;
  stops = λ t.
      let stops = fails.stops t in
      subst (λ s. StopsFollowing files s fails.path) (start_by files place first is
      (stopped_first files first stops.rest stops.next stops.found stops.fault
      (began files first (stops.rest ++ stops.next ∷ []) stops.found stops.follows))) stops;
}

-- the error of `config.toml`, where `config` does not exist
pub folder_fails_second : (tells new_tells : Bool) (old new : Files) (place first second : List ℕ)
    (configs : List Config) (e : Error) → first ≡ joined place (codes "config")
    → second ≡ joined place (codes "config.toml") → new_tells ≡ tells → SameFiles old new
    → (tells ≡ true → IsFollowing old first [] configs) → configs ≡ [] → FollowFails new_tells new second e
    → FolderFails tells old place e
folder_fails_second tells new_tells old new place first second configs e is is_second same_tells same said none
    fails = record {
      path = fails.path;
      named = fails.named;
      stops = λ t. subst (λ s. StopsFollowing old s fails.path)
          (start_second old place first second configs is is_second (said t) none)
          (stops_same old new second fails.path same (fails.stops (same_tells ∙ t)));
    }
