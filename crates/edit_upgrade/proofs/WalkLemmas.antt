-- A walk over entries, after one more entry.
use Rattle.std.proofs.Common.{◌≡◌, ◌∷◌, ◌++◌, [], List, ℕ, Option, Some, None, true, refl, ap, ◌∙◌, get_or, length, map, sym, subst, inl, inr, ◌⊎◌, ◌≤◌, ◌<◌}
use Rattle.std.specs.Prelude.{All, Contains, IsSome, option_map}
use Rattle.std.proofs.lemmas.List.Elements.{All-contains_itself, All-head, All-tail, All-weaker, Contains-get_or}
use Rattle.std.proofs.lemmas.List.{get_or-map, length-map}
use Rattle.std.proofs.lemmas.Slice.Zip.{all_zipped_more}
use Rattle.edit_base.specs.declared.errors.Error.{Error}
use Rattle.edit_base.specs.Errors.{IsMemory}
use Rattle.edit_sources.specs.Configured.{HasAddress, HasNoUrl}
use Rattle.edit_sources.specs.Index.{Outcomes, SameOutcomes, answer_of}
use Rattle.edit_sources.specs.declared.config.Config.{Config}
use Rattle.edit_version.specs.RustVersions.{Numbers}
use Rattle.semver.specs.Parse.{Parts}
use Rattle.url.specs.Parts as url
use Rattle.url.specs.Parts.{serialize}
use Rattle.edit_upgrade.specs.Causes.{IsPassed, StopsAt, StopsFirst}
use Rattle.edit_upgrade.specs.Causes.StopsAt.{no_address, no_answer}
use Rattle.edit_upgrade.specs.Failures.{IsFrom}
use Rattle.edit_upgrade.specs.Failures.Cause.{at_entry}
use Rattle.edit_upgrade.specs.LookupSteps.{IsAt, IsEntryStep, IsLookupError, IsStep, Leaves, PairSet, Stays}
use Rattle.edit_upgrade.specs.Lookups.{Answer, AreLookups, CachedAnswers, answer_in, cached_basis, lookup_versions, versions_in}
use Rattle.edit_upgrade.specs.Records.{RowEntry, at_registry}
use Rattle.edit_upgrade.specs.Rows.{AreDecided, AreVersionsFor, Basis, IsRowBy, IsRowOver, Line, Needs, elsewhere, is_elsewhere, at_address}
use Rattle.edit_upgrade.specs.Upgraded.{IsNeededFor, IsNeededIn}
use Rattle.edit_upgrade.specs.declared.upgrade.Look.{Look}
use Rattle.edit_upgrade.specs.declared.decision.options.Options.{Options}
use Rattle.edit_upgrade.specs.declared.failure.PlanFailure.{PlanFailure}
use Rattle.edit_upgrade.proofs.FixedPoint.{not-both, one-named}
use Rattle.edit_upgrade.proofs.LookUpLemmas.{answered, leaves-wider, refused-with}

-- ---- rows

abbrev basis_over : ℕ → Options → List Config → (List ℕ → List ℕ → List Parts) → Basis
basis_over i o configs versions = record { input = i; options = o; configs = configs; versions = versions }

-- the versions for what an entry needs are the same
abbrev Agree : List Config → (List ℕ → List ℕ → List Parts) → (List ℕ → List ℕ → List Parts) → RowEntry → Type 0
Agree configs v w e = (address : url.Parts) → Needs configs e address e.name → v (serialize address) e.name
    ≡ w (serialize address) e.name

versions-over : (i : ℕ) (o : Options) (configs : List Config) (v w : List ℕ → List ℕ → List Parts)
    (e : RowEntry) (xs : List Parts) → Agree configs v w e
    → AreVersionsFor (basis_over i o configs v) e xs → AreVersionsFor (basis_over i o configs w) e xs
versions-over i o configs v w e xs h (at_address address needs are) = at_address address needs
    (are ∙ h address needs)
versions-over i o configs v w e xs h (elsewhere other none) = elsewhere other none

rows-over : (i : ℕ) (o : Options) (configs : List Config) (v w : List ℕ → List ℕ → List Parts)
    (es : List RowEntry) (ls : List Line) → All (Agree configs v w) es
    → AreDecided (basis_over i o configs v) es ls → AreDecided (basis_over i o configs w) es ls
rows-over i o configs v w [] [] h d = tt
rows-over i o configs v w [] (l ∷ ls) h d = absurd d
rows-over i o configs v w (e ∷ es) [] h d = absurd d
rows-over i o configs v w (e ∷ es) (l ∷ ls) h d = (
  record {
    versions = d.0.versions;
    offered = versions-over i o configs v w e d.0.versions (All-head (Agree configs v w) e es h) d.0.offered;
    decided = d.0.decided;
  },
  rows-over i o configs v w es ls (All-tail (Agree configs v w) e es h) d.1,
)

-- what an entry of some needs, as what they need
of-entry : (configs : List Config) (es : List RowEntry) (e : RowEntry) (address : url.Parts) (name : List ℕ)
    → Contains es e → Needs configs e address name
    → IsNeededIn configs es (serialize address) name
of-entry configs es e address name among needs =
    record { entry = e; among = among; needs = record { registry = address; needs = needs; at = refl } }

some-answer : (o : Option Answer) (a : Answer) → o ≡ Some a → IsSome o
some-answer o a h = subst (λ (x : Option Answer). IsSome x) (sym h) refl

-- the answers that a passed entry needs stay
stays-at : (configs : List Config) (now next : CachedAnswers) → Stays now next → (e : RowEntry)
    → IsPassed configs now e
    → (address : url.Parts) (name : List ℕ) → Needs configs e address name
    → next (serialize address) name ≡ now (serialize address) name
stays-at configs now next stays e p address name needs = stays (serialize address) name
    (p.answered address name needs)

pub passed-stays : (configs : List Config) (now next : CachedAnswers) (es : List RowEntry) → Stays now next
    → All (IsPassed configs now) es
    → All (IsPassed configs next) es
passed-stays configs now next es stays h =
    All-weaker (IsPassed configs now) (IsPassed configs next)
    (λ e p. record {
      answered = λ address name needs. subst (λ (o : Option Answer). IsSome o)
          (sym (stays-at configs now next stays e p address name needs)) (p.answered address name needs);
      has = p.has;
    }) es h

-- rows over the cached answers stay, where more are cached
pub rows-stay : (i : ℕ) (o : Options) (rust : Option Numbers) (configs : List Config) (now next : CachedAnswers)
    (es : List RowEntry) (ls : List Line)
    → Stays now next → All (IsPassed configs now) es → AreDecided (cached_basis i o rust configs now) es ls
    → AreDecided (cached_basis i o rust configs next) es ls
rows-stay i o rust configs now next es ls stays passed d =
    let v : List ℕ → List ℕ → List Parts = λ a n. versions_in rust (now a n) in
    let w : List ℕ → List ℕ → List Parts = λ a n. versions_in rust (next a n) in
    rows-over i o configs v w es ls
    (All-weaker (IsPassed configs now) (Agree configs v w)
    (λ x p address needs. ap (versions_in rust) (sym (stays-at configs now next stays x p address x.name
    needs))) es passed) d

-- a row further
pub rows-further : (i : ℕ) (o : Options) (rust : Option Numbers) (configs : List Config) (now next : CachedAnswers)
    (es : List RowEntry) (ls : List Line) (e : RowEntry) (l : Line) → All (IsPassed configs now) es → Stays now next
    → AreDecided (cached_basis i o rust configs now) es ls → IsRowBy (cached_basis i o rust configs next) e l
    → AreDecided (cached_basis i o rust configs next) (es ++ e ∷ []) (ls ++ l ∷ [])
rows-further i o rust configs now next es ls e l passed stays d row =
    all_zipped_more (IsRowBy (cached_basis i o rust configs next)) es ls e l
    (rows-stay i o rust configs now next es ls stays passed d) row

-- rows over the cached answers are rows over the lookups
pub rows-from : (Needed : List ℕ → List ℕ → Type 0) (i : ℕ) (o : Options) (rust : Option Numbers)
    (configs : List Config) (first : Outcomes)
    (old now : CachedAnswers) (made : List Look) (es : List RowEntry) (ls : List Line)
    → ((a n : List ℕ) → IsNeededIn configs es a n → Needed a n) → AreLookups Needed first old now made
    → AreDecided (cached_basis i o rust configs now) es ls → AreDecided
    (basis_over i o configs (lookup_versions rust made)) es ls
rows-from Needed i o rust configs first old now made es ls wider m d =
    let v : List ℕ → List ℕ → List Parts = λ a n. versions_in rust (now a n) in
    rows-over i o configs v (lookup_versions rust made) es ls
    (All-weaker (Contains es) (Agree configs v (lookup_versions rust made))
    (λ x c address needs.
    let f = answered Needed first old now made (serialize address) x.name m
    (wider (serialize address) x.name (of-entry configs es x address x.name c needs)) in
    ap (versions_in rust) f.2 ∙ sym (ap (λ (y : Option Look). versions_in rust
    (option_map (λ lookup. answer_of (answer_in lookup)) y)) f.1)) es (All-contains_itself es)) d

-- ---- the first entry that stops a walk

none-before : (o p : Option Answer) → (IsSome o → p ≡ o) → p ≡ None → o ≡ None
none-before None p stays none = refl
none-before (Some x) p stays none = cc (sym none ∙ stays refl)

-- why an entry stops a walk, from the state where the walk began
pub stops-from : (configs : List Config) (first last : Outcomes) (old now : CachedAnswers) (a b c : ℕ) (e : RowEntry)
    (error : Error) → SameOutcomes first last → Stays old now → a ≤ b
    → StopsAt configs last now b c e error → StopsAt configs first old a c e error
stops-from configs first last old now a b c e error same stays le (no_address named q h) = no_address named
    q h
stops-from configs first last old now a b c e error same stays le
    (no_answer address name needs none refused) =
    no_answer address name needs (none-before (old (serialize address) name) (now (serialize address) name)
    (stays (serialize address) name) none)
    (refused-with first last address name a b c error same le refused)

pub stopped : (configs : List Config) (first last : Outcomes) (old now next : CachedAnswers) (a b c : ℕ)
    (es front : List RowEntry) (e : RowEntry) (rest : List RowEntry)
    (error : Error) → es ≡ front ++ e ∷ rest → All (IsPassed configs now) front → SameOutcomes first last
    → Stays old now → Stays now next → a ≤ b
    → StopsAt configs last now b c e error → StopsFirst configs first old next a c es error
stopped configs first last old now next a b c es front e rest error split m same before after le h = record {
  front = front;
  entry = e;
  rest = rest;
  split = split;
  passed = passed-stays configs now next front after m;
  stops = stops-from configs first last old now a b c e error same before le h;
}

-- how a walk fails at an entry
pub walk-fails : (configs : List Config) (first last : Outcomes) (old now next : CachedAnswers) (a b c : ℕ)
    (es front : List RowEntry) (e : RowEntry) (rest : List RowEntry)
    (error : Error) (i : ℕ) (f : PlanFailure) → es ≡ front ++ e ∷ rest → All (IsPassed configs now) front
    → SameOutcomes first last → Stays old now → Stays now next → a ≤ b
    → IsMemory error ⊎ StopsAt configs last now b c e error
    → IsMemory f.error ⊎ ((f.error ≡ error) × IsFrom f (at_entry i e.place))
    → IsMemory f.error
    ⊎ (stops : StopsFirst configs first old next a c es f.error) × IsFrom f (at_entry i stops.entry.place)
unfolding stopped
walk-fails configs first last old now next a b c es front e rest error i f split m same before after le h
    (inl memory) = inl memory
walk-fails configs first last old now next a b c es front e rest error i f split m same before after le
    (inl memory) (inr from) = inl (subst IsMemory (sym from.0) memory)
walk-fails configs first last old now next a b c es front e rest error i f split m same before after le
    (inr h) (inr from) = inr (
      stopped configs first last old now next a b c es front e rest f.error split m same before after le
          (subst (λ (x : Error). StopsAt configs last now b c e x) (sym from.0) h),
      from.1,
    )

-- an item of a list is among what a function gives of the list
pub contains-item : {A B : Type 0} (f : A → B) (xs : List A) (i : ℕ) (x : A) → i < length xs → x
    ≡ get_or xs i x → Contains (map f xs) (f x)
contains-item {A} {B} f xs i x h e =
    let there : Contains (map f xs) (get_or (map f xs) i (f x)) = Contains-get_or (map f xs) i (f x)
    (subst (λ (m : ℕ). i < m) (sym (length-map xs f)) h) in
    subst (λ (y : B). Contains (map f xs) y) (get_or-map f xs i x (f x) h ∙ ap f (sym e)) there

-- what an entry of a list needs, its list needs
pub for-among : (configs : List Config) (es : List RowEntry) (e : RowEntry) → Contains es e → (a n : List ℕ)
    → IsNeededFor configs e a n → IsNeededIn configs es a n
for-among configs es e among a n h = record { entry = e; among = among; needs = h }

-- ---- an entry of a registry

own-needs : (configs : List Config) (e : RowEntry) (named : Option (List ℕ)) (address : url.Parts)
    (name : List ℕ) → e.source ≡ at_registry named
    → HasAddress configs named address → name ≡ e.name → Needs configs e address name
own-needs configs e named address name q has same = record
    { named = named; source = q; has = has; crate_name = sym same }

pub registry-left : (configs : List Config) (e : RowEntry) (named : Option (List ℕ)) (address : url.Parts)
    (name : List ℕ) (first last : Outcomes) (b c : ℕ) (old new : CachedAnswers)
    → e.source ≡ at_registry named → HasAddress configs named address → name ≡ e.name
    → Leaves (IsAt (serialize address) name) first last b c old new
    → Leaves (IsNeededFor configs e) first last b c old new
registry-left configs e named address name first last b c old new q has same left =
    leaves-wider (IsNeededFor configs e) (IsAt (serialize address) name) first last b c old new
    (λ a n p. record {
      registry = address;
      needs = own-needs configs e named address n q has (p.1 ∙ same);
      at = p.0;
    }) left

pub registry-step : (configs : List Config) (e : RowEntry) (named : Option (List ℕ)) (address : url.Parts)
    (name : List ℕ) (gives : Outcomes) (old new : CachedAnswers)
    (made more : List Look) (pairs then_pairs : PairSet) → e.source ≡ at_registry named
    → HasAddress configs named address → name ≡ e.name
    → IsStep (serialize address) name gives old new made more pairs then_pairs
    → IsEntryStep configs e gives old new made more pairs then_pairs
registry-step configs e named address name gives old new made more pairs then_pairs q has same step
    = record {
      lookups = λ other p. (
        address,
        subst (λ (r : Option (List ℕ)). HasAddress configs r address) (one-named e named other q p) has,
        subst (λ (n : List ℕ). IsStep (serialize address) n gives old new made more pairs then_pairs) same
            step,
      );
      idle = λ other. absurd (not-both e named q other);
    }

pub registry-decided : (i : ℕ) (o : Options) (rust : Option Numbers) (configs : List Config) (cached : CachedAnswers)
    (e : RowEntry) (named : Option (List ℕ)) (address : url.Parts) (line : Line)
    → e.source ≡ at_registry named → HasAddress configs named address
    → IsRowOver i o (versions_in rust (cached (serialize address) e.name)) e e.old line
    → IsRowBy (cached_basis i o rust configs cached) e line
registry-decided i o rust configs cached e named address line q has d = record {
  versions = versions_in rust (cached (serialize address) e.name);
  offered = at_address address (own-needs configs e named address e.name q has refl) refl;
  decided = d;
}

pub no-registry : (configs : List Config) (e : RowEntry) (named : Option (List ℕ)) (gives : Outcomes)
    (old : CachedAnswers) (b c : ℕ) (error : Error) → e.source ≡ at_registry named
    → IsMemory error ⊎ HasNoUrl configs named error → IsMemory error ⊎ StopsAt configs gives old b c e error
no-registry configs e named gives old b c error q (inl memory) = inl memory
no-registry configs e named gives old b c error q (inr h) = inr (no_address named q h)

pub no-lookup : (configs : List Config) (e : RowEntry) (named : Option (List ℕ)) (address : url.Parts)
    (name : List ℕ) (gives : Outcomes) (old : CachedAnswers) (b c : ℕ) (error : Error)
    → e.source ≡ at_registry named → HasAddress configs named address → name ≡ e.name
    → IsMemory error ⊎ ((old (serialize address) name ≡ None) × IsLookupError gives address name b c error)
    → IsMemory error ⊎ StopsAt configs gives old b c e error
no-lookup configs e named address name gives old b c error q has same (inl memory) = inl memory
no-lookup configs e named address name gives old b c error q has same (inr h) =
    inr (no_answer address name (own-needs configs e named address name q has same) h.0 h.1)

-- ---- an entry from elsewhere

pub elsewhere-decided : (i : ℕ) (o : Options) (rust : Option Numbers) (configs : List Config) (cached : CachedAnswers)
    (e : RowEntry) (line : Line) → is_elsewhere e.source ≡ true
    → IsRowOver i o [] e e.old line → IsRowBy (cached_basis i o rust configs cached) e line
elsewhere-decided i o rust configs cached e line other d = record
    { versions = []; offered = elsewhere other refl; decided = d }
