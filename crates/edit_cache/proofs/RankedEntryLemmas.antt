-- Searches in lists, and the entries of the ranks of a ranking.
use Rattle.std.proofs.Common.{◌≡◌, ℕ, ◌+◌, ◌<◌, ◌≤◌, List, [], ◌∷◌, ◌++◌, length, Option, Some, None, Bool, true, false, ◌==◌, ◌&&◌, not, IsSome, sym, ap, ◌∙◌, refl, arith, zero, suc, get_or, take, drop, inl, inr, ◌⊎◌}
use Rattle.std.specs.Prelude.{All, nat_le, if◌then◌else◌, option_map, slice_get, is_some, option_and_then, unwrap_or}
use Rattle.std.specs.List.{find, list_any}
use Rattle.std.specs.List.Sorted.{IsSorted}
use Rattle.std.specs.Ordering.{is_le, is_lt, nat_cmp, ordering_reverse, ordering_then}
use Rattle.std.specs.Cmp.{IsTotalOrder, back_total, nat_cmp_total, on_total, then_total}
use Rattle.std.specs.declared.cmp.Ordering.{Ordering}
use Rattle.std.specs.declared.cmp.Ordering.TheVariants.{Less, Equal, Greater}
use Rattle.std.proofs.lemmas.Bool.{cases_Bool}
use Rattle.std.proofs.lemmas.Bool.Decides.{nat_tests}
use Rattle.std.proofs.lemmas.Grind.{common_steps}
use Rattle.std.proofs.lemmas.List.Elements.{All-nil, All-cons, All-head, All-tail}
use Rattle.std.proofs.lemmas.Option.{slice_get-get_or}
use Rattle.semver.specs.Identifiers.{parts_text}
use Rattle.semver.specs.Parse.{Parts}
use Rattle.semver.proofs.Grammar.{version_parts-sound}
use Rattle.edit_version.specs.Admissible.{minimum_rust, candidate_in, entry_order, if_fits, if_passes, is_qualifying, is_too_new, version_in}
use Rattle.edit_version.specs.IndexEntry.{IndexEntry}
use Rattle.edit_version.specs.ReadVersion.{version_read}
use Rattle.edit_version.specs.RustVersions.{Numbers}
use Rattle.edit_version.specs.VersionOrder.{full_order}
use Rattle.edit_version.proofs.QualifyingEntries.{read-parts}
use Rattle.edit_version.proofs.Orders.{full_total}
use Rattle.edit_cache.specs.Ranking.{IsInOrder, IsRankOf, rank_order}
use Rattle.edit_cache.specs.Ranks.{Ranking, passes}

-- the order of ranks is total
pub rank_total : IsTotalOrder rank_order
rank_total = then_total (back_total (on_total (λ (r : Ranking). r.version) full_total))
    (back_total (on_total (λ (r : Ranking). r.place) nat_cmp_total))

-- the result of a search: an element that passes, after others that do not
pub record IsFirst {X : Type 0} (p : X → Bool) (xs : List X) (x : X) : Type 0 where
  pub at : ℕ
  pub within : at < length xs
  pub is : (d : X) → get_or xs at d ≡ x
  pub passed : p x ≡ true
  pub before : (j : ℕ) (d : X) → j < at → p (get_or xs j d) ≡ false

before_more : {X : Type 0} (p : X → Bool) (y : X) (ys : List X) (n : ℕ) → p y ≡ false
    → ((j : ℕ) (d : X) → j < n → p (get_or ys j d) ≡ false) → (j : ℕ) (d : X) → j < suc n
    → p (get_or (y ∷ ys) j d) ≡ false
before_more p y ys n fails before zero d low = fails
before_more p y ys n fails before (suc j) d low = before j d (omega arith)

first_more : {X : Type 0} (p : X → Bool) (y : X) (ys : List X) (x : X) → p y ≡ false → IsFirst p ys x
    → IsFirst p (y ∷ ys) x
first_more p y ys x fails f = record {
  at = suc f.at;
  within = omega (arith, f.within);
  is = f.is;
  passed = f.passed;
  before = before_more p y ys f.at fails f.before;
}

pub first_found : {X : Type 0} (p : X → Bool) (xs : List X) (x : X) → find p xs ≡ Some x → IsFirst p xs x
first_found p [] x h = cc
first_found p (y ∷ ys) x h = elim (cases_Bool (p y)) [
  | inl holds ↦
      let e : Some y ≡ Some x = rw holds at h in
      let same : y ≡ x = cc e in
      record {
        at = zero;
        within = omega arith;
        is = λ d. same;
        passed = ap p (sym same) ∙ holds;
        before = λ j d low. absurd (omega arith);
      }
  | inr fails ↦ first_more p y ys x fails (first_found p ys x (rw fails at h))
]

-- if a search finds nothing, no element passes
pub none_found : {X : Type 0} (p : X → Bool) (xs : List X) → find p xs ≡ None → All (λ x. p x ≡ false) xs
none_found p [] h = All-nil (λ x. p x ≡ false)
none_found p (y ∷ ys) h = elim (cases_Bool (p y)) [
  | inl holds ↦ cc (rw holds at h)
  | inr fails ↦ All-cons (λ x. p x ≡ false) y ys fails (none_found p ys (rw fails at h))
]

-- an element that passes, with a property of all elements
pub any_all : {X : Type 0} (p : X → Bool) (Q : X → Type 0) (xs : List X) → list_any p xs ≡ true → All Q xs
    → (y : X) × (p y ≡ true) × Q y
any_all p Q [] h q = cc
any_all p Q (x ∷ xs) h q = elim (cases_Bool (p x)) [
  | inl holds ↦ (x, holds, All-head Q x xs q)
  | inr fails ↦ any_all p Q xs (rw fails at h) (All-tail Q x xs q)
]

-- the elements of the front of a list
pub slice_get-take : {X : Type 0} (n : ℕ) (xs : List X) (j : ℕ) (d : X) → j < length (take n xs)
    → slice_get xs j ≡ Some (get_or (take n xs) j d)
slice_get-take n [] j d h = absurd (grind (arith, common_steps))
slice_get-take zero (x ∷ xs) j d h = absurd (omega arith)
slice_get-take (suc n) (x ∷ xs) zero d h = refl
slice_get-take (suc n) (x ∷ xs) (suc j) d h = slice_get-take n xs j d (omega (arith, h))

pub slice_get-drop : {X : Type 0} (n : ℕ) (xs : List X) (j m : ℕ) (d : X) → j < length (drop n xs) → m ≡ n + j
    → slice_get xs m ≡ Some (get_or (drop n xs) j d)
slice_get-drop n [] j m d h is = absurd (grind (arith, common_steps))
slice_get-drop zero (x ∷ xs) j m d h is =
    let same : m ≡ j = omega arith in
    ap (slice_get (x ∷ xs)) same ∙ slice_get-get_or (x ∷ xs) j d h
slice_get-drop (suc n) (x ∷ xs) j zero d h is = absurd (omega arith)
slice_get-drop (suc n) (x ∷ xs) j (suc m) d h is = slice_get-drop n xs j m d h (omega arith)

pub parted : {X : Type 0} (xs : List X) (i : ℕ) (x : X) → slice_get xs i ≡ Some x
    → xs ≡ take i xs ++ x ∷ drop (suc i) xs
parted [] i x h = cc
parted (y ∷ ys) zero x h =
    let same : y ≡ x = cc h in
    ap (λ z. z ∷ ys) same
parted (y ∷ ys) (suc i) x h = ap (λ zs. y ∷ zs) (parted ys i x h)

-- the entry of a rank
pub record HasEntry (entries : List IndexEntry) (r : Ranking) : Type 0 where
  pub entry : IndexEntry
  pub at : slice_get entries r.place ≡ Some entry
  pub named : entry.name ≡ r.name
  pub read : candidate_in entry ≡ Some (r.version, r.rust_version)

entry-from : (entries : List IndexEntry) (r : Ranking) (o : Option IndexEntry) → slice_get entries r.place ≡ o
    → option_map (λ e. e.name) o ≡ Some r.name
    → option_and_then candidate_in o ≡ Some (r.version, r.rust_version) → HasEntry entries r
entry-from entries r None at named read = cc named
entry-from entries r (Some e) at named read = record { entry = e; at = at; named = cc named; read = read }

-- a rank has an entry
pub entry_of_rank : (entries : List IndexEntry) (r : Ranking) → IsRankOf entries r → HasEntry entries r
entry_of_rank entries r t = entry-from entries r (slice_get entries r.place) refl t.named t.read

-- the version of a candidate is that of its entry
candidate-version : (y : Bool) (r : Option Numbers) (o : Option Parts) (c : Parts × Option Numbers)
    → (if y then None else option_map (λ v. (v, r)) o) ≡ Some c → o ≡ Some c.0
candidate-version true r o c h = cc h
candidate-version false r None c h = cc h
candidate-version false r (Some v) c h = let e : (v, r) ≡ c = cc h in
    ap (λ (p : Parts × Option Numbers). Some p.0) e

pub tells-version : (entries : List IndexEntry) (r : Ranking) → (t : HasEntry entries r)
    → version_in t.entry ≡ Some r.version
tells-version entries r t = candidate-version t.entry.yanked (minimum_rust t.entry) (version_in t.entry)
    (r.version, r.rust_version) t.read

-- a version that was parsed is formatted as the same text
pub version-text : (text : List ℕ) (v : Parts) → version_read text ≡ Some v → parts_text v ≡ text
version-text text v h = (version_parts-sound text v (read-parts text v h)).0

-- entries are ordered by their parsed versions
pub order_by_version : (a b : IndexEntry) (v w : Parts) → version_in a ≡ Some v → version_in b ≡ Some w
    → entry_order a b ≡ full_order v w
order_by_version a b v w e f =
    ap (λ o. full_order (unwrap_or o (0, 0, 0, [], [])) (unwrap_or (version_in b) (0, 0, 0, [], []))) e
    ∙ ap (λ o. full_order v (unwrap_or o (0, 0, 0, [], []))) f

-- an entry is admissible if its rank passes
passes-read : (new test : Bool) (v : Parts) (t : Parts → Bool) → t v ≡ test
    → is_some (if_passes t (if new then None else Some v)) ≡ (not new && test)
passes-read true test v t e = refl
passes-read false true v t e = rw e refl
passes-read false false v t e = rw e refl

pub qualifies-passes : (rust : Option Numbers) (test : Parts → Bool) (entries : List IndexEntry) (r : Ranking)
    → (t : HasEntry entries r) → is_qualifying rust test t.entry ≡ passes rust test r
qualifies-passes rust test entries r t =
    ap (λ o. is_some (if_passes test (if_fits rust o))) t.read
    ∙ passes-read (is_too_new r.rust_version rust) (test r.version) r.version test refl

-- an admissible entry is a candidate
pub qualifies-read : (rust : Option Numbers) (test : Parts → Bool) (o : Option (Parts × Option Numbers))
    → is_some (if_passes test (if_fits rust o)) ≡ true → IsSome o
qualifies-read rust test None h = cc h
qualifies-read rust test (Some c) h = refl

not_less : (i j : ℕ) → is_lt (nat_cmp i j) ≡ false → i < j → ⊥
not_less i j h low = grind (arith, nat_tests)

pub decide : (o : Ordering) (i j : ℕ) → is_lt (ordering_then o (nat_cmp i j)) ≡ false
    → (is_le (ordering_reverse o) ≡ true) × (i < j → ordering_reverse o ≡ Less)
decide Less i j h = cc h
decide Equal i j h = (refl, λ low. absurd (not_less i j h low))
decide Greater i j h = (refl, λ low. refl)

pub le_or_lt : (i k : ℕ) → (i ≤ k) ⊎ (k < i)
le_or_lt i k = elim (cases_Bool (nat_le i k)) [
  | inl holds ↦ inl (grind (arith, nat_tests))
  | inr fails ↦ inr (grind (arith, nat_tests))
]

pub same_place : (m n : ℕ) → (m == n) ≡ true → m ≡ n
same_place m n h = grind (arith, nat_tests)

-- what comes after a rank is not less in the order of ranks
after_not_less : (a b : Ranking) → rank_order a b ≡ Less → is_lt (rank_order b a) ≡ false
after_not_less a b h = ap is_lt (rank_total.antisymm b a ∙ ap ordering_reverse h)

pub sorted_order : (ranks : List Ranking) → IsInOrder ranks → IsSorted rank_order ranks
sorted_order ranks h k d low high = after_not_less (get_or ranks k d) (get_or ranks (k + 1) d)
    (h k (k + 1) d (omega arith) high)
