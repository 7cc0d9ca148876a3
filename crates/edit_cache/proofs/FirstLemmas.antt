-- The first rank that passes a test is that of the greatest admissible entry.
use Rattle.std.proofs.Common.{◌≡◌, ℕ, ◌+◌, ◌<◌, List, [], ◌∷◌, map, Option, Some, None, Bool, true, false, ◌==◌, IsSome, subst, sym, ap, ◌∙◌, refl, arith, suc, get_or, take, drop, inl, inr, ◌⊎◌}
use Rattle.std.specs.Prelude.{All, option_map, slice_get, option_and_then}
use Rattle.std.specs.List.{find}
use Rattle.std.specs.Ordering.{is_le, is_lt, ordering_reverse}
use Rattle.std.specs.declared.cmp.Ordering.TheVariants.{Less}
use Rattle.std.proofs.lemmas.Bool.{cases_Bool}
use Rattle.std.proofs.lemmas.List.Sorted.{sorted_far}
use Rattle.std.proofs.lemmas.List.MinMax.{ranks_by}
use Rattle.std.proofs.lemmas.Option.{slice_get-get_or}
use Rattle.semver.specs.Parse.{Parts}
use Rattle.edit_version.specs.Admissible.{admissible_in, candidate_in, entry_order, is_qualifying}
use Rattle.edit_version.specs.Greatest.{IsGreatest, IsGreatestItem}
use Rattle.edit_version.specs.IndexEntry.{IndexEntry}
use Rattle.edit_version.specs.RustVersions.{Numbers}
use Rattle.edit_version.specs.VersionOrder.{full_order}
use Rattle.edit_version.proofs.GreatestEntries.{greatest-versions, none-versions}
use Rattle.edit_version.proofs.QualifyingEntries.{admissible-version}
use Rattle.edit_version.proofs.Orders.{full_total}
use Rattle.edit_cache.specs.Ranking.{IsRanking, rank_order}
use Rattle.edit_cache.specs.Ranks.{Ranking, passes}
use Rattle.edit_cache.proofs.RankedEntryLemmas.{rank_total, IsFirst, first_found, none_found, any_all, slice_get-take, slice_get-drop, parted, HasEntry, entry_of_rank, tells-version, order_by_version, qualifies-passes, qualifies-read, decide, le_or_lt, same_place, sorted_order}

-- a rank beside the first one that passes: the entry of a rank that does not pass or does not come before it
abbrev Beside : List IndexEntry → (Ranking → Bool) → Ranking → Ranking → Type 0
Beside entries p r s = HasEntry entries s × ((p s ≡ false) ⊎ (is_lt (rank_order s r) ≡ false))

beside : (entries : List IndexEntry) (ranks : List Ranking) (p : Ranking → Bool) (r : Ranking)
    → IsRanking entries ranks → IsFirst p ranks r → All (Beside entries p r) ranks
beside entries ranks p r g f k d within = elim (le_or_lt f.at k) [
  | inl after ↦
      let sorted : is_lt (rank_order (get_or ranks k d) (get_or ranks f.at d)) ≡ false =
      sorted_far (λ a b. is_lt (rank_order a b)) (ranks_by rank_total (λ (s : Ranking). s)) ranks
      (sorted_order ranks g.order) f.at k d after within in (
        entry_of_rank entries (get_or ranks k d) (g.tells k d within),
        inr (subst (λ s. is_lt (rank_order (get_or ranks k d) s) ≡ false) (f.is d) sorted),
      )
  | inr before ↦ (entry_of_rank entries (get_or ranks k d) (g.tells k d within), inl (f.before k d before))
]

-- the first rank that passes has an entry
tells_first : (entries : List IndexEntry) (ranks : List Ranking) (p : Ranking → Bool) (r : Ranking)
    → IsRanking entries ranks → IsFirst p ranks r → HasEntry entries r
tells_first entries ranks p r g f = subst (λ s. HasEntry entries s) (f.is r)
    (entry_of_rank entries (get_or ranks f.at r) (g.tells f.at r f.within))

-- of two ranks, the entry of the one that does not come first is not greater, and is less if its index is
-- greater
ordered : (entries : List IndexEntry) (r s : Ranking) → (t : HasEntry entries r) → (u : HasEntry entries s)
    → is_lt (rank_order s r) ≡ false → (is_le (entry_order u.entry t.entry) ≡ true)
    × (r.place < s.place → entry_order u.entry t.entry ≡ Less)
ordered entries r s t u h =
    let order : entry_order u.entry t.entry ≡ ordering_reverse (full_order r.version s.version) =
    order_by_version u.entry t.entry s.version r.version (tells-version entries s u)
    (tells-version entries r t) ∙ full_total.antisymm s.version r.version in
    let both = decide (full_order r.version s.version) r.place s.place h in
    (ap is_le order ∙ both.0, λ low. order ∙ both.1 low)

beaten_by : (entries : List IndexEntry) (rust : Option Numbers) (test : Parts → Bool) (r : Ranking)
    → (t : HasEntry entries r) → (j : ℕ) (x : IndexEntry) → slice_get entries j ≡ Some x
    → is_qualifying rust test x ≡ true → (s : Ranking) → s.place ≡ j → Beside entries (passes rust test) r s
    → (is_le (entry_order x t.entry) ≡ true) × (r.place < j → entry_order x t.entry ≡ Less)
beaten_by entries rust test r t j x at qualifies s place b =
    let both : Some b.0.entry ≡ Some x = sym b.0.at ∙ ap (slice_get entries) place ∙ at in
    let same : b.0.entry ≡ x = cc both in
    let passed : passes rust test s ≡ true = sym (qualifies-passes rust test entries s b.0) ∙
    ap (is_qualifying rust test) same ∙ qualifies in
    elim b.1 [
      | inl fails ↦ cc (passed, fails)
      | inr later ↦
          let o = ordered entries r s t b.0 later in (
            ap (λ e. is_le (entry_order e t.entry)) (sym same) ∙
                o.0,
            λ low. ap (λ e. entry_order e t.entry) (sym same) ∙
                o.1 (subst (λ n. r.place < n) (sym place) low),
          )
    ]

-- an admissible entry is not greater than that of the first rank that passes, and is less if its index is
-- greater
beaten : (entries : List IndexEntry) (ranks : List Ranking) (rust : Option Numbers) (test : Parts → Bool)
    (r : Ranking) → IsRanking entries ranks → IsFirst (passes rust test) ranks r → (t : HasEntry entries r)
    → (j : ℕ) (x : IndexEntry) → slice_get entries j ≡ Some x → is_qualifying rust test x ≡ true
    → (is_le (entry_order x t.entry) ≡ true) × (r.place < j → entry_order x t.entry ≡ Less)
beaten entries ranks rust test r g f t j x at qualifies =
    let read : IsSome (option_and_then candidate_in (slice_get entries j)) =
    subst (λ o. IsSome (option_and_then candidate_in o)) (sym at)
    (qualifies-read rust test (candidate_in x) qualifies) in
    let found = any_all (λ s. s.place == j) (Beside entries (passes rust test) r) ranks (g.each j read)
    (beside entries ranks (passes rust test) r g f) in
    beaten_by entries rust test r t j x at qualifies found.0 (same_place found.0.place j found.1) found.2

-- the entry of the first rank that passes is the greatest admissible one, the last of equal ones
pub greatest_first : (entries : List IndexEntry) (ranks : List Ranking) (rust : Option Numbers)
    (test : Parts → Bool) (r : Ranking) → IsRanking entries ranks → find (passes rust test) ranks ≡ Some r
    → (t : HasEntry entries r) × IsGreatestItem (is_qualifying rust test) entry_order entries t.entry
greatest_first entries ranks rust test r g h =
    let f = first_found (passes rust test) ranks r h in
    let t = tells_first entries ranks (passes rust test) r g f in (
      t,
      record {
        front = take r.place entries;
        rest = drop (suc r.place) entries;
        split = parted entries r.place t.entry t.at;
        qualifies = qualifies-passes rust test entries r t ∙ f.passed;
        before = λ j d within qualifies.
            (beaten entries ranks rust test r g f t j (get_or (take r.place entries) j d)
            (slice_get-take r.place entries j d within) qualifies).0;
        after = λ j d within qualifies.
            (beaten entries ranks rust test r g f t (suc r.place + j)
            (get_or (drop (suc r.place) entries) j d)
            (slice_get-drop (suc r.place) entries j (suc r.place + j) d within refl) qualifies).1 (omega arith);
      },
    )

none_qualifies : (entries : List IndexEntry) (ranks : List Ranking) (rust : Option Numbers) (test : Parts → Bool)
    → IsRanking entries ranks → All (λ s. passes rust test s ≡ false) ranks → (j : ℕ) (x : IndexEntry)
    → slice_get entries j ≡ Some x → is_qualifying rust test x ≡ true → ⊥
none_qualifies entries ranks rust test g fails j x at qualifies =
    let read : IsSome (option_and_then candidate_in (slice_get entries j)) =
    subst (λ o. IsSome (option_and_then candidate_in o)) (sym at)
    (qualifies-read rust test (candidate_in x) qualifies) in
    let found = any_all (λ s. s.place == j) (λ s. HasEntry entries s × (passes rust test s ≡ false)) ranks
    (g.each j read) (λ k d within. (entry_of_rank entries (get_or ranks k d) (g.tells k d within), fails k d within))
    in
    let s = found.0 in
    let place : s.place ≡ j = same_place s.place j found.1 in
    let both : Some found.2.0.entry ≡ Some x = sym found.2.0.at ∙ ap (slice_get entries) place ∙ at in
    let same : found.2.0.entry ≡ x = cc both in
    let passed : passes rust test s ≡ true = sym (qualifies-passes rust test entries s found.2.0) ∙
    ap (is_qualifying rust test) same ∙ qualifies in
    cc (passed, found.2.1)

-- if no rank passes, no entry is admissible
pub none_first : (entries : List IndexEntry) (ranks : List Ranking) (rust : Option Numbers)
    (test : Parts → Bool) → IsRanking entries ranks → find (passes rust test) ranks ≡ None
    → All (λ x. is_qualifying rust test x ≡ false) entries
none_first entries ranks rust test g h j d within =
    elim (cases_Bool (is_qualifying rust test (get_or entries j d))) [
      | inl qualifies ↦ absurd (none_qualifies entries ranks rust test g (none_found (passes rust test) ranks h) j
          (get_or entries j d) (slice_get-get_or entries j d within) qualifies)
      | inr dropped ↦ dropped
    ]

-- the version of the first rank that passes is the greatest admissible one that passes
pub first_version : (entries : List IndexEntry) (ranks : List Ranking) (rust : Option Numbers)
    (test : Parts → Bool) (r : Ranking) → IsRanking entries ranks
    → find (passes rust test) ranks ≡ Some r
    → IsGreatest test full_order (admissible_in rust entries) (Some r.version)
first_version entries ranks rust test r g h =
    let first = greatest_first entries ranks rust test r g h in
    let v = greatest-versions rust test entries first.0.entry first.1 in
    let both : Some v.0 ≡ Some r.version = sym (admissible-version rust first.0.entry v.0 v.1) ∙
    tells-version entries r first.0 in
    let same : v.0 ≡ r.version = cc both in
    subst (λ w. IsGreatest test full_order (admissible_in rust entries) (Some w)) same v.2

-- if no rank passes, no admissible version passes
pub no_version : (entries : List IndexEntry) (ranks : List Ranking) (rust : Option Numbers)
    (test : Parts → Bool) → IsRanking entries ranks
    → find (passes rust test) ranks ≡ None → IsGreatest test full_order (admissible_in rust entries) None
no_version entries ranks rust test g h = none-versions rust test entries
    (none_first entries ranks rust test g h)

-- a search in a mapped list
pub find-map : {X Y : Type 0} (f : X → Y) (p : Y → Bool) (xs : List X)
    → find p (map f xs) ≡ option_map f (find (λ x. p (f x)) xs)
find-map f p [] = refl
find-map f p (x ∷ xs) = elim (cases_Bool (p (f x))) [
  | inl holds ↦ rw holds refl
  | inr fails ↦ rw fails (find-map f p xs)
]
