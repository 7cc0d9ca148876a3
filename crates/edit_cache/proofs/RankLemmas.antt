-- The ranks of entries, and what holds for them after sorting.
use Rattle.std.proofs.Common.{◌≡◌, ℕ, ◌+◌, ◌<◌, List, [], ◌∷◌, ◌++◌, length, map, Option, Some, None, Bool, true, false, ◌==◌, ◌||◌, ◌≤◌, IsSome, cond, inl, inr, subst, sym, ap, ◌∙◌, refl, append_assoc, arith, zero, suc, eq-eqb, length-append, append-nil, take, get_or}
use Rattle.std.specs.Prelude.{All, slice_get, option_and_then, option_map, option_to_list}
use Rattle.std.specs.List.{list_any, sum_by}
use Rattle.std.proofs.lemmas.List.Elements.{All-nil, All-cons, All-append}
use Rattle.std.proofs.lemmas.Grind.{common_steps}
use Rattle.std.proofs.lemmas.List.{take_more, map-append, get_or-map, length-map}
use Rattle.edit_version.specs.declared.fetch.IndexVersion.{IndexVersion}
use Rattle.std.specs.List.Sorted.{IsSorted, IsPermutation}
use Rattle.std.specs.Ordering.{is_lt, nat_cmp, ordering_reverse, ordering_then}
use Rattle.std.specs.declared.cmp.Ordering.{Ordering}
use Rattle.std.specs.declared.cmp.Ordering.TheVariants.{Less, Equal, Greater}
use Rattle.semver.specs.Identifiers.{build_text, pre_text}
use Rattle.semver.specs.Order.{build_cmp, pre_cmp}
use Rattle.std.proofs.lemmas.List.Sorted.{All-permutation, IsPermutation-map, list_any-IsPermutation, sorted_far, sum_by-IsPermutation}
use Rattle.std.specs.FinMap.{nat_cmp-IsAntisymmetric}
use Rattle.std.proofs.lemmas.Bool.Decides.{nat_tests}
use Rattle.std.proofs.lemmas.Bool.{or_left, or_right}
use Rattle.std.proofs.lemmas.List.MinMax.{ranks_by}
use Rattle.std.proofs.lemmas.List.Sums.{sum_by-append, sum_by-cons}
use Rattle.edit_version.specs.VersionOrder.{full_order}
use Rattle.edit_cache.proofs.RankedEntryLemmas.{le_or_lt, rank_total}
use Rattle.semver.specs.Parse.{Parts}
use Rattle.edit_version.specs.Admissible.{candidate_in}
use Rattle.edit_version.specs.IndexEntry.{IndexEntry, entry_of}
use Rattle.edit_version.specs.RustVersions.{Numbers}
use Rattle.edit_cache.specs.Ranking.{IsInOrder, IsRanking, IsRankOf, ranking, rank_at, rank_order, ranks_from}
use Rattle.edit_cache.specs.Ranks.{Ranking, rank_of}
use Rattle.edit_cache.specs.declared.rank.Rank.{Rank}

-- the ranks of entries with one more
pub ranks_from-more : (n : ℕ) (xs : List IndexEntry) (x : IndexEntry)
    → ranks_from n (xs ++ x ∷ []) ≡ ranks_from n xs ++ rank_at (n + length xs) x
ranks_from-more n [] x =
    let none : n + 0 ≡ n = omega arith in
    append-nil (rank_at n x) ∙ ap (λ m. rank_at m x) (sym none)
ranks_from-more n (y ∷ xs) x =
    let next : (n + 1) + length xs ≡ n + length (y ∷ xs) = omega arith in
    ap (λ t. rank_at n y ++ t) (ranks_from-more (n + 1) xs x ∙
    ap (λ m. ranks_from (n + 1) xs ++ rank_at m x) next)
    ∙ sym (append_assoc (rank_at n y) (ranks_from (n + 1) xs) (rank_at (n + length (y ∷ xs)) x))

-- the element after the front of a list
at_front : (pre : List IndexEntry) (e : IndexEntry) (rest : List IndexEntry)
    → slice_get (pre ++ e ∷ rest) (length pre) ≡ Some e
at_front [] e rest = refl
at_front (x ∷ pre) e rest = at_front pre e rest

tells_one : (entries : List IndexEntry) (n : ℕ) (e : IndexEntry) → slice_get entries n ≡ Some e
    → (o : Option (Parts × Option Numbers)) → candidate_in e ≡ o
    → All (IsRankOf entries) (option_to_list (option_map (ranking n e) o))
tells_one entries n e at None read = All-nil (IsRankOf entries)
tells_one entries n e at (Some c) read = All-cons (IsRankOf entries) (ranking n e c) []
    (record {
      named = ap (λ o. option_map (λ e. e.name) o) at;
      read = ap (λ o. option_and_then candidate_in o) at ∙ read;
    }) (All-nil (IsRankOf entries))

-- each rank has the name and the versions of its entry
pub tells_from : (pre rest : List IndexEntry) → All (IsRankOf (pre ++ rest)) (ranks_from (length pre) rest)
tells_from pre [] = All-nil (IsRankOf (pre ++ []))
tells_from pre (e ∷ rest) =
    let whole : (pre ++ e ∷ []) ++ rest ≡ pre ++ e ∷ rest = append_assoc pre (e ∷ []) rest in
    let place : length (pre ++ e ∷ []) ≡ length pre + 1 = length-append pre (e ∷ []) in
    let later : All (IsRankOf (pre ++ e ∷ rest)) (ranks_from (length (pre ++ e ∷ [])) rest) =
    subst (λ es. All (IsRankOf es) (ranks_from (length (pre ++ e ∷ [])) rest)) whole
    (tells_from (pre ++ e ∷ []) rest) in
    All-append (IsRankOf (pre ++ e ∷ rest)) (rank_at (length pre) e) (ranks_from (length pre + 1) rest)
    (tells_one (pre ++ e ∷ rest) (length pre) e (at_front pre e rest) (candidate_in e) refl)
    (subst (λ n. All (IsRankOf (pre ++ e ∷ rest)) (ranks_from n rest)) place later)

or-more : (a b c : Bool) → (b ≡ true → c ≡ true) → (a || b) ≡ true → (a || c) ≡ true
or-more true b c f h = refl
or-more false b c f h = f h

-- a test that passes in the front of a list passes in the whole
any-left : {X : Type 0} (p : X → Bool) (xs ys : List X) → list_any p xs ≡ true → list_any p (xs ++ ys) ≡ true
any-left p [] ys h = cc
any-left p (x ∷ xs) ys h = or-more (p x) (list_any p xs) (list_any p (xs ++ ys)) (any-left p xs ys) h

any-right : {X : Type 0} (p : X → Bool) (xs ys : List X) → list_any p ys ≡ true → list_any p (xs ++ ys) ≡ true
any-right p [] ys h = h
any-right p (x ∷ xs) ys h = or_right (p x) (list_any p (xs ++ ys)) (any-right p xs ys h)

one_passes : (n m : ℕ) (e : IndexEntry) (o : Option (Parts × Option Numbers)) → IsSome o → n ≡ m
    → list_any (λ r. r.place == m) (option_to_list (option_map (ranking n e) o)) ≡ true
one_passes n m e None h is = cc
one_passes n m e (Some c) h is = or_left (n == m) false (eq-eqb n m is)

-- each candidate has a rank
pub each_from : (n : ℕ) (xs : List IndexEntry) (j : ℕ)
    → IsSome (option_and_then candidate_in (slice_get xs j)) → (m : ℕ) → n + j ≡ m
    → list_any (λ r. r.place == m) (ranks_from n xs) ≡ true
each_from n [] j h m is = cc
each_from n (e ∷ xs) zero h m is = any-left (λ r. r.place == m) (rank_at n e) (ranks_from (n + 1) xs)
    (one_passes n m e (candidate_in e) h (omega arith))
each_from n (e ∷ xs) (suc j) h m is = any-right (λ r. r.place == m) (rank_at n e) (ranks_from (n + 1) xs)
    (each_from (n + 1) xs j h m (omega arith))

-- the ranks of the entries so far with one more
pub ranks_from-step : (es : List IndexVersion) (i : ℕ) (x : IndexVersion) → i < length es → x ≡ get_or es i x
    → ranks_from 0 (map entry_of (take (i + 1) es)) ≡ ranks_from 0 (map entry_of (take i es)) ++ rank_at i
    (entry_of x)
ranks_from-step es i x within is =
    let more : take (i + 1) es ≡ take i es ++ x ∷ [] = take_more es i x within ∙
    ap (λ y. take i es ++ y ∷ []) (sym is) in
    let mapped : map entry_of (take (i + 1) es) ≡ map entry_of (take i es) ++ entry_of x ∷ [] =
    ap (λ ys. map entry_of ys) more ∙ map-append entry_of (take i es) (x ∷ []) in
    let place : 0 + length (map entry_of (take i es)) ≡ i = grind (arith, common_steps) in
    ap (λ ys. ranks_from 0 ys) mapped ∙ ranks_from-more 0 (map entry_of (take i es)) (entry_of x) ∙
    ap (λ n. ranks_from 0 (map entry_of (take i es)) ++ rank_at n (entry_of x)) place

-- an element, of a list that has one
element : {X : Type 0} (xs : List X) (k : ℕ) → k < length xs → X
element [] k h = absurd (omega arith)
element (x ∷ xs) k h = x

-- a lexicographic order does not depend on its grouping
nested : (a b c d e f : Ordering)
    → ordering_then (ordering_then a (ordering_then b (ordering_then c (ordering_then d e)))) f
    ≡ ordering_then (ordering_then (ordering_then a (ordering_then b (ordering_then c d))) e) f
nested Less b c d e f = refl
nested Equal Less c d e f = refl
nested Equal Equal Less d e f = refl
nested Equal Equal Equal Less e f = refl
nested Equal Equal Equal Equal e f = refl
nested Equal Equal Equal Greater e f = refl
nested Equal Equal Greater d e f = refl
nested Equal Greater c d e f = refl
nested Greater b c d e f = refl

-- the derived order of `Rank`, by its fields
abbrev pub by_fields : Rank → Rank → Ordering
by_fields a b =
    ordering_then (ordering_then (nat_cmp b.version.0.major a.version.0.major)
    (ordering_then (nat_cmp b.version.0.minor a.version.0.minor)
    (ordering_then (nat_cmp b.version.0.patch a.version.0.patch)
    (ordering_then (pre_cmp (pre_text b.version.0.pre) (pre_text a.version.0.pre))
    (build_cmp (build_text b.version.0.build) (build_text a.version.0.build))))))
    (nat_cmp b.place.0 a.place.0)

by_rank : (a b : Rank) → by_fields a b ≡ rank_order (rank_of a) (rank_of b)
by_rank a b = nested (nat_cmp b.version.0.major a.version.0.major)
    (nat_cmp b.version.0.minor a.version.0.minor) (nat_cmp b.version.0.patch a.version.0.patch)
    (pre_cmp (pre_text b.version.0.pre) (pre_text a.version.0.pre))
    (build_cmp (build_text b.version.0.build) (build_text a.version.0.build)) (nat_cmp b.place.0 a.place.0)

-- ranks in the derived order are in the order of their models
sorted_ranks : (ranks : List Rank) → IsSorted by_fields ranks → IsSorted rank_order (map rank_of ranks)
sorted_ranks ranks h k d low high =
    let within : k + 1 < length ranks = omega (arith, length-map ranks rank_of) in
    let before : k < length ranks = omega arith in
    let e = element ranks (k + 1) within in
    let first : get_or (map rank_of ranks) k d ≡ rank_of (get_or ranks k e) =
    get_or-map rank_of ranks k e d before in
    let second : get_or (map rank_of ranks) (k + 1) d ≡ rank_of (get_or ranks (k + 1) e) =
    get_or-map rank_of ranks (k + 1) e d within in
    rw (first, second) (subst (λ o. is_lt o ≡ false) (by_rank (get_or ranks (k + 1) e) (get_or ranks k e))
    (h k e low within))

-- 1 for a rank with this index (own)
abbrev at_place : ℕ → Ranking → ℕ
at_place i r = cond (r.place == i) 1 0

at_place-same : (i : ℕ) (r : Ranking) → r.place ≡ i → at_place i r ≡ 1
at_place-same i r h = let same : (r.place == i) ≡ true = eq-eqb r.place i h in rw same refl

at_place-le : (i : ℕ) (r : Ranking) → at_place i r ≤ 1
at_place-le i r = grind (arith, nat_tests)

one_at : (i n : ℕ) (e : IndexEntry) (o : Option (Parts × Option Numbers))
    → sum_by (at_place i) (option_to_list (option_map (ranking n e) o)) ≤ 1
one_at i n e None = omega arith
one_at i n e (Some c) = omega (arith, at_place-le i (ranking n e c))

none_at : (i n : ℕ) (e : IndexEntry) (o : Option (Parts × Option Numbers)) → i < n
    → sum_by (at_place i) (option_to_list (option_map (ranking n e) o)) ≡ 0
none_at i n e None low = refl
none_at i n e (Some c) low = grind (arith, nat_tests)

none_before : (i n : ℕ) (xs : List IndexEntry) → i < n → sum_by (at_place i) (ranks_from n xs) ≡ 0
none_before i n [] low = refl
none_before i n (e ∷ xs) low =
    let here = none_at i n e (candidate_in e) low in
    let rest = none_before i (n + 1) xs (omega arith) in
    sum_by-append (at_place i) (rank_at n e) (ranks_from (n + 1) xs) ∙ omega (arith, here, rest)

none_here : (i n : ℕ) (e : IndexEntry) (o : Option (Parts × Option Numbers)) → n < i
    → sum_by (at_place i) (option_to_list (option_map (ranking n e) o)) ≡ 0
none_here i n e None low = refl
none_here i n e (Some c) low = grind (arith, nat_tests)

-- an entry has at most one rank
once_from : (i n : ℕ) (xs : List IndexEntry) → sum_by (at_place i) (ranks_from n xs) ≤ 1
once_from i n [] = omega arith
once_from i n (e ∷ xs) =
    let whole = sum_by-append (at_place i) (rank_at n e) (ranks_from (n + 1) xs) in elim (le_or_lt i n) [
      | inl low ↦ omega (arith, whole, one_at i n e (candidate_in e), none_before i (n + 1) xs (omega arith))
      | inr high ↦ omega (arith, whole, none_here i n e (candidate_in e) high, once_from i (n + 1) xs)
    ]

-- an element adds to a sum
adds_one : {X : Type 0} (f : X → ℕ) (xs : List X) (k : ℕ) (d : X) → k < length xs
    → f (get_or xs k d) ≤ sum_by f xs
adds_one f [] k d h = absurd (omega arith)
adds_one f (x ∷ xs) zero d h = omega (arith, sum_by-cons f x xs)
adds_one f (x ∷ xs) (suc k) d h = omega (arith, sum_by-cons f x xs, adds_one f xs k d (omega arith))

adds_both : {X : Type 0} (f : X → ℕ) (xs : List X) (j k : ℕ) (d : X) → j < k → k < length xs
    → f (get_or xs j d) + f (get_or xs k d) ≤ sum_by f xs
adds_both f [] j k d low h = absurd (omega arith)
adds_both f (x ∷ xs) j zero d low h = absurd (omega arith)
adds_both f (x ∷ xs) zero (suc k) d low h = omega (arith, sum_by-cons f x xs, adds_one f xs k d (omega arith))
adds_both f (x ∷ xs) (suc j) (suc k) d low h =
    omega (arith, sum_by-cons f x xs, adds_both f xs j k d (omega arith) (omega arith))

less_or : (o r : Ordering) → o ≡ ordering_reverse r → is_lt r ≡ false → (o ≡ Equal → ⊥) → o ≡ Less
less_or o Less e h n = cc h
less_or o Equal e h n = absurd (n e)
less_or o Greater e h n = e

second_equal : (o r : Ordering) → ordering_then o r ≡ Equal → r ≡ Equal
second_equal Less r h = cc h
second_equal Equal r h = h
second_equal Greater r h = cc h

-- ranks in order with distinct indices are in strict order
in_order : (ranks : List Ranking) → IsSorted rank_order ranks → ((i : ℕ) → sum_by (at_place i) ranks ≤ 1)
    → IsInOrder ranks
in_order ranks sorted once j k d low high =
    let a = get_or ranks j d in
    let b = get_or ranks k d in
    let far : is_lt (rank_order b a) ≡ false = sorted_far (λ x y. is_lt (rank_order x y))
    (ranks_by rank_total (λ (s : Ranking). s)) ranks sorted j k d (omega arith) high in
    let apart : rank_order a b ≡ Equal → ⊥ = λ equal.
    (let same : b.place ≡ a.place = nat_cmp-IsAntisymmetric b.place a.place
    (second_equal (full_order b.version a.version) (nat_cmp b.place a.place) equal) in
    omega (
      arith,
      adds_both (at_place a.place) ranks j k d low high,
      at_place-same a.place a refl,
      at_place-same a.place b same,
      once a.place,
    )) in
    less_or (rank_order a b) (rank_order b a) (rank_total.antisymm a b) far apart

-- the ranks of entries, sorted, are their ranking
pub ranking_from_sort : (entries : List IndexEntry) (old new : List Rank)
    → map rank_of old ≡ ranks_from 0 entries → IsPermutation old new → IsSorted by_fields new
    → IsRanking entries (map rank_of new)
ranking_from_sort entries old new read moved sorted =
    let same : IsPermutation (ranks_from 0 entries) (map rank_of new) =
    subst (λ rs. IsPermutation rs (map rank_of new)) read (IsPermutation-map rank_of old new moved) in
    record {
      tells = All-permutation (IsRankOf entries) (ranks_from 0 entries) (map rank_of new) same
          (tells_from [] entries);
      each = λ i h. sym (list_any-IsPermutation (λ r. r.place == i) (ranks_from 0 entries)
          (map rank_of new) same) ∙ each_from 0 entries i h i (omega arith);
      order = in_order (map rank_of new) (sorted_ranks new sorted)
          (λ i. omega (
            arith,
            sum_by-IsPermutation (at_place i) (ranks_from 0 entries) (map rank_of new) same,
            once_from i 0 entries,
          ));
    }
