-- The indices of the first elements that pass a test, and the versions at them.
use Rattle.std.proofs.Common.{◌≡◌, ℕ, ◌+◌, List, [], ◌∷◌, ◌++◌, length, map, Option, Some, None, Bool, true, false, ◌&&◌, not, cond, inl, inr, subst, sym, ap, ◌∙◌, refl, append_assoc, length-append}
use Rattle.std.specs.Prelude.{Result, Ok, Err, option_and_then, option_map, slice_get}
use Rattle.std.specs.Result.{result_ok}
use Rattle.std.specs.List.{find, position, position_from}
use Rattle.std.proofs.lemmas.Iterator.Adapters.{position_from-zero}
use Rattle.std.proofs.lemmas.Bool.{cases_Bool}
use Rattle.semver.specs.Parse.{Held, Parts, req_of}
use Rattle.semver.specs.declared.error.Error.{Error}
use Rattle.edit_version.specs.Admissible.{admissible_in, is_too_new}
use Rattle.edit_version.specs.Greatest.{IsGreatest}
use Rattle.edit_version.specs.IndexEntry.{IndexEntry}
use Rattle.edit_version.specs.Admits.{admits}
use Rattle.edit_version.specs.Levels.{is_within, versions_within}
use Rattle.edit_version.specs.Requirement.{requirement_read}
use Rattle.edit_version.specs.RustVersions.{Numbers}
use Rattle.edit_version.specs.Selection.{admits_read, is_admitted}
use Rattle.edit_version.specs.VersionOrder.{full_order}
use Rattle.edit_version.specs.declared.levels.Level.{Level}
use Rattle.edit_version.proofs.FilteredGreatests.{greatest-left}
use Rattle.edit_cache.specs.Choices.{version_at}
use Rattle.edit_cache.specs.Ranking.{IsRanking}
use Rattle.edit_cache.specs.Ranks.{Ranking, passes, rank_of}
use Rattle.edit_cache.specs.declared.rank.Rank.{Rank}
use Rattle.edit_cache.proofs.FirstLemmas.{first_version, no_version}

-- the index in a mapped list
pub place-map : {X Y : Type 0} (p : Y → Bool) (f : X → Y) (i : ℕ) (xs : List X)
    → position_from p i (map f xs) ≡ position_from (λ x. p (f x)) i xs
place-map p f i [] = refl
place-map p f i (x ∷ xs) = ap (λ (o : Option ℕ). cond (p (f x)) (Some i) o) (place-map p f (i + 1) xs)

-- if no element passes, there is no index
pub place-never : {X : Type 0} (p : X → Bool) → ((x : X) → p x ≡ false) → (i : ℕ) (xs : List X)
    → position_from p i xs ≡ None
place-never p fails i [] = refl
place-never p fails i (x ∷ xs) = rw (fails x) (place-never p fails (i + 1) xs)

slice_get-here : {X : Type 0} (zs : List X) (x : X) (xs : List X)
    → slice_get (zs ++ x ∷ xs) (length zs) ≡ Some x
slice_get-here [] x xs = refl
slice_get-here (z ∷ zs) x xs = slice_get-here zs x xs

-- the element at the index is the one that a search finds
found-at : {X : Type 0} (p : X → Bool) (zs xs : List X)
    → option_and_then (slice_get (zs ++ xs)) (position_from p (length zs) xs) ≡ find p xs
found-at p zs [] = refl
found-at p zs (x ∷ xs) = elim (cases_Bool (p x)) [
  | inl holds ↦ rw holds (slice_get-here zs x xs)
  | inr fails ↦
      let n : length (zs ++ x ∷ []) ≡ length zs + 1 = length-append zs (x ∷ []) in
      let rest = ap (λ (ys : List _). option_and_then (slice_get ys) (position_from p (length (zs ++ x ∷ [])) xs))
      (sym (append_assoc zs (x ∷ []) xs)) ∙ found-at p (zs ++ x ∷ []) xs in
      let same = subst (λ m. option_and_then (slice_get (zs ++ x ∷ xs)) (position_from p m xs) ≡ find p xs) n rest in
      rw fails same
]

version-found : (rs : List Ranking) (place : Option ℕ)
    → version_at rs place ≡ option_map (λ r. r.version) (option_and_then (slice_get rs) place)
version-found rs None = refl
version-found rs (Some n) = refl

greatest-found : (entries : List IndexEntry) (ranks : List Ranking) (rust : Option Numbers)
    (test : Parts → Bool) (o : Option Ranking) → IsRanking entries ranks → find (passes rust test) ranks ≡ o
    → IsGreatest test full_order (admissible_in rust entries) (option_map (λ r. r.version) o)
greatest-found entries ranks rust test None g h = no_version entries ranks rust test g h
greatest-found entries ranks rust test (Some r) g h = first_version entries ranks rust test r g h

-- the version of the first rank that passes, by its index, is the greatest admissible one that passes
pub greatest-at : (entries : List IndexEntry) (ranks : List Ranking) (rust : Option Numbers)
    (test : Parts → Bool) (place : Option ℕ) → place ≡ position_from (passes rust test) 0 ranks
    → IsRanking entries ranks
    → IsGreatest test full_order (admissible_in rust entries) (version_at ranks place)
greatest-at entries ranks rust test place is g =
    let e : version_at ranks place ≡ option_map (λ r. r.version) (find (passes rust test) ranks) =
    ap (version_at ranks) is ∙ version-found ranks (position_from (passes rust test) 0 ranks)
    ∙ ap (λ (o : Option Ranking). option_map (λ r. r.version) o) (found-at (passes rust test) [] ranks) in
    subst (λ (o : Option Parts). IsGreatest test full_order (admissible_in rust entries) o) (sym e)
    (greatest-found entries ranks rust test (find (passes rust test) ranks) g refl)

-- the version of the first rank that passes and is within a level, by its index, is the greatest one that
-- passes of the admissible ones within the level
pub greatest-within : (entries : List IndexEntry) (ranks : List Ranking) (rust : Option Numbers)
    (test : Parts → Bool) (level : Option Level) (text : List ℕ) (place : Option ℕ)
    → place ≡ position_from (passes rust (λ v. test v && is_within level text v)) 0 ranks
    → IsRanking entries ranks
    → IsGreatest test full_order (versions_within level text (admissible_in rust entries))
    (version_at ranks place)
greatest-within entries ranks rust test level text place is g =
    greatest-left test (is_within level text) full_order (admissible_in rust entries) (version_at ranks place)
    (greatest-at entries ranks rust (λ v. test v && is_within level text v) place is g)

-- the index among ranks is the index among their models
pub place-ranked : (rust : Option Numbers) (test : Parts → Bool) (ranks : List Rank) (place : Option ℕ)
    → place ≡ position (λ r. passes rust test (rank_of r)) ranks
    → place ≡ position_from (passes rust test) 0 (map rank_of ranks)
place-ranked rust test ranks place e =
    e ∙ position_from-zero (λ r. passes rust test (rank_of r)) ranks
    ∙ sym (place-map (passes rust test) rank_of 0 ranks)

and-false : (b : Bool) → (b && false) ≡ false
and-false true = refl
and-false false = refl

place-read : (rust : Option Numbers) (test : Parts → Bool) (ranks : List Ranking)
    (read : Result (List Held) Error) → None ≡ result_ok read
    → position_from (passes rust (λ v. admits_read read v && test v)) 0 ranks ≡ None
place-read rust test ranks (Ok cs) h = cc h
place-read rust test ranks (Err e) h =
    place-never (passes rust (λ v. admits_read (Err e) v && test v))
    (λ r. and-false (not (is_too_new r.rust_version rust))) 0 ranks

-- a text that is no requirement admits nothing, so that there is no index
pub place-unread : (rust : Option Numbers) (test : Parts → Bool) (text : List ℕ) (ranks : List Ranking)
    → None ≡ requirement_read text
    → None ≡ position_from (passes rust (λ v. is_admitted text v && test v)) 0 ranks
place-unread rust test text ranks h = sym (place-read rust test ranks (req_of text) h)

place-with : (rust : Option Numbers) (test : Parts → Bool) (ranks : List Ranking) (place : Option ℕ)
    (cs : List Held) (read : Result (List Held) Error) → Some cs ≡ result_ok read
    → place ≡ position_from (passes rust (λ v. admits cs v && test v)) 0 ranks
    → place ≡ position_from (passes rust (λ v. admits_read read v && test v)) 0 ranks
place-with rust test ranks place cs (Ok ds) h e =
    let same : cs ≡ ds = cc h in
    subst (λ (c : List Held). place ≡ position_from (passes rust (λ v. admits c v && test v)) 0 ranks) same e
place-with rust test ranks place cs (Err e) h is = cc h

-- a parsed requirement admits the same versions as its text
pub place-admitted : (rust : Option Numbers) (test : Parts → Bool) (text : List ℕ) (ranks : List Ranking)
    (place : Option ℕ) (cs : List Held) → Some cs ≡ requirement_read text
    → place ≡ position_from (passes rust (λ v. admits cs v && test v)) 0 ranks
    → place ≡ position_from (passes rust (λ v. is_admitted text v && test v)) 0 ranks
place-admitted rust test text ranks place cs h e = place-with rust test ranks place cs (req_of text) h e
