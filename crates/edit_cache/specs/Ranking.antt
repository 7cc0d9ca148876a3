-- The ranking of the entries of a crate by version, the greatest first (own).
use Rattle.std.specs.Prelude.{◌≡◌, ℕ, ◌+◌, ◌==◌, List, [], ◌∷◌, ◌++◌, map, Option, Some, true, IsSome, option_map, option_and_then, option_to_list, slice_get, All}
use Rattle.std.specs.List.{AllPairs, list_any}
use Rattle.std.specs.Ordering.{nat_cmp, ordering_then}
use Rattle.std.specs.declared.cmp.Ordering.{Ordering}
use Rattle.std.specs.declared.cmp.Ordering.TheVariants.{Less}
use Rattle.semver.specs.Parse.{Parts}
use Rattle.edit_version.specs.Admissible.{candidate_in}
use Rattle.edit_version.specs.IndexEntry.{IndexEntry}
use Rattle.edit_version.specs.RustVersions.{Numbers}
use Rattle.edit_version.specs.VersionOrder.{full_order}
use Rattle.edit_cache.specs.Ranks.{Ranking, rank_of}
use Rattle.edit_cache.specs.declared.ranking.Ranked.{Ranked}

-- the ranks of a ranking, from the first (own)
abbrev pub ranks_of : Ranked → List Ranking
ranks_of ranked = map rank_of ranked.ranks.items

-- the greater version comes first, and of equal versions the later entry (own)
abbrev pub rank_order : Ranking → Ranking → Ordering
rank_order a b = ordering_then (full_order b.version a.version) (nat_cmp b.place a.place)

-- a rank has the name of the entry at its index, and the versions that are parsed from it (own)
pub record IsRankOf (entries : List IndexEntry) (r : Ranking) : Type 0 where
  pub named : option_map (λ e. e.name) (slice_get entries r.place) ≡ Some r.name
  pub read : option_and_then candidate_in (slice_get entries r.place) ≡ Some (r.version, r.rust_version)

-- each entry with valid versions that is not yanked has a rank (own)
abbrev pub HasEach : List IndexEntry → List Ranking → Type 0
HasEach entries ranks = (i : ℕ) → IsSome (option_and_then candidate_in (slice_get entries i))
    → list_any (λ r. r.place == i) ranks ≡ true

-- each rank comes before every later one, so that no entry has two (own)
abbrev pub IsInOrder : List Ranking → Type 0
IsInOrder ranks = AllPairs (λ a b. rank_order a b ≡ Less) ranks

-- the ranking of entries: those with valid versions that are not yanked, each once, the greater version
-- first and of equal versions the later entry (own)
pub record IsRanking (entries : List IndexEntry) (ranks : List Ranking) : Type 0 where
  pub tells : All (IsRankOf entries) ranks
  pub each : HasEach entries ranks
  pub order : IsInOrder ranks

-- the property holds for every list of entries with this ranking (own)
abbrev pub OfEntries : Ranked → (List IndexEntry → Type 0) → Type 0
OfEntries ranked P = (entries : List IndexEntry) → IsRanking entries (ranks_of ranked) → P entries

-- the rank of an entry, given its index and the versions that are parsed from it (own)
abbrev pub ranking : ℕ → IndexEntry → Parts × Option Numbers → Ranking
ranking place entry read =
    record { place = place; name = entry.name; version = read.0; rust_version = read.1 }

-- the rank of an entry, unless it is yanked or a version in it is invalid (own)
abbrev pub rank_at : ℕ → IndexEntry → List Ranking
rank_at place entry = option_to_list (option_map (ranking place entry) (candidate_in entry))

-- the ranks of entries in their order, given the index of the first (own)
abbrev pub ranks_from : ℕ → List IndexEntry → List Ranking
ranks_from place [] = []
ranks_from place (entry ∷ entries) = rank_at place entry ++ ranks_from (place + 1) entries
