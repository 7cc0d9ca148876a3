-- The lookups without a fetched entry, grouped by registry (own).
use Rattle.std.specs.Prelude.{◌≡◌, ℕ, List, [], ◌∷◌, ◌++◌, Option, Some, None, Bool, true, false, filter, map, not, option_and_then, option_map, string_bytes, if◌then◌else◌}
use Rattle.std.specs.Borrow.{Bor}
use Rattle.std.specs.List.{filter_map, list_any, zip}
use Rattle.std.specs.Str.{bytes_eq}
use Rattle.edit_lookups.specs.Lookups.{lookup_text}
use Rattle.edit_lookups.specs.declared.lookups.Lookup.{Lookup}
use Rattle.edit_answers.specs.Reasons.{IsReason}
use Rattle.edit_answers.specs.declared.groups.Group.{Group}
use Rattle.edit_answers.specs.declared.groups.Consequence.{Consequence}
use Rattle.edit_answers.specs.declared.groups.Consequence.TheVariants as standing
use Rattle.edit_answers.specs.declared.meaning.Failure.{Failure}
use Rattle.edit_answers.specs.declared.meaning.Failure.TheVariants.{NoFolder, Offline}
use Rattle.edit_answers.specs.declared.meaning.Outcome.{Outcome}
use Rattle.edit_answers.specs.declared.meaning.Outcome.TheVariants.{Cached, Missing}

-- whether a crate is excluded from the upgrade
abbrev pub is_excluded : List (Bor (List ℕ)) → List ℕ → Bool
is_excluded excluded name = list_any (λ other. bytes_eq other.now name) excluded

-- the lookups of crates that are not excluded, with their outcomes
abbrev pub included_lookups : List (Bor (List ℕ)) → List Lookup → List Outcome → List (Lookup × Outcome)
included_lookups excluded lookups outcomes =
    filter (λ p. not (is_excluded excluded p.0.name.now)) (zip lookups outcomes)

-- whether the failure is that nothing is fetched offline
abbrev pub is_offline : Failure → Bool
is_offline Offline = true
is_offline _ = false

-- why an entry was not fetched whose cached version is used; none offline, where it is not reported
abbrev pub cached_failure : Outcome → Option Failure
cached_failure (Cached failure) = if is_offline failure then None else Some failure
cached_failure _ = None

-- why an entry is not available, neither fetched nor cached
abbrev pub missing_failure : Outcome → Option Failure
missing_failure (Missing failure) = Some failure
missing_failure _ = None

-- whether an upgrade cannot proceed without an entry: offline it can, unless the folder of a registry on this
-- machine does not exist
abbrev pub is_fatal : Bool → Failure → Bool
is_fatal offline NoFolder = true
is_fatal offline _ = not offline

-- why an entry was not fetched, if that has this consequence for its lookup
abbrev pub failure_with : Consequence → Bool → Outcome → Option Failure
failure_with standing.Cached offline outcome = cached_failure outcome
failure_with standing.Left offline outcome =
    option_and_then (λ f. if is_fatal offline f then None else Some f) (missing_failure outcome)
failure_with standing.Missing offline outcome =
    option_and_then (λ f. if is_fatal offline f then Some f else None) (missing_failure outcome)

-- the lookups with this consequence, each with its failure
abbrev pub failed_lookups : Consequence → Bool → List (Lookup × Outcome) → List (Lookup × Failure)
failed_lookups standing offline pairs =
    filter_map (λ p. option_map (λ f. (p.0, f)) (failure_with standing offline p.1)) pairs

-- whether a lookup is in a registry
abbrev pub is_in : List ℕ → Lookup × Failure → Bool
is_in address it = bytes_eq it.0.address.now address

-- whether one of these lookups is in a registry
abbrev pub is_listed : List (Lookup × Failure) → List ℕ → Bool
is_listed found address = list_any (is_in address) found

-- the names of the crates of a registry
abbrev pub names_at : List (Lookup × Failure) → List ℕ → List (List ℕ)
names_at found address = map (λ it. it.0.name.now) (filter (is_in address) found)

-- the first lookup of each registry
abbrev pub firsts : List (Lookup × Failure) → List (Lookup × Failure)
firsts [] = []
firsts (it ∷ rest) = it ∷ filter (λ other. not (is_in it.0.address.now other)) (firsts rest)

-- the model of a group
pub record GroupText : Type 0 where
  pub address : List ℕ
  pub reason : List ℕ
  pub names : List (List ℕ)

-- the model of a group
abbrev pub group_text : Group → GroupText
group_text g = record {
  address = g.address.now;
  reason = string_bytes g.reason;
  names = map (λ n. n.now) g.names.items;
}

-- the group of the registry whose first lookup this is
pub record IsGroup (found : List (Lookup × Failure)) (first : Lookup × Failure) (g : GroupText) : Type 0 where
  pub address : g.address ≡ first.0.address.now
  pub reason : IsReason (lookup_text first.0) first.1 g.reason
  pub names : g.names ≡ names_at found first.0.address.now

-- the groups for these first lookups, in their order
pub data AreGroupsOf (found : List (Lookup × Failure)) : List (Lookup × Failure) → List GroupText
    → Type 0 where
  none : AreGroupsOf found [] []
  more : (firsts : List (Lookup × Failure)) (groups : List GroupText) (first : Lookup × Failure)
      (g : GroupText)
      → AreGroupsOf found firsts groups → IsGroup found first g
      → AreGroupsOf found (firsts ++ first ∷ []) (groups ++ g ∷ [])

-- lookups grouped by registry, in the order of the first lookup of each
abbrev pub AreGroups : List (Lookup × Failure) → List GroupText → Type 0
AreGroups found groups = AreGroupsOf found (firsts found) groups
