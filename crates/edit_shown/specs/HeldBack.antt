-- What an upgrade held back for the age of versions (own).
use Rattle.std.specs.Prelude.{ℕ, List, [], ◌∷◌, Bool, ◌&&◌, ◌==◌, if◌then◌else◌, length, map, not, string_bytes}
use Rattle.std.specs.BTreeSet.{insert_key}
use Rattle.std.specs.Cmp.Lexicographic.{slice_cmp}
use Rattle.std.specs.List.{flat_map, fold}
use Rattle.std.specs.Option.{option_map_or}
use Rattle.std.specs.Ordering.{nat_cmp}
use Rattle.url.specs.Parts.{serialize}
use Rattle.edit_lookups.specs.UserinfoAddresses.{strip_userinfo}
use Rattle.edit_sources.specs.Withheld.{nothing}
use Rattle.edit_sources.specs.declared.withheld.Withheld.{Withheld}
use Rattle.edit_upgrade.specs.Lookups.{answer_in}
use Rattle.edit_upgrade.specs.UpdateCalls.{is_among}
use Rattle.edit_upgrade.specs.declared.decision.options.Options.{Options}
use Rattle.edit_upgrade.specs.declared.upgrade.Look.{Look}
use Rattle.edit_upgrade.specs.declared.upgrade.UpgradePlan.{UpgradePlan}
use Rattle.edit_shown.specs.declared.held_back.Cause.{Cause}
use Rattle.edit_shown.specs.declared.held_back.Cause.TheVariants.{Younger, Undated}
use Rattle.edit_shown.specs.declared.held_back.HeldBack.{HeldBack}

-- what was held back of the crate of a lookup (own)
abbrev pub withheld_at : Look → Withheld
withheld_at lookup = option_map_or (λ krate. krate.withheld) (answer_in lookup) nothing

-- whether versions were held back for this cause (own)
abbrev pub has_cause : Cause → Withheld → Bool
has_cause Younger withheld = withheld.younger
has_cause Undated withheld = withheld.undated

-- whether versions of a crate that is not excluded were held back for this cause (own)
abbrev pub is_held_back : Cause → (List ℕ → Bool) → Look → Bool
is_held_back cause is_excluded lookup =
    has_cause cause (withheld_at lookup) && not (is_excluded (string_bytes lookup.name))

-- the name of such a crate, as a list (own)
abbrev pub name_at : Cause → (List ℕ → Bool) → Look → List (List ℕ)
name_at cause is_excluded lookup =
    if is_held_back cause is_excluded lookup then string_bytes lookup.name ∷ [] else []

-- the names of such crates, in the order of the lookups (own)
abbrev pub names_of : Cause → (List ℕ → Bool) → List Look → List (List ℕ)
names_of cause is_excluded lookups = flat_map (name_at cause is_excluded) lookups

-- the address of a lookup that found the time of a version, as a list (own)
abbrev pub dated_address : Look → List (List ℕ)
dated_address lookup = if (withheld_at lookup).dated then serialize lookup.registry ∷ [] else []

-- the addresses of the lookups that found the time of a version (own)
abbrev pub dated_addresses : List Look → List (List ℕ)
dated_addresses lookups = flat_map dated_address lookups

-- whether versions of a crate were held back because their time is unknown, and no lookup at the address
-- found the time of a version (own)
abbrev pub is_without_times : (List ℕ → Bool) → (List ℕ → Bool) → Look → Bool
is_without_times is_excluded has_times lookup =
    is_held_back Undated is_excluded lookup && not (has_times (serialize lookup.registry))

-- these texts with one more, sorted by bytes, without duplicates (own)
abbrev pub with_text : List (List ℕ) → List ℕ → List (List ℕ)
with_text texts text = insert_key (slice_cmp nat_cmp) texts text

-- these addresses with that of the registry of such a crate, without user name and password (own)
abbrev pub add_registry : (List ℕ → Bool) → (List ℕ → Bool) → List (List ℕ) → Look → List (List ℕ)
add_registry is_excluded has_times addresses lookup =
    if is_without_times is_excluded has_times lookup
    then with_text addresses (strip_userinfo (serialize lookup.registry)) else addresses

-- the addresses of the registries that have the time of no version, by a test for the addresses of those that
-- have one; sorted by bytes, without duplicates (own)
abbrev pub registries_by : (List ℕ → Bool) → (List ℕ → Bool) → List Look → List (List ℕ)
registries_by is_excluded has_times lookups = fold (add_registry is_excluded has_times) [] lookups

-- the addresses of the registries that have the time of no version (own)
abbrev pub registries_of : (List ℕ → Bool) → List Look → List (List ℕ)
registries_of is_excluded lookups = registries_by is_excluded (is_among (dated_addresses lookups)) lookups

-- what was held back: the crates with versions that were published too late, those with versions of unknown
-- time, and the registries that have the time of no version (own)
pub record Lists : Type 0 where
  pub younger : List (List ℕ)
  pub undated : List (List ℕ)
  pub registries : List (List ℕ)

-- these lists, as texts (own)
abbrev pub lists_of : HeldBack → Lists
lists_of h = record {
  younger = map string_bytes h.younger.items;
  undated = map string_bytes h.undated.items;
  registries = map string_bytes h.registries.items;
}

-- whether nothing was held back (own)
abbrev pub is_nothing : Lists → Bool
is_nothing lists = (length lists.younger == 0) && (length lists.undated == 0)

-- what an upgrade held back, of crates that are not excluded (own)
abbrev pub held_back : UpgradePlan → Options → Lists
held_back plan options =
    let is_excluded = is_among (map string_bytes options.exclude.items) in
    let lookups = plan.looks.items in record {
      younger = names_of Younger is_excluded lookups;
      undated = names_of Undated is_excluded lookups;
      registries = registries_of is_excluded lookups;
    }
