-- Which versions of crates the holds of a policy admit (own).
use Rattle.std.specs.Prelude.{◌&&◌, ◌||◌, ℕ, List, Bool, true, false, is_some, not, string_bytes}
use Rattle.std.specs.List.{list_all, list_any}
use Rattle.std.specs.Option.{option_map_or}
use Rattle.std.specs.Str.{bytes_eq}
use Rattle.semver.specs.Parse.{Held}
use Rattle.edit_version.specs.Admits.{admits}
use Rattle.edit_version.specs.ReadVersion.{version_read}
use Rattle.edit_version.specs.Requirement.{comparators_of}
use Rattle.edit_policy.specs.declared.policy.CratePolicy.{CratePolicy}

-- whether comparators admit the version of a text; a text that is no version is not admitted (Cargo reference,
-- "Specifying Dependencies")
abbrev pub admits_text : List Held → List ℕ → Bool
admits_text comparators version = option_map_or (admits comparators) (version_read version) false

-- whether what a policy says of a crate admits a version of the crate of this name: one of another name, or
-- one that the hold admits, where there is a hold (own)
abbrev pub passes_hold : CratePolicy → List ℕ → List ℕ → Bool
passes_hold c name version =
    not (bytes_eq (string_bytes c.name) name)
    || option_map_or (λ hold. admits_text (comparators_of hold.requirement) version) c.hold true

-- whether a policy admits a version of the crate of this name (own)
abbrev pub passes_holds : List CratePolicy → List ℕ → List ℕ → Bool
passes_holds crates name version = list_all (λ c. passes_hold c name version) crates

-- whether a policy has a hold on the crate of this name (own)
abbrev pub has_hold : List CratePolicy → List ℕ → Bool
has_hold crates name = list_any (λ c. bytes_eq (string_bytes c.name) name && is_some c.hold) crates
