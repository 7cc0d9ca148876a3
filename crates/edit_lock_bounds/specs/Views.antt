-- The models of the types of this crate.
use Rattle.std.specs.Prelude.{◌&&◌, ℕ, List, [], Bool, Option, String, Vec, map, not, option_map, string_bytes}
use Rattle.std.specs.Borrow.{Bor}
use Rattle.std.specs.BTreeMap.{BTreeMap, get_by}
use Rattle.std.specs.BTreeSet.{contains_text}
use Rattle.std.specs.Cmp.Lexicographic.{slice_cmp}
use Rattle.std.specs.Option.{option_map_or}
use Rattle.std.specs.Ordering.{nat_cmp}
use Rattle.std.specs.declared.alloc.Global.{Global}
use Rattle.semver.specs.Identifiers.{parts_of}
use Rattle.edit_version.specs.Requirement.{comparators_of}
use Rattle.edit_lock_bounds.specs.Changes.{Change, is_among, is_registry}
use Rattle.edit_lock_bounds.specs.Choices.{Candidate, Chosen, Crate, Known, Limits, Requirement, Wanted}
use Rattle.edit_lock_bounds.specs.LockPackages.{Package}
use Rattle.edit_lock_bounds.specs.declared.candidates.Candidate.{Candidate as RustCandidate}
use Rattle.edit_lock_bounds.specs.declared.candidates.ReadRequirement.{ReadRequirement}
use Rattle.edit_lock_bounds.specs.declared.changes.History.{History}
use Rattle.edit_lock_bounds.specs.declared.changes.LockChange.{LockChange}
use Rattle.edit_lock_bounds.specs.declared.inputs.Bounds.{Bounds}
use Rattle.edit_lock_bounds.specs.declared.inputs.ChosenVersion.{ChosenVersion}
use Rattle.edit_lock_bounds.specs.declared.inputs.EligibleVersions.{EligibleVersions}
use Rattle.edit_lock_bounds.specs.declared.inputs.Requirement.{Requirement as RustRequirement}
use Rattle.edit_lock_bounds.specs.declared.facts.Facts.{Facts}
use Rattle.edit_lock_bounds.specs.declared.packages.Package.{Package as RustPackage}

-- the texts (own)
abbrev pub texts_view : List (String Global) → List (List ℕ)
texts_view texts = map string_bytes texts

-- a text that may be absent (own)
abbrev pub optional_text : Option (String Global) → Option (List ℕ)
optional_text text = option_map string_bytes text

-- a borrowed text that may be absent (own)
abbrev pub borrowed_text : Option (Bor (List ℕ)) → Option (List ℕ)
borrowed_text text = option_map (λ t. t.now) text

-- the model of a package (own)
abbrev pub package_view : RustPackage → Package
package_view p = record {
  name = string_bytes p.name;
  version = string_bytes p.version;
  source = optional_text p.source;
}

-- the models of packages (own)
abbrev pub packages_view : List RustPackage → List Package
packages_view packages = map package_view packages

-- the model of a lock file before a run and now (own)
abbrev pub change_view : LockChange → Change
change_view c = record {
  before = packages_view c.before.now;
  after = packages_view c.after.now;
  exempt = texts_view c.exempt.now;
}

-- the model of a requirement (own)
abbrev pub requirement_view : RustRequirement → Requirement
requirement_view r = record { name = string_bytes r.name; source = optional_text r.source; text = string_bytes r.req }

-- the model of the eligible versions of a crate (own)
abbrev pub crate_view : EligibleVersions → Crate
crate_view c = record {
  name = string_bytes c.name;
  source = string_bytes c.source;
  versions = texts_view c.versions.items;
}

-- the model of a chosen version (own)
abbrev pub chosen_view : ChosenVersion → Chosen
chosen_view c = record { name = string_bytes c.name; version = string_bytes c.version }

-- the model of what bounds the versions of packages (own)
abbrev pub limits_view : Bounds → Limits
limits_view b = record {
  requirements = map requirement_view b.requirements.now;
  crates = map crate_view b.crates.now;
  chosen = map chosen_view b.chosen.now;
}

-- what a map by names has at a name, each item by a view of it (own)
abbrev pub items_at : {X Y : Type 0} → (X → Y) → BTreeMap (Bor (List ℕ)) (Vec X Global) → List ℕ → List Y
items_at f groups name =
    option_map_or (λ g. map f g.items) (get_by (λ k. slice_cmp nat_cmp name k.now) groups) []

-- a borrowed package (own)
abbrev pub borrowed_package : Bor RustPackage → Package
borrowed_package p = package_view p.now

-- whether a package is changed, by what is kept of the lock file before the run (own)
abbrev pub is_changed_in : History → Package → Bool
is_changed_in h p = is_registry p.source
    && (not (contains_text h.exempt p.name) && not (is_among (items_at borrowed_package h.former p.name) p))

-- what was read of a requirement (own)
abbrev pub wanted_view : ReadRequirement → Wanted
wanted_view r = record { source = optional_text r.source; comparators = option_map comparators_of r.req }

-- the model of a candidate (own)
abbrev pub candidate_view : RustCandidate → Candidate
candidate_view c = record { text = string_bytes c.text.now; version = parts_of c.version; is_chosen = c.is_chosen }

-- what is known of the crates of a name (own)
abbrev pub known_in : Facts → List ℕ → Known
known_in f name = record {
  requirements = items_at wanted_view f.requirements name;
  crates = items_at (λ c. crate_view c.now) f.crates name;
  chosen = items_at (λ t. t.now) f.chosen name;
}
