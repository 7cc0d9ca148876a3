-- The requirements that package arguments select with a precise version (own, after cargo-edit; the
-- operators are those of Cargo reference, "Specifying Dependencies").
use Rattle.std.specs.Prelude.{ℕ, List, [], Bool, true, false, if◌then◌else◌, Option, Some, None, option_and_then, option_map}
use Rattle.std.specs.BTreeMap.{insert_entry}
use Rattle.std.specs.Cmp.Lexicographic.{slice_cmp}
use Rattle.std.specs.List.{filter_map, fold}
use Rattle.std.specs.Map.{lookup}
use Rattle.std.specs.Ordering.{nat_cmp}
use Rattle.std.specs.Str.{bytes_eq}
use Rattle.semver.specs.Parse.{Held, Parts}
use Rattle.semver.specs.declared.Op.{Op}
use Rattle.semver.specs.declared.Op.TheVariants as op
use Rattle.edit_version.specs.CrateSpecs.{spec_name, spec_requirement}
use Rattle.edit_version.specs.Greatest.{advance}
use Rattle.edit_version.specs.Requirement.{requirement_read}
use Rattle.edit_version.specs.VersionOrder.{full_order}

-- a requirement with its precise version: its comparators, and the greatest version that they name
pub record Pin : Type 0 where
  pub comparators : List Held
  pub version : Parts

-- the operator is `>` or `<`, which do not admit the version behind them
abbrev pub is_strict : Op → Bool
is_strict op.Greater = true
is_strict op.Less = true
is_strict o = false

-- the version of three numbers and a pre-release, where all three are given
abbrev pub full_version : ℕ → Option ℕ → Option ℕ → List ℕ → Option Parts
full_version major None patch pre = None
full_version major (Some minor) None pre = None
full_version major (Some minor) (Some patch) pre = Some (major, minor, patch, pre, [])

-- the version that a comparator names: one with three numbers, and not behind `>` or `<`
abbrev pub named_version : Held → Option Parts
named_version c = if is_strict c.0 then None else full_version c.1 c.2 c.3 c.4

-- the greatest of versions, none where there are none
abbrev pub greatest : List Parts → Option Parts
greatest versions = fold (advance (λ v. true) full_order) None versions

-- the greatest version that comparators name
abbrev pub precise_version : List Held → Option Parts
precise_version comparators = greatest (filter_map named_version comparators)

-- comparators with their precise version, where they have one
abbrev pub pin_by : List Held → Option Pin
pin_by comparators =
    option_map (λ v. record { comparators = comparators; version = v }) (precise_version comparators)

-- the requirement that a text is, where it is one that has a precise version
abbrev pub pin_of : List ℕ → Option Pin
pin_of text = option_and_then pin_by (requirement_read text)

-- the requirement of a package argument, where it has a precise version
abbrev pub arg_pin : List ℕ → Option Pin
arg_pin arg = option_and_then pin_of (spec_requirement arg)

-- names in byte order, each with its pin, after one more package argument: it takes the place of an earlier
-- one of its name
abbrev pub with_package_arg : List (List ℕ × Option Pin) → List ℕ → List (List ℕ × Option Pin)
with_package_arg pins arg = insert_entry (slice_cmp nat_cmp) pins (spec_name arg) (arg_pin arg)

-- the names that package arguments select, in byte order, each with the pin of its last argument, where that
-- has one
abbrev pub pins_of : List (List ℕ) → List (List ℕ × Option Pin)
pins_of args = fold with_package_arg [] args

-- the pin of a name, where it has one
abbrev pub pin_at : List (List ℕ × Option Pin) → List ℕ → Option Pin
pin_at pins name = option_and_then (λ pin. pin) (lookup (bytes_eq name) pins)
