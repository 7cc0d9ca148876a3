-- Which entries `--package` and `--exclude` select, and which requirements `--package` gives (own, after
-- cargo-edit).
use Rattle.std.specs.Prelude.{◌≡◌, ◌==◌, ◌&&◌, ◌||◌, ℕ, List, [], All, Bool, not, Option, None, find, length, map, option_and_then, reverse, string_bytes}
use Rattle.std.specs.List.{list_any}
use Rattle.std.specs.Str.{bytes_eq}
use Rattle.edit_version.specs.CrateSpecs.{IsReadOrAbsent, invalid_chars, spec_name, spec_requirement}
use Rattle.edit_upgrade.specs.declared.decision.options.Options.{Options}

-- the `--package` arguments, as `serde` and `serde@1.0`
abbrev pub package_args_of : Options → List (List ℕ)
package_args_of o = map string_bytes o.package.items

-- the excluded names
abbrev pub excluded_of : Options → List (List ℕ)
excluded_of o = map string_bytes o.exclude.items

-- the argument has this name
abbrev pub is_arg_named : List ℕ → List ℕ → Bool
is_arg_named name arg = bytes_eq (spec_name arg) name

-- one of these arguments has this name
abbrev pub is_named : List (List ℕ) → List ℕ → Bool
is_named args name = list_any (is_arg_named name) args

-- an entry of this name is left out: there are `--package` arguments and none has its name, or its name is
-- excluded
abbrev pub is_excluded : Options → List ℕ → Bool
is_excluded o name =
    (not (length o.package.items == 0) && not (is_named (package_args_of o) name))
    || list_any (bytes_eq name) (excluded_of o)

-- the requirement of the last of these arguments that has this name
abbrev pub requirement_in : List (List ℕ) → List ℕ → Option (List ℕ)
requirement_in args name = option_and_then spec_requirement (find (is_arg_named name) (reverse args))

-- the requirement that `--package` gives for this name
abbrev pub requirement_for : Options → List ℕ → Option (List ℕ)
requirement_for o name = requirement_in (package_args_of o) name

-- no argument contains an `@`: the arguments select entries and give no requirement
abbrev pub HasOnlyNames : Options → Type 0
HasOnlyNames o = All (λ arg. spec_requirement arg ≡ None) (package_args_of o)

-- a valid argument: a crate name, with no requirement or one that can be parsed
abbrev pub IsPackageArg : List ℕ → Type 0
IsPackageArg arg = (invalid_chars (spec_name arg) ≡ []) × IsReadOrAbsent (spec_requirement arg)
