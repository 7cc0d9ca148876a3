-- Package arguments and excluded names, as the program has them.
use Rattle.std.specs.Prelude.{◌≡◌, ◌++◌, [], ◌∷◌, ℕ, List, All, Bool, true, if◌then◌else◌, is_some, map, Option, option_and_then, option_map, string_bytes}
use Rattle.std.specs.BTreeMap.{get_by_text}
use Rattle.std.specs.BTreeSet.{contains_text}
use Rattle.std.specs.List.{list_any}
use Rattle.std.specs.Str.{bytes_eq}
use Rattle.edit_record.specs.EachOnce.{each_once}
use Rattle.edit_version.specs.CrateSpecs.{spec_name, spec_requirement}
use Rattle.edit_upgrade.specs.EntrySelection.{IsPackageArg, excluded_of, is_named, requirement_in, package_args_of}
use Rattle.edit_upgrade.specs.declared.package_selection.PackageSelection.{PackageSelection}
use Rattle.edit_upgrade.specs.declared.package_selection.PackageArgs.{PackageArgs}
use Rattle.edit_upgrade.specs.declared.decision.options.Options.{Options}

-- a package argument of this name was read (own)
abbrev pub has_name : PackageArgs → List ℕ → Bool
has_name w name = is_some (get_by_text w.requirements name)

-- the last requirement of this name (own)
abbrev pub last_requirement : PackageArgs → List ℕ → Option (List ℕ)
last_requirement w name =
    option_and_then (λ req. option_map string_bytes req) (get_by_text w.requirements name)

-- what these package arguments say was read: their names, each once, and the last requirement of each (own)
pub record ArePackageArgs (args : List (List ℕ)) (w : PackageArgs) : Type 0 where
  pub each : All IsPackageArg args
  pub names : map string_bytes w.names.items ≡ each_once (map spec_name args)
  pub named : (name : List ℕ) → has_name w name ≡ is_named args name
  pub requirements : (name : List ℕ) → last_requirement w name ≡ requirement_in args name

-- what one more package argument adds to what was read (own)
pub record AddsPackageArg (arg : List ℕ) (old new : PackageArgs) : Type 0 where
  pub is_package_arg : IsPackageArg arg
  pub names : map string_bytes new.names.items
      ≡ map string_bytes old.names.items
      ++ (if has_name old (spec_name arg) then [] else spec_name arg ∷ [])
  pub named : (name : List ℕ) → has_name new name
      ≡ (if bytes_eq (spec_name arg) name then true else has_name old name)
  pub requirements : (name : List ℕ) → last_requirement new name
      ≡ (if bytes_eq (spec_name arg) name then spec_requirement arg else last_requirement old name)

-- what the options ask for was read (own)
pub record IsPackageSelection (o : Options) (p : PackageSelection) : Type 0 where
  pub args : ArePackageArgs (package_args_of o) p.args
  pub excluded : (name : List ℕ) → contains_text p.excluded name ≡ list_any (bytes_eq name) (excluded_of o)
