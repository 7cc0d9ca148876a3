-- The models of lock files and calls.
use Rattle.std.specs.Prelude.{ℕ, List, [], map, String, Vec, string_bytes}
use Rattle.std.specs.Option.{option_map_or}
use Rattle.std.specs.BTreeMap.{get_by_text}
use Rattle.std.specs.BTreeSet.{contains_text}
use Rattle.std.specs.declared.alloc.Global.{Global}
use Rattle.edit_lock.specs.LockFile.{Package, spec_of}
use Rattle.edit_lock.specs.AdaptedCalls.{Call, Changes}
use Rattle.edit_lock.specs.declared.lock.Lock.{Lock}
use Rattle.edit_lock.specs.declared.lock.LockedPackage.{LockedPackage}
use Rattle.edit_lock.specs.declared.index.NewPackage.{NewPackage}
use Rattle.edit_lock.specs.declared.index.Index.{Index}

-- the model of a package
abbrev pub locked_package_view : LockedPackage → Package
locked_package_view p = record { name = string_bytes p.name; version = string_bytes p.version }

-- the packages of a lock file
abbrev pub lock_view : Lock → List Package
lock_view l = map locked_package_view l.packages.items

-- the arguments of a call
abbrev pub arguments_view : List (String Global) → Call
arguments_view arguments = map string_bytes arguments

-- the arguments of each call
abbrev pub calls_view : List (Vec (String Global) Global) → List Call
calls_view calls = map (λ call. arguments_view call.items) calls

-- the packages of a name, as `name@version`
abbrev pub new_packages_view : List NewPackage → List (List ℕ)
new_packages_view gained = map (λ g. string_bytes g.spec) gained

-- the name of a package and its `name@version`
abbrev pub pair_of : Package → List ℕ × List ℕ
pair_of p = (p.name, spec_of p)

-- the name and the `name@version` of each new package
abbrev pub new_package_pairs : List NewPackage → List (List ℕ × List ℕ)
new_package_pairs gained = map (λ g. (string_bytes g.name, string_bytes g.spec)) gained

-- the model of an index
abbrev pub changes_view : Index → Changes
changes_view i = record {
  had = contains_text i.had;
  has = contains_text i.has;
  gained = λ name. option_map_or (λ g. new_packages_view g.items) (get_by_text i.gained name) [];
}
