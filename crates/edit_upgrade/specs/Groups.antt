-- Packages grouped by name, over the program's type.
use Rattle.std.specs.Prelude.{◌≡◌, ℕ, List, [], Vec, map, string_bytes}
use Rattle.std.specs.Borrow.{Bor}
use Rattle.std.specs.BTreeMap.{BTreeMap, get_by}
use Rattle.std.specs.Cmp.Lexicographic.{slice_cmp}
use Rattle.std.specs.List.{filter}
use Rattle.std.specs.Option.{option_map_or}
use Rattle.std.specs.Ordering.{nat_cmp}
use Rattle.std.specs.Str.{bytes_eq}
use Rattle.std.specs.declared.alloc.Global.{Global}
use Rattle.edit_metadata.specs.declared.workspace.Package.{Package}

-- the borrowed packages as values
abbrev pub package_values : List (Bor Package) → List Package
package_values packages = map (λ p. p.now) packages

-- the packages of a name, in order
abbrev pub group : BTreeMap (Bor (List ℕ)) (Vec (Bor Package) Global) → List ℕ → List Package
group groups name =
    option_map_or (λ g. package_values g.items) (get_by (λ k. slice_cmp nat_cmp name k.now) groups) []

-- each name has exactly its packages, in order
abbrev pub AreGroups : BTreeMap (Bor (List ℕ)) (Vec (Bor Package) Global) → List Package → Type 0
AreGroups groups packages =
    (name : List ℕ) → group groups name ≡ filter (λ p. bytes_eq name (string_bytes p.name)) packages
