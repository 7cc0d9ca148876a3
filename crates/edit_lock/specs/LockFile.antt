-- The packages of a lock file (The Cargo Book, "Cargo.toml vs Cargo.lock"; the TOML specification, "Array of
-- Tables").
use Rattle.std.specs.Prelude.{◌≡◌, ℕ, List, [], ◌∷◌, ◌++◌, Option, Some, None, codes, option_and_then}
use Rattle.std.specs.Str.{IsUtf8}
use Rattle.toml.specs.Data.{Data, Items, no_items, item, Members, get_member, as_array, as_str, as_table}
use Rattle.toml.specs.Parse.{parse_document}

-- a package of a lock file
pub record Package : Type 0 where
  pub name : List ℕ
  pub version : List ℕ

-- a package as an argument of `cargo update --package`: `name@version`
abbrev pub spec_of : Package → List ℕ
spec_of p = p.name ++ (codes "@" ++ p.version)

-- combines two values that are both there
abbrev pub both : {A B C : Type 0} → (A → B → C) → Option A → Option B → Option C
both f (Some x) (Some y) = Some (f x y)
both f _ _ = None

-- the string of a key in a table
abbrev pub text_at : List ℕ → Members → Option (List ℕ)
text_at key members = option_and_then as_str (get_member key members)

-- the package that a table describes: it has the strings `name` and `version`
abbrev pub package_in : Members → Option Package
package_in members = both (λ n v. record { name = n; version = v })
    (text_at (codes "name") members) (text_at (codes "version") members)

-- the package that a value describes, if it is such a table
abbrev pub package_of : Data → Option Package
package_of value = option_and_then package_in (as_table value)

-- the packages that values describe, if each of them describes one
abbrev pub packages_of : Items → Option (List Package)
packages_of no_items = Some []
packages_of (item value rest) = both (λ p ps. p ∷ ps) (package_of value) (packages_of rest)

-- the packages of an array; none where the array is absent
abbrev pub packages_at : Option Data → Option (List Package)
packages_at None = Some []
packages_at (Some value) = option_and_then packages_of (as_array value)

-- the packages of a document: the elements of `package`; everything else is ignored
abbrev pub packages_in : Members → Option (List Package)
packages_in document = packages_at (get_member (codes "package") document)

-- the bytes are UTF-8 and a TOML document with these packages
pub record LocksPackages (bytes : List ℕ) (packages : List Package) : Type 0 where
  pub utf8 : IsUtf8 bytes
  pub members : Members
  pub toml : parse_document bytes ≡ Some members
  pub reads : packages_in members ≡ Some packages

-- the bytes are not UTF-8, are no TOML document, or have a `package` that is no array of such tables
pub data IsNoLock (bytes : List ℕ) : Type 0 where
  not_utf8 : (IsUtf8 bytes → ⊥) → IsNoLock bytes
  not_toml : parse_document bytes ≡ None → IsNoLock bytes
  misshapen : (members : Members) → parse_document bytes ≡ Some members → packages_in members ≡ None
      → IsNoLock bytes
