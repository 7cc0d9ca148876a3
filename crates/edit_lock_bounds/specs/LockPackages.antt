-- The packages of a lock file, with their sources (The Cargo Book, "Cargo.toml vs Cargo.lock"; the TOML
-- specification, "Array of Tables").
use Rattle.std.specs.Prelude.{◌≡◌, ℕ, List, [], ◌∷◌, Option, Some, None, codes, option_and_then, option_map}
use Rattle.std.specs.Str.{IsUtf8}
use Rattle.toml.specs.Data.{Data, Items, no_items, item, Members, get_member, as_array, as_str, as_table}
use Rattle.toml.specs.Parse.{parse_document}
use Rattle.edit_lock.specs.LockFile.{both, text_at}

-- a package of a lock file: its source is none for a package of the workspace (own)
pub record Package : Type 0 where
  pub name : List ℕ
  pub version : List ℕ
  pub source : Option (List ℕ)

-- a source that may be absent: none in it where it is, and none at all where the value is no string (own)
abbrev pub source_of : Option Data → Option (Option (List ℕ))
source_of None = Some None
source_of (Some value) = option_map (λ s. Some s) (as_str value)

-- the source that a table names (own)
abbrev pub source_in : Members → Option (Option (List ℕ))
source_in members = source_of (get_member (codes "source") members)

-- combines three values that are all there (own)
abbrev pub all_three : {A B C D : Type 0} → (A → B → C → D) → Option A → Option B → Option C → Option D
all_three f (Some x) (Some y) (Some z) = Some (f x y z)
all_three f _ _ _ = None

-- the package that a table describes: it has the strings `name` and `version`, and a string as `source` or
-- none (own)
abbrev pub package_in : Members → Option Package
package_in members = all_three (λ n v s. record { name = n; version = v; source = s })
    (text_at (codes "name") members) (text_at (codes "version") members) (source_in members)

-- the package that a value describes, if it is such a table (own)
abbrev pub package_of : Data → Option Package
package_of value = option_and_then package_in (as_table value)

-- the packages that values describe, if each of them describes one (own)
abbrev pub packages_of : Items → Option (List Package)
packages_of no_items = Some []
packages_of (item value rest) = both (λ p ps. p ∷ ps) (package_of value) (packages_of rest)

-- the packages of an array; none where the array is absent (own)
abbrev pub packages_at : Option Data → Option (List Package)
packages_at None = Some []
packages_at (Some value) = option_and_then packages_of (as_array value)

-- the packages of a document: the elements of `package`; everything else is ignored (own)
abbrev pub packages_in : Members → Option (List Package)
packages_in document = packages_at (get_member (codes "package") document)

-- the bytes are UTF-8 and a TOML document with these packages (own)
pub record LocksPackages (bytes : List ℕ) (packages : List Package) : Type 0 where
  pub utf8 : IsUtf8 bytes
  pub members : Members
  pub toml : parse_document bytes ≡ Some members
  pub reads : packages_in members ≡ Some packages

-- the bytes are not UTF-8, are no TOML document, or have a `package` that is no array of such tables (own)
pub data IsNoLock (bytes : List ℕ) : Type 0 where
  not_utf8 : (IsUtf8 bytes → ⊥) → IsNoLock bytes
  not_toml : parse_document bytes ≡ None → IsNoLock bytes
  misshapen : (members : Members) → parse_document bytes ≡ Some members → packages_in members ≡ None
      → IsNoLock bytes
