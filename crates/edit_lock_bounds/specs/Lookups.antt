-- The crates of which eligible versions have to be known (own).
use Rattle.std.specs.Prelude.{◌&&◌, ℕ, List, [], ◌∷◌, ◌++◌, Bool, Option, fold, if◌then◌else◌, option_map}
use Rattle.std.specs.List.{filter_map, list_any}
use Rattle.std.specs.Str.{bytes_eq}
use Rattle.edit_lock_bounds.specs.Changes.{Change, changed_packages}
use Rattle.edit_lock_bounds.specs.LockPackages.{Package}

-- a crate by its name and its source (own)
pub record Lookup : Type 0 where
  pub name : List ℕ
  pub source : List ℕ

-- the crate of a package, none where it has no source (own)
abbrev pub lookup_of : Package → Option Lookup
lookup_of p = option_map (λ s. record { name = p.name; source = s }) p.source

-- two crates are the same (own)
abbrev pub is_same_lookup : Lookup → Lookup → Bool
is_same_lookup a b = bytes_eq a.name b.name && bytes_eq a.source b.source

-- the crates so far, with one more where it is not one of them (own)
abbrev pub with_lookup : List Lookup → Lookup → List Lookup
with_lookup seen a = if list_any (λ b. is_same_lookup b a) seen then seen else seen ++ a ∷ []

-- the crates so far, with those of packages, each once, in their order (own)
abbrev pub with_lookups : List Lookup → List Package → List Lookup
with_lookups seen packages = fold with_lookup seen (filter_map lookup_of packages)

-- the crates of the changed packages, each once, in the order of the lock file (own)
abbrev pub lookups : Change → List Lookup
lookups c = with_lookups [] (changed_packages c)
