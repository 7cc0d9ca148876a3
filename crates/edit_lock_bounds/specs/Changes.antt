-- The packages that a run changed in a lock file (own; sources: The Cargo Book, "Package ID Specifications").
use Rattle.std.specs.Prelude.{◌&&◌, ◌||◌, ℕ, List, Bool, true, false, Option, Some, None, codes, nat_eq, not}
use Rattle.std.specs.List.{filter, list_any, starts_with}
use Rattle.std.specs.Str.{bytes_eq}
use Rattle.edit_lock_bounds.specs.LockPackages.{Package}

-- a lock file before a run and now, and the names of packages that the user pinned (own)
pub record Change : Type 0 where
  pub before : List Package
  pub after : List Package
  pub exempt : List (List ℕ)

-- two sources are the same, or both absent (own)
abbrev pub is_same_source : Option (List ℕ) → Option (List ℕ) → Bool
is_same_source None None = true
is_same_source (Some s) (Some t) = bytes_eq s t
is_same_source s t = false

-- two packages have the same name, version and source (own)
abbrev pub is_same : Package → Package → Bool
is_same p q = bytes_eq p.name q.name && (bytes_eq p.version q.version && is_same_source p.source q.source)

-- the source is a registry (The Cargo Book, "Package ID Specifications", kinds of protocols)
abbrev pub is_registry : Option (List ℕ) → Bool
is_registry None = false
is_registry (Some s) = starts_with nat_eq s (codes "registry+") || starts_with nat_eq s (codes "sparse+")

-- the package is one of these (own)
abbrev pub is_among : List Package → Package → Bool
is_among packages p = list_any (λ q. is_same p q) packages

-- the text is one of these (own)
abbrev pub is_text_of : List (List ℕ) → List ℕ → Bool
is_text_of texts text = list_any (λ t. bytes_eq t text) texts

-- a package that the run may set back: it comes from a registry, its name is not exempt, and the lock file
-- did not have it before (own)
abbrev pub is_changed : Change → Package → Bool
is_changed c p = is_registry p.source && (not (is_text_of c.exempt p.name) && not (is_among c.before p))

-- the packages that the run may set back, in the order of the lock file (own)
abbrev pub changed_packages : Change → List Package
changed_packages c = filter (is_changed c) c.after
