-- The models of lookups.
use Rattle.std.specs.Prelude.{◌≡◌, ℕ, List, Vec, map, string_bytes}
use Rattle.std.specs.Borrow.{Bor}
use Rattle.std.specs.BTreeMap.{BTreeMap}
use Rattle.std.specs.List.{filter}
use Rattle.std.specs.Str.{bytes_eq}
use Rattle.std.specs.declared.alloc.Global.{Global}
use Rattle.edit_lock_bounds.specs.Lookups.{Lookup}
use Rattle.edit_lock_bounds.specs.Views.{items_at}
use Rattle.edit_lock_bounds.specs.declared.lookups.Lookup.{Lookup as RustLookup}

-- the model of a lookup (own)
abbrev pub lookup_view : RustLookup → Lookup
lookup_view l = record { name = string_bytes l.name; source = string_bytes l.source }

-- the models of lookups (own)
abbrev pub lookups_view : List RustLookup → List Lookup
lookups_view ls = map lookup_view ls

-- at each name a map has exactly the sources of these crates (own)
abbrev pub AreSeen : BTreeMap (Bor (List ℕ)) (Vec (Bor (List ℕ)) Global) → List Lookup → Type 0
AreSeen seen ls = (name : List ℕ) → items_at (λ t. t.now) seen name
    ≡ map (λ l. l.source) (filter (λ l. bytes_eq name l.name) ls)
