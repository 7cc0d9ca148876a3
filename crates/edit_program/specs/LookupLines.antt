-- Lookups as lines: address, name and path in an index, separated by tabs (own).
use Rattle.std.specs.Prelude.{◌≡◌, ℕ, List, [], ◌∷◌, ◌++◌, true, not, string_bytes}
use Rattle.std.specs.List.{list_any}
use Rattle.url.specs.Parts.{serialize}
use Rattle.edit_sources.specs.Names.{is_crate_name, layout}
use Rattle.edit_upgrade.specs.declared.upgrade.Look.{Look}

-- three texts, separated by tabs, and a line end (own)
abbrev pub line_text : List ℕ → List ℕ → List ℕ → List ℕ
line_text address name path = address ++ 9 ∷ (name ++ 9 ∷ (path ++ 10 ∷ []))

-- the line of a lookup (own)
abbrev pub lookup_as_line : Look → List ℕ
lookup_as_line lookup =
    line_text (serialize lookup.registry) (string_bytes lookup.name) (layout (string_bytes lookup.name))

-- the number of the error of a lookup whose name is not valid in an index (own)
abbrev pub HasBadLookup : List Look → ℕ → Type 0
HasBadLookup lookups n =
    (n ≡ 29) × (list_any (λ lookup. not (is_crate_name (string_bytes lookup.name))) lookups ≡ true)
