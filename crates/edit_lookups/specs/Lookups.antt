-- The lines of a file of lookups.
use Rattle.std.specs.Prelude.{◌≡◌, ◌≢◌, ℕ, ◌<◌, List, [], ◌∷◌, ◌++◌, All, length, slice_index}
use Rattle.std.specs.List.{flat_map}
use Rattle.edit_lookups.specs.declared.lookups.Lookup.{Lookup}

-- the model of a lookup
pub record LookupText : Type 0 where
  pub address : List ℕ
  pub name : List ℕ
  pub path : List ℕ

-- the model of a lookup
abbrev pub lookup_text : Lookup → LookupText
lookup_text l = record { address = l.address.now; name = l.name.now; path = l.path.now }

-- the text does not contain this byte
abbrev pub HasNo : ℕ → List ℕ → Type 0
HasNo c text = (i : ℕ) → i < length text → slice_index text i ≢ c

-- a text without tabs and line feeds
pub record IsPlain (text : List ℕ) : Type 0 where
  pub no_tab : HasNo 9 text
  pub no_line_end : HasNo 10 text

-- a lookup whose fields have no tabs and line feeds
pub record IsLookup (l : LookupText) : Type 0 where
  pub address : IsPlain l.address
  pub name : IsPlain l.name
  pub path : IsPlain l.path

-- the line of a lookup: its three fields, separated by tabs
abbrev pub lookup_line : LookupText → List ℕ
lookup_line l = l.address ++ 9 ∷ (l.name ++ 9 ∷ l.path)

-- the text consists of the lines of these lookups in order, each with a line end
pub record HasLookupLines (text : List ℕ) (lookups : List LookupText) : Type 0 where
  pub is : text ≡ flat_map (λ l. lookup_line l ++ 10 ∷ []) lookups
  pub plain : All IsLookup lookups
