-- The registries and sources of a configuration file (Cargo reference, "Configuration", registries and
-- source).
use Rattle.std.specs.Prelude.{◌≡◌, ℕ, List, [], ◌∷◌, Bool, not, filter, Option, Some, None, codes, option_map, option_and_then}
use Rattle.std.specs.Str.{IsUtf8, bytes_eq}
use Rattle.toml.specs.Data.{Data, Members, no_members, member, get_member, as_str, as_table}
use Rattle.toml.specs.Parse.{parse_document}

-- an entry of `source`: the URL of its registry, and the key of the source that replaces it ("Source
-- Replacement")
pub record Source : Type 0 where
  pub registry : Option (List ℕ)
  pub replace_with : Option (List ℕ)

-- the model of a configuration file: the alternate registries of `registries` with their indexes, and the
-- entries of `source`, in the order of the keys in the table that `toml` reads
pub record Configuration : Type 0 where
  pub registries : List (List ℕ × Option (List ℕ))
  pub sources : List (List ℕ × Source)

-- combines two values that are both there (own)
abbrev pub both : {A B C : Type 0} → (A → B → C) → Option A → Option B → Option C
both f (Some x) (Some y) = Some (f x y)
both f _ _ = None

-- a string that may be absent; a value of another type is malformed (own)
abbrev pub optional_text : Option Data → Option (Option (List ℕ))
optional_text None = Some None
optional_text (Some value) = option_map (λ text. Some text) (as_str value)

-- the string of a key, which may be absent (own)
abbrev pub text_at : List ℕ → Members → Option (Option (List ℕ))
text_at key members = optional_text (get_member key members)

-- the `index` of an entry of `registries` (Cargo reference, "Configuration", registries.<name>.index)
abbrev pub index_of : Data → Option (Option (List ℕ))
index_of value = option_and_then (text_at (codes "index")) (as_table value)

-- the `registry` and the `replace-with` of an entry of `source` (Cargo reference, "Configuration",
-- source.<name>)
abbrev pub source_in : Members → Option Source
source_in members = both (λ r w. record { registry = r; replace_with = w })
    (text_at (codes "registry") members) (text_at (codes "replace-with") members)

-- the source of an entry of `source`, which has to be a table (own)
abbrev pub source_of : Data → Option Source
source_of value = option_and_then source_in (as_table value)

-- the entries of a table, each key with its value read; none where one is malformed (own)
abbrev pub entries_of : {A : Type 0} → (Data → Option A) → Members → Option (List (List ℕ × A))
entries_of read no_members = Some []
entries_of read (member key value rest) = both (λ x xs. (key, x) ∷ xs) (read value) (entries_of read rest)

-- the entries of a table that may be absent (own)
abbrev pub table_of : {A : Type 0} → (Data → Option A) → Option Data → Option (List (List ℕ × A))
table_of read None = Some []
table_of read (Some value) = option_and_then (entries_of read) (as_table value)

-- whether an entry of `registries` is an alternate registry: `crates-io` is not, since nothing but `source`
-- changes its address (Cargo reference, "Source Replacement")
abbrev pub is_alternate : List ℕ × Option (List ℕ) → Bool
is_alternate entry = not (bytes_eq entry.0 (codes "crates-io"))

-- the alternate registries of `registries`, each key with its index (Cargo reference, "Configuration",
-- registries)
abbrev pub registries_in : Members → Option (List (List ℕ × Option (List ℕ)))
registries_in document =
    option_map (filter is_alternate) (table_of index_of (get_member (codes "registries") document))

-- the entries of `source`, each key with its source (Cargo reference, "Configuration", source)
abbrev pub sources_in : Members → Option (List (List ℕ × Source))
sources_in document = table_of source_of (get_member (codes "source") document)

-- the configuration of a document; everything else in it is ignored (own)
abbrev pub configuration_of : Members → Option Configuration
configuration_of document =
    both (λ r s. record { registries = r; sources = s }) (registries_in document) (sources_in document)

-- the bytes are UTF-8 and a TOML document with this configuration (own)
pub record HasConfiguration (bytes : List ℕ) (said : Configuration) : Type 0 where
  pub utf8 : IsUtf8 bytes
  pub members : Members
  pub toml : parse_document bytes ≡ Some members
  pub reads : configuration_of members ≡ Some said

-- the bytes are not UTF-8, are no TOML document, or have a `registries` or `source` that is no table of
-- tables, or an `index`, a `registry` or a `replace-with` that is no string (own)
pub data IsMalformedConfig (bytes : List ℕ) : Type 0 where
  not_utf8 : (IsUtf8 bytes → ⊥) → IsMalformedConfig bytes
  not_toml : parse_document bytes ≡ None → IsMalformedConfig bytes
  misshapen : (members : Members) → parse_document bytes ≡ Some members → configuration_of members ≡ None
      → IsMalformedConfig bytes
