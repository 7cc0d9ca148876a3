-- The URL of a registry: a chain of sources, each replaced by the next (Cargo reference, "Source
-- Replacement").
use Rattle.std.specs.Prelude.{◌≡◌, ℕ, List, [], ◌∷◌, ◌++◌, map, Option, Some, None, unwrap_or, Bool, true, false, cond, ◌⊎◌, codes}
use Rattle.std.specs.List.{list_any, flat_map}
use Rattle.std.specs.Str.{bytes_eq}
use Rattle.edit_sources.specs.Configuration.{Source, Configuration}

-- a key that a file defines, with its source (own)
pub record Definition : Type 0 where
  pub key : List ℕ
  pub source : Source

-- an entry of `registries` as a source with its index as the URL (own)
abbrev pub registry_definition : List ℕ × Option (List ℕ) → Definition
registry_definition r = record { key = r.0; source = record { registry = r.1; replace_with = None } }

-- an entry of `source` (own)
abbrev pub source_definition : List ℕ × Source → Definition
source_definition s = record { key = s.0; source = s.1 }

-- the definitions of a file: those of `registries` come before those of `source` (own)
abbrev pub definitions_of : Configuration → List Definition
definitions_of c = map registry_definition c.registries ++ map source_definition c.sources

-- the definitions of files, the nearest first (Cargo reference, "Configuration", Hierarchical structure)
abbrev pub definitions : List Configuration → List Definition
definitions cs = flat_map definitions_of cs

-- the source of a key: its first definition counts (Cargo reference, "Configuration", Hierarchical
-- structure)
abbrev pub first : List ℕ → List Definition → Option Source
first key [] = None
first key (d ∷ ds) = cond (bytes_eq key d.key) (Some d.source) (first key ds)

-- the URL of the default registry's index, unless a configuration sets another (own)
abbrev pub crates_io_index : List ℕ
crates_io_index = codes "sparse+https://index.crates.io/"

-- the key of the default registry (Cargo reference, "Source Replacement", Configuration)
abbrev pub crates_io : List ℕ
crates_io = codes "crates-io"

-- a source; where it has no URL, with that of the default registry (own)
abbrev pub with_default : Source → Source
with_default s =
    record { registry = Some (unwrap_or s.registry crates_io_index); replace_with = s.replace_with }

-- a source with nothing set (own)
abbrev pub no_source : Source
no_source = record { registry = None; replace_with = None }

-- whether a registry is the default one: none is given, or its URL (own)
abbrev pub is_default : Option (List ℕ) → Bool
is_default None = true
is_default (Some registry) = bytes_eq registry crates_io_index

-- the key that a registry starts at (own)
abbrev pub head_key : Option (List ℕ) → List ℕ
head_key None = crates_io
head_key (Some registry) = cond (bytes_eq registry crates_io_index) crates_io registry

-- the source that a registry starts at, given the definition of its key: the default registry need not be
-- defined, and always has a URL (own)
abbrev pub head_source_of : Option (List ℕ) → Option Source → Option Source
head_source_of registry defined =
    cond (is_default registry) (Some (with_default (unwrap_or defined no_source))) defined

-- the source that a registry starts at (own)
abbrev pub head_source : List Definition → Option (List ℕ) → Option Source
head_source ds registry = head_source_of registry (first (head_key registry) ds)

-- the source found at a key: where the key is the default registry's URL itself, it has that URL unless it
-- sets one (own)
abbrev pub with_address : List ℕ → Option Source → Option Source
with_address key None = None
with_address key (Some s) = Some (cond (bytes_eq key crates_io_index) (with_default s) s)

-- the source that a `replace-with` refers to (own)
abbrev pub named : List Definition → List ℕ → Option Source
named ds key = with_address key (first key ds)

-- whether a key was used (own)
abbrev pub is_used : List (List ℕ) → List ℕ → Bool
is_used used key = list_any (λ u. bytes_eq u key) used

-- distinct keys from the first key on, each the `replace-with` of the source before it, and the source of
-- the last (own)
pub data Reaches (ds : List Definition) (registry : Option (List ℕ)) : List (List ℕ) → Source → Type 0 where
  head : (s : Source) → head_source ds registry ≡ Some s → Reaches ds registry (head_key registry ∷ []) s
  next : (used : List (List ℕ)) (s t : Source) (key : List ℕ) → Reaches ds registry used s
      → s.replace_with ≡ Some key → is_used used key ≡ false → named ds key ≡ Some t
      → Reaches ds registry (used ++ key ∷ []) t

-- the last source of the chain, which has no `replace-with` (own)
pub record EndsAt (ds : List Definition) (registry : Option (List ℕ)) (s : Source) : Type 0 where
  pub used : List (List ℕ)
  pub reaches : Reaches ds registry used s
  pub last : s.replace_with ≡ None

-- the URL of a registry: that of the last source of its chain (own)
pub record Address (ds : List Definition) (registry : Option (List ℕ)) (address : List ℕ) : Type 0 where
  pub source : Source
  pub ends : EndsAt ds registry source
  pub given : source.registry ≡ Some address

-- the registry is a key that no file defines (own)
pub record HasNoHead (ds : List Definition) (registry : Option (List ℕ)) (key : List ℕ) : Type 0 where
  pub names : registry ≡ Some key
  pub undefined : head_source ds registry ≡ None

-- the chain leads to a key that was used before or that no file defines (own)
pub record BreaksAt (ds : List Definition) (registry : Option (List ℕ)) (key : List ℕ) : Type 0 where
  pub used : List (List ℕ)
  pub source : Source
  pub reaches : Reaches ds registry used source
  pub names : source.replace_with ≡ Some key
  pub broken : (is_used used key ≡ true) ⊎ (named ds key ≡ None)

-- the last source of the chain has no URL (own)
pub record HasNoAddress (ds : List Definition) (registry : Option (List ℕ)) : Type 0 where
  pub source : Source
  pub ends : EndsAt ds registry source
  pub none : source.registry ≡ None
