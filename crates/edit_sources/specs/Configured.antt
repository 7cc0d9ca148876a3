-- The models of configurations, and the error of a malformed configuration file.
use Rattle.std.specs.Prelude.{◌≡◌, ℕ, List, Option, None, Ok, Err, map, option_map, String, string_bytes}
use Rattle.std.specs.declared.alloc.Global.{Global}
use Rattle.edit_base.specs.declared.errors.Error.{Error}
use Rattle.edit_base.specs.declared.errors.Error.TheVariants as error
use Rattle.std.specs.Borrow.{Bor}
use Rattle.url.specs.Parser.{parse_url}
use Rattle.url.specs.Parts.{Parts}
use Rattle.url.specs.declared.error.ParseError.{ParseError}
use Rattle.edit_sources.specs.Configuration as said
use Rattle.edit_sources.specs.Includes as spec
use Rattle.edit_sources.specs.SourceReplacement as chain
use Rattle.edit_sources.specs.declared.config.Config.{Config}
use Rattle.edit_sources.specs.declared.config.ConfigSource.{ConfigSource}
use Rattle.edit_sources.specs.declared.config.includes.Include.{Include}

-- the model of a source (own)
abbrev pub source_view : ConfigSource → said.Source
source_view s =
    record {
      registry = option_map string_bytes s.registry;
      replace_with = option_map string_bytes s.replace_with;
    }

-- an entry of `registries`: its key and its index (own)
abbrev pub registry_entry : String Global × Option (String Global) → List ℕ × Option (List ℕ)
registry_entry r = (string_bytes r.0, option_map string_bytes r.1)

-- an entry of `source`: its key and its source (own)
abbrev pub source_entry : String Global × ConfigSource → List ℕ × said.Source
source_entry s = (string_bytes s.0, source_view s.1)

-- the model of a configuration (own)
abbrev pub configuration : Config → said.Configuration
configuration c =
    record { registries = map registry_entry c.registries.items; sources = map source_entry c.sources.items }

-- the path of a configuration's file, and the model of the configuration (own)
abbrev pub path_and_entries : Config → List ℕ × said.Configuration
path_and_entries c = (string_bytes c.path, configuration c)

-- the paths of the files of these configurations (own)
abbrev pub paths_of : List Config → List (List ℕ)
paths_of configs = map (λ c. string_bytes c.path) configs

-- the model of an include (own)
abbrev pub include_view : Include → spec.Include
include_view i = record { path = string_bytes i.path; is_optional = i.optional }

-- the error is `Config` with this path (own)
abbrev pub IsConfigErrorAt : List ℕ → Error → Type 0
IsConfigErrorAt path e = (named : String Global) × (e ≡ error.Config named) × (string_bytes named ≡ path)

-- the definitions of these configurations (own)
abbrev pub all_definitions : List Config → List chain.Definition
all_definitions configs = chain.definitions (map configuration configs)

-- the text of an optional argument (own)
abbrev pub given : Option (Bor (List ℕ)) → Option (List ℕ)
given registry = option_map (λ text. text.now) registry

-- the URL is the address of the registry, parsed (own)
pub record HasAddress (configs : List Config) (registry : Option (List ℕ)) (url : Parts) : Type 0 where
  pub text : List ℕ
  pub address : chain.Address (all_definitions configs) registry text
  pub reads : parse_url None text ≡ Ok url

-- the error of an address that is no URL (URL Standard, "URL parsing")
pub record IsNoUrl (address : List ℕ) (e : Error) : Type 0 where
  pub is : e ≡ error.InvalidUrl
  pub fault : ParseError
  pub reads : parse_url None address ≡ Err fault

-- the error of a registry without a URL: its key is not defined, its chain breaks, has no address at its
-- end, or one that is no URL (own)
pub data HasNoUrl (configs : List Config) (registry : Option (List ℕ)) : Error → Type 0 where
  no_head : (key : String Global) → chain.HasNoHead (all_definitions configs) registry (string_bytes key)
      → HasNoUrl configs registry (error.RegistryNotFound key)
  breaks : (key : String Global) → chain.BreaksAt (all_definitions configs) registry (string_bytes key)
      → HasNoUrl configs registry (error.SourceNotFound key)
  no_address : chain.HasNoAddress (all_definitions configs) registry
      → HasNoUrl configs registry error.MissingRegistry
  no_url : (text : List ℕ) (e : ParseError) → chain.Address (all_definitions configs) registry text
      → parse_url None text ≡ Err e → HasNoUrl configs registry error.InvalidUrl
