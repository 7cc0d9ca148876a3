-- Sources of configuration files without a URL, and the lines that give each of them a placeholder URL.
use Rattle.std.specs.Prelude.{ℕ, List, [], ◌∷◌, ◌++◌, Option, Some, None, Bool, true, false, String, ◌&&◌, codes, is_none, map, not, string_bytes}
use Rattle.std.specs.List.{filter, flat_map}
use Rattle.std.specs.Str.{bytes_eq}
use Rattle.std.specs.declared.alloc.Global.{Global}
use Rattle.edit_fetch.specs.TomlText.{quoted, value_line}
use Rattle.edit_sources.specs.Configured.{all_definitions}
use Rattle.edit_sources.specs.SourceReplacement.{crates_io, crates_io_index, first}
use Rattle.edit_sources.specs.Configuration.{Source}
use Rattle.edit_sources.specs.declared.config.Config.{Config}
use Rattle.edit_sources.specs.declared.config.ConfigSource.{ConfigSource}
use Rattle.edit_fetch.specs.declared.addressless.AddresslessSource.{AddresslessSource}

-- a source with neither `registry` nor `replace-with`
abbrev pub is_empty_source : Source → Bool
is_empty_source s = is_none s.registry && is_none s.replace_with

-- a definition that exists and has neither `registry` nor `replace-with`
abbrev pub is_empty_definition : Option Source → Bool
is_empty_definition None = false
is_empty_definition (Some s) = is_empty_source s

-- a key that is not one of the default registry, which always has a URL
abbrev pub is_own_key : List ℕ → Bool
is_own_key key = not (bytes_eq key crates_io) && not (bytes_eq key crates_io_index)

-- a source of the configuration files: its key, and the path of a file that defines it
abbrev pub Place : Type 0
Place = List ℕ × List ℕ

-- a source that a file defines
abbrev pub place_in : Config → String Global × ConfigSource → Place
place_in config entry = (string_bytes entry.0, string_bytes config.path)

-- the sources of a file, in its order
abbrev pub sources_in : Config → List Place
sources_in config = map (place_in config) config.sources.items

-- whether a key is not one of the default registry, and its first definition in these files has no URL
abbrev pub is_addressless : List Config → List ℕ → Bool
is_addressless configs key = is_own_key key && is_empty_definition (first key (all_definitions configs))

-- sources without those whose key another one before them has
abbrev pub each_key_once : List Place → List Place
each_key_once [] = []
each_key_once (source ∷ sources) =
    source ∷ filter (λ other. not (bytes_eq source.0 other.0)) (each_key_once sources)

-- those of some sources that have no URL in these files, each key once
abbrev pub without_address : List Config → List Place → List Place
without_address configs sources = each_key_once (filter (λ s. is_addressless configs s.0) sources)

-- the sources of these files that have no URL, each key once, in the order of the files
abbrev pub addressless_sources : List Config → List Place
addressless_sources configs = without_address configs (flat_map sources_in configs)

-- a source that was listed
abbrev pub place_of : AddresslessSource → Place
place_of s = (s.key.now, s.file.now)

-- the placeholder URL of a source: `source:` and its key
abbrev pub placeholder_address : List ℕ → List ℕ
placeholder_address key = codes "source:" ++ key

-- the line that sets the URL of a source
unfoldable pub source_line : List ℕ → List ℕ → List ℕ
source_line key address =
    codes "source." ++ (quoted key ++ (codes ".registry = " ++ value_line address))

-- the line that gives a source its placeholder URL
abbrev pub placeholder_line : AddresslessSource → List ℕ
placeholder_line s = source_line s.key.now (placeholder_address s.key.now)
