-- The lines of a configuration file for the registries that environment variables define (Cargo reference,
-- "Configuration", Environment variables).
use Rattle.std.specs.Prelude.{ℕ, ◌-◌, List, [], ◌∷◌, ◌++◌, Bool, ◌==◌, ◌&&◌, ◌||◌, nat_eq, nat_le, nat_lt, codes, drop, length, map, String, string_bytes, take, if◌then◌else◌}
use Rattle.std.specs.Char.{to_ascii_lowercase}
use Rattle.std.specs.List.{ends_with, flat_map, list_all, list_any, starts_with}
use Rattle.std.specs.declared.alloc.Global.{Global}
use Rattle.edit_fetch.specs.TomlText.{value_line}
use Rattle.edit_sources.specs.SourceReplacement.{crates_io_index}

-- a byte of a registry's name in a variable's name: an upper-case letter, a digit or `_`
abbrev pub is_name_byte : ℕ → Bool
is_name_byte b = (nat_le 65 b && nat_le b 90) || ((nat_le 48 b && nat_le b 57) || (b == 95))

-- the part of a variable's name between `CARGO_REGISTRIES_` and `_INDEX`
abbrev pub registry_part : List ℕ → List ℕ
registry_part name = take (length name - 6 - 17) (drop 17 name)

abbrev pub is_name : List ℕ → Bool
is_name part = list_all is_name_byte part

abbrev pub has_index_affixes : List ℕ → Bool
has_index_affixes name =
    starts_with nat_eq name (codes "CARGO_REGISTRIES_") && ends_with nat_eq name (codes "_INDEX")

-- whether a variable of this name sets a registry's index
abbrev pub is_index_variable : List ℕ → Bool
is_index_variable name =
    nat_lt 23 (length name) && (has_index_affixes name && is_name (registry_part name))

-- a byte of the registry's key: in lower case
abbrev pub key_byte : ℕ → ℕ
key_byte b = to_ascii_lowercase b

abbrev pub registry_key : List ℕ → List ℕ
registry_key part = map key_byte part

-- a byte of the key, with `-` for `_`
abbrev pub dashed_byte : ℕ → ℕ
dashed_byte b = if b == 95 then 45 else b

abbrev pub key_with_dashes : List ℕ → List ℕ
key_with_dashes key = map dashed_byte key

-- the line that sets the index of a registry
unfoldable pub registry_line : List ℕ → List ℕ → List ℕ
registry_line key index = codes "registries." ++ (key ++ (codes ".index = " ++ value_line index))

-- the line for a key and, where it contains `_`, the line for the key with `-` instead
unfoldable pub registry_lines : List ℕ → List ℕ → List ℕ
registry_lines key index =
    registry_line key index
    ++ (if list_any (λ b. b == 95) key then registry_line (key_with_dashes key) index else [])

-- the lines for a variable, given its name and its value
unfoldable pub variable_lines : List ℕ × List ℕ → List ℕ
variable_lines v =
    if is_index_variable v.0 then registry_lines (registry_key (registry_part v.0)) v.1 else []

-- the model of a variable
abbrev pub variable_texts : String Global × String Global → List ℕ × List ℕ
variable_texts v = (string_bytes v.0, string_bytes v.1)

-- the line that sets the URL of the default registry to cargo's built-in one
abbrev pub default_registry_text : List ℕ
default_registry_text = codes "source.crates-io.registry = " ++ value_line crates_io_index
