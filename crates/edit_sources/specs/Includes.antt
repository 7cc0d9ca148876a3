-- What a configuration file includes (Cargo reference, "Configuration", include).
use Rattle.std.specs.Prelude.{◌≡◌, ℕ, List, [], ◌∷◌, Bool, false, cond, Option, Some, None, codes, nat_eq, option_map, option_and_then}
use Rattle.std.specs.List.{ends_with}
use Rattle.toml.specs.Data.{Data, Items, no_items, item, Members, get_member, as_array, as_bool, as_str, as_table}
use Rattle.toml.specs.Parse.{parse_document}
use Rattle.edit_base.specs.Paths.{joined, IsFolderOf}
use Rattle.edit_sources.specs.Configuration.{both}
use Rattle.edit_sources.specs.Sources.{or_else}

-- a file that is included: its path, and whether it may be absent (Cargo reference, "Configuration",
-- include)
pub record Include : Type 0 where
  pub path : List ℕ
  pub is_optional : Bool

-- a boolean that may be absent, and is false then; a value of another type is malformed (own)
abbrev pub optional_flag : Option Data → Option Bool
optional_flag None = Some false
optional_flag (Some value) = as_bool value

-- the `path` and the `optional` of a table (Cargo reference, "Configuration", include)
abbrev pub element_in : Members → Option (List ℕ × Bool)
element_in members = both (λ path optional. (path, optional))
    (option_and_then as_str (get_member (codes "path") members))
    (optional_flag (get_member (codes "optional") members))

-- an element of `include`: a path, or a table with a `path` (Cargo reference, "Configuration", include)
abbrev pub element_of : Data → Option (List ℕ × Bool)
element_of value = or_else (option_map (λ path. (path, false)) (as_str value))
    (option_and_then element_in (as_table value))

-- the file of an element: the path ends in `.toml` and is relative to the folder of the including file
-- (Cargo reference, "Configuration", include)
abbrev pub include_at : List ℕ → List ℕ × Bool → Option Include
include_at folder element = cond (ends_with nat_eq element.0 (codes ".toml"))
    (Some (record { path = joined folder element.0; is_optional = element.1 })) None

-- the file that an element of `include` names; none where the element is malformed (own)
abbrev pub include_of : List ℕ → Data → Option Include
include_of folder value = option_and_then (include_at folder) (element_of value)

-- the files that the elements of an array name; none where one is malformed (own)
abbrev pub includes_of : List ℕ → Items → Option (List Include)
includes_of folder no_items = Some []
includes_of folder (item value rest) =
    both (λ x xs. x ∷ xs) (include_of folder value) (includes_of folder rest)

-- the files of `include`, which has to be an array and may be absent (own)
abbrev pub included : List ℕ → Option Data → Option (List Include)
included folder None = Some []
included folder (Some value) = option_and_then (includes_of folder) (as_array value)

-- the files that a document in a folder includes, in the order of the array (Cargo reference,
-- "Configuration", include)
abbrev pub includes_in : List ℕ → Members → Option (List Include)
includes_in folder document = included folder (get_member (codes "include") document)

-- the file at a path with these bytes includes these files (own)
pub record HasIncludes (path bytes : List ℕ) (includes : List Include) : Type 0 where
  pub folder : List ℕ
  pub lies_in : IsFolderOf path folder
  pub members : Members
  pub toml : parse_document bytes ≡ Some members
  pub reads : includes_in folder members ≡ Some includes

-- `include` of the file at a path with these bytes is malformed (own)
pub record HasBadInclude (path bytes : List ℕ) : Type 0 where
  pub folder : List ℕ
  pub lies_in : IsFolderOf path folder
  pub members : Members
  pub toml : parse_document bytes ≡ Some members
  pub none : includes_in folder members ≡ None
