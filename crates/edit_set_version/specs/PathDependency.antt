-- The path dependencies of a manifest that have a `version` string (Cargo reference, "Specifying
-- Dependencies", Specifying path dependencies).
use Rattle.std.specs.Prelude.{ℕ, List, Option, Some, None, map, option_map, option_to_list, string_bytes}
use Rattle.std.specs.List.{flat_map}
use Rattle.edit_tree.specs.Assertions.{Place, at, key}
use Rattle.edit_document.specs.Items.{place_view}
use Rattle.edit_manifest.specs.Tables.{Tree, dependency_tables, member_names}
use Rattle.edit_set_version.specs.Entries.{path_member, requirement, text_at}
use Rattle.edit_set_version.specs.Folders.{resolve_folder}
use Rattle.edit_set_version.specs.SetVersioned.{Bump, Dependent, next_in}
use Rattle.edit_set_version.specs.declared.path_deps.PathEntry.{PathEntry}

-- an entry: its place, its requirement, and its path
pub record PathDependency : Type 0 where
  pub place : Place
  pub text : List ℕ
  pub path : List ℕ

-- an entry, where both a requirement and a path are given
abbrev pub path_dependency_with : Place → Option (List ℕ) → Option (List ℕ) → Option PathDependency
path_dependency_with place (Some text) (Some path) = Some (record { place = place; text = text; path = path })
path_dependency_with place _ _ = None

-- the entry at a place, where it has both a requirement and a path
abbrev pub path_dependency_at : Tree → Place → Option PathDependency
path_dependency_at t place = path_dependency_with place (requirement t place) (text_at t (path_member place))

-- the entry with this key of a table, as a list of at most one
abbrev pub path_dependency_named : Tree → Place → List ℕ → List PathDependency
path_dependency_named t table name = option_to_list (path_dependency_at t (at table (key name)))

-- the entries of a table that have both a requirement and a path
abbrev pub path_dependencies_in : Tree → Place → List PathDependency
path_dependencies_in t table = flat_map (path_dependency_named t table) (member_names (t table))

-- the entries of a manifest that have both, table by table
abbrev pub path_dependencies : Tree → List PathDependency
path_dependencies t = flat_map (path_dependencies_in t) (dependency_tables t)

-- the requirement of an entry on a bumped crate, where its path is that of one
abbrev pub dependent_by_path : List Bump → List ℕ → PathDependency → Option Dependent
dependent_by_path bs file q =
    option_map (λ v. record { place = q.place; text = q.text; next = v }) (next_in bs
    (resolve_folder file q.path))

-- an entry of the program, by its texts
abbrev pub path_dependency_view : PathEntry → PathDependency
path_dependency_view e = record {
  place = place_view e.place.items;
  text = string_bytes e.text;
  path = string_bytes e.path;
}

-- entries of the program, by their texts
abbrev pub path_dependency_views : List PathEntry → List PathDependency
path_dependency_views es = map path_dependency_view es
