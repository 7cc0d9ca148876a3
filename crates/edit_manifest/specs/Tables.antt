-- The dependency tables of a manifest, in the order of its keys from the root down (Cargo reference,
-- "Specifying Dependencies", "Platform specific dependencies" and "Inheriting a dependency from a
-- workspace").
use Rattle.std.specs.Prelude.{ℕ, Bool, false, if◌then◌else◌, List, [], ◌∷◌, map, option_to_list, Option, Some, None, codes}
use Rattle.std.specs.List.{flat_map}
use Rattle.std.specs.Str.{bytes_eq}
use Rattle.edit_tree.specs.Assertions.{Place, key}
use Rattle.edit_document.specs.Items.{is_tabular, names_in}
use Rattle.edit_tree.specs.Tree.{View}
use Rattle.edit_manifest.specs.Kinds.{is_kind, kind_name}
use Rattle.edit_manifest.specs.declared.dep_table.DepKind.TheVariants.{Normal}

-- the item at each place of a document
abbrev pub Tree : Type 0
Tree = Place → Option View

-- the place that these keys lead to from the root
abbrev pub place_of_keys : List (List ℕ) → Place
place_of_keys names = map key names

-- the keys of a table or an inline table, in order; none for anything else
abbrev pub member_names : Option View → List (List ℕ)
member_names (Some view) = names_in view
member_names None = []

-- whether an item is a table or an inline table
abbrev pub is_table_like : Option View → Bool
is_table_like (Some view) = is_tabular view
is_table_like None = false

-- the place that these keys lead to, if it is a table or an inline table
abbrev pub table_at : Tree → List (List ℕ) → Option Place
table_at t names = if is_table_like (t (place_of_keys names)) then Some (place_of_keys names) else None

-- the place that these keys lead to, if it is a table or an inline table, as a list
abbrev pub tables_at : Tree → List (List ℕ) → List Place
tables_at t names = option_to_list (table_at t names)

-- the keys of the table `workspace.dependencies`
abbrev pub workspace_table_keys : List (List ℕ)
workspace_table_keys = codes "workspace" ∷ kind_name Normal ∷ []

-- the table of a key of a target, if it is one of the three kinds
abbrev pub target_table : Tree → List ℕ → List ℕ → List Place
target_table t target name =
    if is_kind name then tables_at t (codes "target" ∷ target ∷ name ∷ []) else []

-- the dependency tables of a target, in the order of its keys
abbrev pub tables_of_target : Tree → List ℕ → List Place
tables_of_target t target =
    flat_map (target_table t target) (member_names (t (place_of_keys (codes "target" ∷ target ∷ []))))

-- the dependency tables of all targets, target by target
abbrev pub target_tables : Tree → List Place
target_tables t = flat_map (tables_of_target t) (member_names (t (place_of_keys (codes "target" ∷ []))))

-- the dependency tables at or below a key of the root
abbrev pub tables_under : Tree → List ℕ → List Place
tables_under t name =
    if is_kind name then tables_at t (name ∷ [])
    else (if bytes_eq name (codes "workspace") then tables_at t workspace_table_keys
    else (if bytes_eq name (codes "target") then target_tables t else []))

-- the dependency tables, key by key of the root
abbrev pub dependency_tables : Tree → List Place
dependency_tables t = flat_map (tables_under t) (member_names (t []))
