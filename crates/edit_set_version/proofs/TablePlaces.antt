-- The places of dependency tables and of their entries.
use Rattle.std.proofs.Common.{◌≡◌, ℕ, true, List, [], ◌∷◌, ◌++◌, map, refl, inl, inr}
use Rattle.std.specs.Prelude.{codes}
use Rattle.std.specs.List.{AllByRecursion, flat_map}
use Rattle.std.specs.Str.{bytes_eq}
use Rattle.std.proofs.lemmas.Bool.{cases_Bool}
use Rattle.edit_tree.specs.Assertions.{Place, key, at}
use Rattle.edit_manifest.specs.Kinds.{is_kind}
use Rattle.edit_manifest.specs.Tables.{Tree, dependency_tables, is_table_like, place_of_keys, member_names, workspace_table_keys, tables_at, tables_of_target, tables_under, target_table}
use Rattle.edit_set_version.specs.Entries.{entries, entries_in}

-- the shapes that the place of a dependency table has
pub data IsTable : Place → Type 0 where
  of_kind : (kind : List ℕ) → is_kind kind ≡ true → IsTable (place_of_keys (kind ∷ []))
  of_workspace : IsTable (place_of_keys workspace_table_keys)
  of_target : (target kind : List ℕ) → is_kind kind ≡ true
      → IsTable (place_of_keys (codes "target" ∷ target ∷ kind ∷ []))

-- what holds of two lists holds of both in a row
pub all_append : {A : Type 0} (P : A → Type 0) (xs ys : List A) → AllByRecursion P xs → AllByRecursion P ys
    → AllByRecursion P (xs ++ ys)
all_append P [] ys a b = b
all_append P (x ∷ xs) ys a b = (a.0, all_append P xs ys a.1 b)

-- what holds of each part holds of the whole
all_flat : {A B : Type 0} (P : B → Type 0) (f : A → List B) → ((x : A) → AllByRecursion P (f x))
    → (xs : List A) → AllByRecursion P (flat_map f xs)
all_flat P f h [] = tt
all_flat P f h (x ∷ xs) = all_append P (f x) (flat_map f xs) (h x) (all_flat P f h xs)

-- the table at a place, where one stands there
one_table : (t : Tree) (names : List (List ℕ)) → IsTable (place_of_keys names)
    → AllByRecursion IsTable (tables_at t names)
one_table t names shape = elim (cases_Bool (is_table_like (t (place_of_keys names)))) [
  | inl stands ↦ rw stands (shape, tt)
  | inr none ↦ rw none tt
]

-- a table of a target
target_one : (t : Tree) (target name : List ℕ) → AllByRecursion IsTable (target_table t target name)
target_one t target name = elim (cases_Bool (is_kind name)) [
  | inl kind ↦ rw kind (one_table t (codes "target" ∷ target ∷ name ∷ []) (of_target target name kind))
  | inr other ↦ rw other tt
]

-- the tables of a target
target_all : (t : Tree) (target : List ℕ) → AllByRecursion IsTable (tables_of_target t target)
target_all t target =
    all_flat IsTable (target_table t target) (target_one t target)
    (member_names (t (place_of_keys (codes "target" ∷ target ∷ []))))

-- the tables under a member of the root
under : (t : Tree) (name : List ℕ) → AllByRecursion IsTable (tables_under t name)
under t name = elim (cases_Bool (is_kind name)) [
  | inl kind ↦ rw kind (one_table t (name ∷ []) (of_kind name kind))
  | inr other ↦ elim (cases_Bool (bytes_eq name (codes "workspace"))) [
    | inl w ↦ rw (other, w) (one_table t workspace_table_keys of_workspace)
    | inr past ↦ elim (cases_Bool (bytes_eq name (codes "target"))) [
      | inl target ↦ rw (other, past, target) (all_flat IsTable (tables_of_target t) (target_all t)
          (member_names (t (place_of_keys (codes "target" ∷ [])))))
      | inr none ↦ rw (other, past, none) tt
    ]
  ]
]

-- each dependency table has one of these shapes
pub tables_shaped : (t : Tree) → AllByRecursion IsTable (dependency_tables t)
tables_shaped t = all_flat IsTable (tables_under t) (under t) (member_names (t []))

-- an entry is a member of such a table
pub record IsEntry (place : Place) : Type 0 where
  pub table : Place
  pub name : List ℕ
  pub shape : IsTable table
  pub is : place ≡ at table (key name)

-- the members of such a table
members_are : (table : Place) (names : List (List ℕ)) → IsTable table
    → AllByRecursion IsEntry (map (λ name. at table (key name)) names)
members_are table [] shape = tt
members_are table (name ∷ names) shape =
    (record { table = table; name = name; shape = shape; is = refl }, members_are table names shape)

-- the members of such tables
tables_members : (t : Tree) (tables : List Place) → AllByRecursion IsTable tables
    → AllByRecursion IsEntry (flat_map (entries_in t) tables)
tables_members t [] h = tt
tables_members t (table ∷ tables) h =
    all_append IsEntry (entries_in t table) (flat_map (entries_in t) tables)
    (members_are table (member_names (t table)) h.0) (tables_members t tables h.1)

-- each entry is a member of such a table
pub entries_shaped : (t : Tree) → AllByRecursion IsEntry (entries t)
entries_shaped t = tables_members t (dependency_tables t) (tables_shaped t)
