-- A plan preserves the places of a manifest's entries.
use Rattle.std.proofs.Common.{◌≡◌, ℕ, List, [], ◌∷◌, ◌++◌, map, Some, None, refl, ap, ap₂, ◌∙◌, inl, inr}
use Rattle.std.specs.Prelude.{codes, if◌then◌else◌, option_to_list}
use Rattle.std.specs.List.{AllByRecursion, flat_map}
use Rattle.std.specs.Str.{bytes_eq}
use Rattle.std.proofs.lemmas.Bool.{cases_Bool}
use Rattle.edit_tree.specs.Assertions.{Place, key, at}
use Rattle.edit_manifest.specs.Kinds.{is_kind}
use Rattle.edit_manifest.specs.Tables.{Tree, dependency_tables, is_table_like, place_of_keys, member_names, workspace_table_keys, tables_at, tables_of_target, tables_under, target_table, target_tables}
use Rattle.edit_set_version.specs.Entries.{entries, entries_in}
use Rattle.edit_set_version.proofs.TablePlaces.{IsTable, of_kind, of_target, of_workspace, tables_shaped}

-- two trees agree where a manifest has its dependency tables
pub record AgreeOnTables (a b : Tree) : Type 0 where
  pub root : a [] ≡ b []
  pub targets : a (place_of_keys (codes "target" ∷ [])) ≡ b (place_of_keys (codes "target" ∷ []))
  pub target : (name : List ℕ)
      → a (place_of_keys (codes "target" ∷ name ∷ [])) ≡ b (place_of_keys (codes "target" ∷ name ∷ []))
  pub table : (place : Place) → IsTable place → a place ≡ b place

-- equal parts in a row
pub flat_same : {A B : Type 0} (f g : A → List B) → ((x : A) → f x ≡ g x) → (xs : List A)
    → flat_map f xs ≡ flat_map g xs
flat_same f g h [] = refl
flat_same f g h (x ∷ xs) = ap₂ (λ y ys. y ++ ys) (h x) (flat_same f g h xs)

-- equal parts in a row, where something holds of each element
flat_same_where : {A B : Type 0} (P : A → Type 0) (f g : A → List B) → ((x : A) → P x → f x ≡ g x)
    → (xs : List A) → AllByRecursion P xs → flat_map f xs ≡ flat_map g xs
flat_same_where P f g h [] all = refl
flat_same_where P f g h (x ∷ xs) all = ap₂ (λ y ys. y ++ ys) (h x all.0) (flat_same_where P f g h xs all.1)

-- a table at a place
at_same : (a b : Tree) (names : List (List ℕ)) → a (place_of_keys names) ≡ b (place_of_keys names)
    → tables_at a names ≡ tables_at b names
at_same a b names h =
    ap (λ v. option_to_list (if is_table_like v then Some (place_of_keys names) else None)) h

-- a table of a target
one_same : (a b : Tree) → AgreeOnTables a b → (target name : List ℕ)
    → target_table a target name ≡ target_table b target name
one_same a b agree target name = elim (cases_Bool (is_kind name)) [
  | inl kind ↦ rw kind (at_same a b (codes "target" ∷ target ∷ name ∷ [])
      (agree.table _ (of_target target name kind)))
  | inr other ↦ rw other refl
]

-- the tables of a target
of_target_same : (a b : Tree) → AgreeOnTables a b → (target : List ℕ)
    → tables_of_target a target ≡ tables_of_target b target
of_target_same a b agree target =
    flat_same (target_table a target) (target_table b target) (one_same a b agree target)
    (member_names (a (place_of_keys (codes "target" ∷ target ∷ []))))
    ∙ ap (λ v. flat_map (target_table b target) (member_names v)) (agree.target target)

-- the tables of all targets
targets_same : (a b : Tree) → AgreeOnTables a b → target_tables a ≡ target_tables b
targets_same a b agree =
    flat_same (tables_of_target a) (tables_of_target b) (of_target_same a b agree)
    (member_names (a (place_of_keys (codes "target" ∷ []))))
    ∙ ap (λ v. flat_map (tables_of_target b) (member_names v)) agree.targets

-- the tables under a member of the root
under_same : (a b : Tree) → AgreeOnTables a b → (name : List ℕ) → tables_under a name ≡ tables_under b name
under_same a b agree name = elim (cases_Bool (is_kind name)) [
  | inl kind ↦ rw kind (at_same a b (name ∷ []) (agree.table _ (of_kind name kind)))
  | inr other ↦ elim (cases_Bool (bytes_eq name (codes "workspace"))) [
    | inl w ↦ rw (other, w) (at_same a b workspace_table_keys (agree.table _ of_workspace))
    | inr past ↦ elim (cases_Bool (bytes_eq name (codes "target"))) [
      | inl target ↦ rw (other, past, target) (targets_same a b agree)
      | inr none ↦ rw (other, past, none) refl
    ]
  ]
]

-- the dependency tables
tables_same : (a b : Tree) → AgreeOnTables a b → dependency_tables a ≡ dependency_tables b
tables_same a b agree =
    flat_same (tables_under a) (tables_under b) (under_same a b agree) (member_names (a []))
    ∙ ap (λ v. flat_map (tables_under b) (member_names v)) agree.root

-- the entries of trees that agree there
pub entries_same : (a b : Tree) → AgreeOnTables a b → entries a ≡ entries b
entries_same a b agree =
    flat_same_where IsTable (entries_in a) (entries_in b)
    (λ table shape. ap (λ v. map (λ name. at table (key name)) (member_names v)) (agree.table table shape))
    (dependency_tables a) (tables_shaped a)
    ∙ ap (λ tables. flat_map (entries_in b) tables) (tables_same a b agree)
