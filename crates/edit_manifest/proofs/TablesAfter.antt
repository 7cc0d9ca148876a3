-- A tree after strings were written at places of strings: the same tables, with the same keys.
use Rattle.std.proofs.Common.{◌≡◌, ℕ, List, [], ◌∷◌, ◌++◌, Bool, true, false, Option, Some, None, refl, ap, sym, ◌∙◌, inl, inr}
use Rattle.std.specs.Prelude.{codes, if◌then◌else◌, option_to_list}
use Rattle.std.specs.List.{flat_map}
use Rattle.std.proofs.lemmas.Bool.{cases_Bool}
use Rattle.edit_tree.specs.Assertions.{Place, same_place}
use Rattle.edit_tree.specs.Replaces.{AreStrings, Edits, is_string, new_text, tree_with_strings}
use Rattle.edit_tree.specs.Tree.{View, fractional, inline_table, moment, static_array, string, table, table_array, truth, whole}
use Rattle.edit_tree.proofs.SamePlace.{same_place_is}
use Rattle.edit_manifest.specs.Kinds.{is_kind}
use Rattle.edit_manifest.specs.Tables.{Tree, dependency_tables, is_table_like, place_of_keys, member_names, workspace_table_keys, tables_at, tables_of_target, tables_under, target_table, target_tables}
use Rattle.std.specs.Str.{bytes_eq}

-- ---- the item at a place

-- the item after a string was written
abbrev pub view_after : Option (List ℕ) → Option View → Option View
view_after None v = v
view_after (Some text) v = Some (string text)

pub written-by : (ws : Edits) (t : Tree) (q : Place)
    → tree_with_strings ws t q ≡ view_after (new_text ws q) (t q)
written-by [] t q = refl
written-by (w ∷ ws) t q = elim (cases_Bool (same_place w.0 q)) [
  | inl here ↦ rw here refl
  | inr other ↦ rw other (written-by ws t q)
]

-- strings are only written over strings
pub string-only : (ws : Edits) (t : Tree) (q : Place) → AreStrings ws t → is_string (t q) ≡ false
    → new_text ws q ≡ None
string-only [] t q h fails = refl
string-only (w ∷ ws) t q h fails = elim (cases_Bool (same_place w.0 q)) [
  | inl here ↦ cc (sym h.0 ∙ ap (λ (p : Place). is_string (t p)) (same_place_is w.0 q here) ∙ fails)
  | inr other ↦ rw other (string-only ws t q h.1 fails)
]

pub stays : (ws : Edits) (t : Tree) (q : Place) → AreStrings ws t → is_string (t q) ≡ false
    → tree_with_strings ws t q ≡ t q
stays ws t q h fails =
    written-by ws t q ∙ ap (λ (o : Option (List ℕ)). view_after o (t q)) (string-only ws t q h fails)

-- what does not depend on the value of a string is unchanged
same-by : {A : Type 0} (f : Option View → A) (ws : Edits) (t : Tree) (q : Place) → AreStrings ws t
    → ((v w : Option View) → is_string v ≡ true → is_string w ≡ true → f v ≡ f w)
    → f (tree_with_strings ws t q) ≡ f (t q)
same-by f ws t q h alike = elim (cases_Bool (is_string (t q))) [
  | inl holds ↦ ap f (written-by ws t q) ∙ of-new (new_text ws q) holds
  | inr fails ↦ ap f (stays ws t q h fails)
]
  where
    of-new : (o : Option (List ℕ)) → is_string (t q) ≡ true → f (view_after o (t q)) ≡ f (t q)
    of-new None holds = refl
    of-new (Some text) holds = alike (Some (string text)) (t q) refl holds

-- a string is no table
no-table : (v : Option View) → is_string v ≡ true → (member_names v ≡ []) × (is_table_like v ≡ false)
no-table (Some (string s)) h = (refl, refl)
no-table None h = cc h
no-table (Some (truth x)) h = cc h
no-table (Some (whole x)) h = cc h
no-table (Some (fractional x)) h = cc h
no-table (Some (moment x)) h = cc h
no-table (Some (static_array x)) h = cc h
no-table (Some (table_array x)) h = cc h
no-table (Some (inline_table x)) h = cc h
no-table (Some (table x)) h = cc h

pub same-names : (ws : Edits) (t : Tree) → AreStrings ws t → (q : Place)
    → member_names (tree_with_strings ws t q) ≡ member_names (t q)
same-names ws t h q = same-by member_names ws t q h (λ v w a b. (no-table v a).0 ∙ sym (no-table w b).0)

pub same-like : (ws : Edits) (t : Tree) → AreStrings ws t → (q : Place)
    → is_table_like (tree_with_strings ws t q) ≡ is_table_like (t q)
same-like ws t h q = same-by is_table_like ws t q h (λ v w a b. (no-table v a).1 ∙ sym (no-table w b).1)

pub same-string : (ws : Edits) (t : Tree) → AreStrings ws t → (q : Place)
    → is_string (tree_with_strings ws t q) ≡ is_string (t q)
same-string ws t h q = same-by is_string ws t q h (λ v w a b. a ∙ sym b)

-- ---- the tables

-- a list is walked through the same way
same-flat : {A B : Type 0} (f g : A → List B) (xs ys : List A) → ((x : A) → f x ≡ g x) → xs ≡ ys
    → flat_map f xs ≡ flat_map g ys
same-flat {A = A} f g xs ys h e = go xs ∙ ap (flat_map g) e
  where
    go : (zs : List A) → flat_map f zs ≡ flat_map g zs
    go [] = refl
    go (z ∷ zs) = ap (λ l. l ++ flat_map f zs) (h z) ∙ ap (λ l. g z ++ l) (go zs)

-- two trees with the same tables and keys
pub record AreAlike (u t : Tree) : Type 0 where
  pub names : (q : Place) → member_names (u q) ≡ member_names (t q)
  pub like : (q : Place) → is_table_like (u q) ≡ is_table_like (t q)

same-at : (u t : Tree) → AreAlike u t → (names : List (List ℕ)) → tables_at u names ≡ tables_at t names
same-at u t a names =
    ap (λ (b : Bool). option_to_list (if b then Some (place_of_keys names) else None)) (a.like (place_of_keys names))

same-target_table : (u t : Tree) → AreAlike u t → (x name : List ℕ)
    → target_table u x name ≡ target_table t x name
same-target_table u t a x name =
    ap (λ (ps : List Place). if is_kind name then ps else []) (same-at u t a (codes "target" ∷ x ∷ name ∷ []))

same-of_target : (u t : Tree) → AreAlike u t → (x : List ℕ) → tables_of_target u x ≡ tables_of_target t x
same-of_target u t a x =
    same-flat (target_table u x) (target_table t x) (member_names (u (place_of_keys (codes "target" ∷ x ∷ []))))
    (member_names (t (place_of_keys (codes "target" ∷ x ∷ []))))
    (same-target_table u t a x) (a.names (place_of_keys (codes "target" ∷ x ∷ [])))

same-targets : (u t : Tree) → AreAlike u t → target_tables u ≡ target_tables t
same-targets u t a =
    same-flat (tables_of_target u) (tables_of_target t) (member_names (u (place_of_keys (codes "target" ∷ []))))
    (member_names (t (place_of_keys (codes "target" ∷ []))))
    (same-of_target u t a) (a.names (place_of_keys (codes "target" ∷ [])))

same-under : (u t : Tree) → AreAlike u t → (name : List ℕ) → tables_under u name ≡ tables_under t name
same-under u t a name =
    ap (λ (ps : List Place). if is_kind name then ps else
    (if bytes_eq name (codes "workspace") then tables_at u workspace_table_keys
    else (if bytes_eq name (codes "target") then target_tables u else []))) (same-at u t a (name ∷ []))
    ∙ ap (λ (ps : List Place). if is_kind name then tables_at t (name ∷ []) else
    (if bytes_eq name (codes "workspace") then ps
    else (if bytes_eq name (codes "target") then target_tables u else []))) (same-at u t a workspace_table_keys)
    ∙ ap (λ (ps : List Place). if is_kind name then tables_at t (name ∷ []) else
    (if bytes_eq name (codes "workspace") then tables_at t workspace_table_keys
    else (if bytes_eq name (codes "target") then ps else []))) (same-targets u t a)

pub same-tables : (u t : Tree) → AreAlike u t → dependency_tables u ≡ dependency_tables t
same-tables u t a =
    same-flat (tables_under u) (tables_under t) (member_names (u [])) (member_names (t []))
    (same-under u t a) (a.names [])
