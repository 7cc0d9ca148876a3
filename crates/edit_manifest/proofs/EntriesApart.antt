-- No two entries of a manifest have the same place for their version literals.
use Rattle.std.proofs.Common.{◌≡◌, ◌∷◌, ◌++◌, [], List, ℕ, Bool, map, true, false, refl, ap, ◌∙◌, sym, subst, inl, inr, ◌⊎◌}
use Rattle.std.specs.Prelude.{◌&&◌, codes}
use Rattle.std.specs.List.{AllByRecursion, flat_map}
use Rattle.std.specs.Str.{bytes_eq}
use Rattle.std.proofs.lemmas.Bool.{cases_Bool}
use Rattle.edit_tree.specs.Assertions.{Place, at, key, same_bytes, same_place, same_step}
use Rattle.edit_syntax.specs.Grammar as grammar
use Rattle.edit_tree.specs.Replaces.{is_string}
use Rattle.edit_tree.specs.Tree.{view_at}
use Rattle.edit_tree.proofs.SamePlace.{last_same, other_place, same_bytes_self, same_place_self}
use Rattle.edit_manifest.specs.Kinds.{is_kind}
use Rattle.edit_manifest.specs.Tables.{Tree, dependency_tables, is_table_like, place_of_keys, member_names, workspace_table_keys, tables_at, tables_of_target, tables_under, target_table, target_tables}
use Rattle.edit_manifest.specs.Entries.{Entry, entries, entries_of, entry_at, literal_at, version_place}
use Rattle.edit_manifest.proofs.EntryPlaces.{IsLiteral, IsTable, flat-all, front, literal-front, tables-all}
use Rattle.edit_manifest.proofs.Texts.{bytes-is}
use Rattle.edit_manifest.proofs.MembersApart.{AreNamesApart, form-names}
use Rattle.edit_manifest.proofs.Elements.{all-both, all-map, flat-some, mapped-all, any-all, all-two, all-swap}

-- ---- lists whose elements differ by a test

abbrev pub Differ : {A : Type 0} → (A → A → Bool) → List A → Type 0
Differ same [] = Unit {0}
Differ same (x ∷ xs) = AllByRecursion (λ y. same x y ≡ false) xs × Differ same xs

differ-append : {A : Type 0} (same : A → A → Bool) (xs ys : List A) → Differ same xs → Differ same ys
    → AllByRecursion (λ x. AllByRecursion (λ y. same x y ≡ false) ys) xs → Differ same (xs ++ ys)
differ-append same [] ys h g c = g
differ-append same (x ∷ xs) ys h g c =
    (all-both (λ y. same x y ≡ false) xs ys h.0 c.0, differ-append same xs ys h.1 g c.1)

-- ---- the tables

-- the place is the other one or below it
abbrev Begins : Place → Place → Type 0
Begins p q = (rest : Place) × (q ≡ p ++ rest)

-- places below different keys differ
begun-apart : (pre : Place) (n m : List ℕ) (p q : Place) → same_bytes n m ≡ false
    → Begins (at pre (key n)) p → Begins (at pre (key m)) q → same_place p q ≡ false
begun-apart pre n m p q h b c =
    ap (λ (x : Place). same_place x q) b.1 ∙ ap (same_place (at pre (key n) ++ b.0)) c.1 ∙ of-pre pre
  where
    of-pre : (r : Place) → same_place (at r (key n) ++ b.0) (at r (key m) ++ c.0) ≡ false
    of-pre [] = rw h refl
    of-pre (s ∷ r) = of-step (same_step s s) (of-pre r)
      where
        of-step : (x : Bool) → same_place (at r (key n) ++ b.0) (at r (key m) ++ c.0) ≡ false
            → (x && same_place (at r (key n) ++ b.0) (at r (key m) ++ c.0)) ≡ false
        of-step true e = e
        of-step false e = refl

-- tables below the keys of a table
flat-apart : (pre : Place) (f : List ℕ → List Place) (ns : List (List ℕ)) → AreNamesApart ns
    → ((n : List ℕ) → AllByRecursion (Begins (at pre (key n))) (f n))
    → ((n : List ℕ) → Differ same_place (f n)) → Differ same_place (flat_map f ns)
flat-apart pre f [] h b d = tt
flat-apart pre f (n ∷ ns) h b d =
    differ-append same_place (f n) (flat_map f ns) (d n) (flat-apart pre f ns h.1 b d)
    (all-map (Begins (at pre (key n))) (λ p. AllByRecursion (λ q. same_place p q ≡ false) (flat_map f ns))
    (f n)
    (λ p begun. flat-some (λ m. same_bytes n m ≡ false) (λ q. same_place p q ≡ false) f ns h.0
    (λ m other. all-map (Begins (at pre (key m))) (λ q. same_place p q ≡ false) (f m)
    (λ q c. begun-apart pre n m p q other begun c) (b m))) (b n))

at-begins : (t : Tree) (names : List (List ℕ)) (p : Place) → Begins p (place_of_keys names)
    → AllByRecursion (Begins p) (tables_at t names)
at-begins t names p h = elim (cases_Bool (is_table_like (t (place_of_keys names)))) [
  | inl holds ↦ rw holds (h, tt)
  | inr fails ↦ rw fails tt
]

at-one : (t : Tree) (names : List (List ℕ)) → Differ same_place (tables_at t names)
at-one t names = elim (cases_Bool (is_table_like (t (place_of_keys names)))) [
  | inl holds ↦ rw holds (tt, tt)
  | inr fails ↦ rw fails tt
]

abbrev target_place : List ℕ → Place
target_place x = place_of_keys (codes "target" ∷ x ∷ [])

target-begins : (t : Tree) (x name : List ℕ)
    → AllByRecursion (Begins (at (target_place x) (key name))) (target_table t x name)
target-begins t x name = elim (cases_Bool (is_kind name)) [
  | inl holds ↦ rw holds (at-begins t (codes "target" ∷ x ∷ name ∷ []) (at (target_place x) (key name))
      ([], refl))
  | inr fails ↦ rw fails tt
]

target-one : (t : Tree) (x name : List ℕ) → Differ same_place (target_table t x name)
target-one t x name = elim (cases_Bool (is_kind name)) [
  | inl holds ↦ rw holds (at-one t (codes "target" ∷ x ∷ name ∷ []))
  | inr fails ↦ rw fails tt
]

-- what begins with a longer place begins with its front
begins-front : (p r q : Place) → Begins (p ++ r) q → Begins p q
begins-front p r q b = (r ++ b.0, b.1 ∙ assoc p r b.0)
  where
    assoc : (a b c : Place) → (a ++ b) ++ c ≡ a ++ (b ++ c)
    assoc [] b c = refl
    assoc (x ∷ a) b c = ap (λ (l : Place). x ∷ l) (assoc a b c)

of_target-begins : (t : Tree) (x : List ℕ) → AllByRecursion (Begins (target_place x)) (tables_of_target t x)
of_target-begins t x =
    flat-all (Begins (target_place x)) (target_table t x) (member_names (t (target_place x)))
    (λ name. all-map (Begins (at (target_place x) (key name))) (Begins (target_place x))
    (target_table t x name)
    (λ q b. begins-front (target_place x) (key name ∷ []) q b) (target-begins t x name))

of_target-apart : (form : grammar.Text) (x : List ℕ) → Differ same_place (tables_of_target (view_at form) x)
of_target-apart form x =
    flat-apart (target_place x) (target_table (view_at form) x)
    (member_names (view_at form (target_place x))) (form-names form (target_place x))
    (target-begins (view_at form) x) (target-one (view_at form) x)

targets-apart : (form : grammar.Text) → Differ same_place (target_tables (view_at form))
targets-apart form =
    flat-apart (place_of_keys (codes "target" ∷ [])) (tables_of_target (view_at form))
    (member_names (view_at form (place_of_keys (codes "target" ∷ []))))
    (form-names form (place_of_keys (codes "target" ∷ []))) (of_target-begins (view_at form)) (of_target-apart form)

targets-begin : (t : Tree) → AllByRecursion (Begins (place_of_keys (codes "target" ∷ []))) (target_tables t)
targets-begin t =
    flat-all (Begins (place_of_keys (codes "target" ∷ []))) (tables_of_target t)
    (member_names (t (place_of_keys (codes "target" ∷ []))))
    (λ x. all-map (Begins (target_place x)) (Begins (place_of_keys (codes "target" ∷ []))) (tables_of_target t x)
    (λ q b. begins-front (place_of_keys (codes "target" ∷ [])) (key x ∷ []) q b) (of_target-begins t x))

abbrev UnderName : Tree → List ℕ → Type 0
UnderName t name = AllByRecursion (Begins (at [] (key name))) (tables_under t name)

under-begins : (t : Tree) (name : List ℕ) → UnderName t name
under-begins t name = elim (cases_Bool (is_kind name)) [
  | inl holds ↦ rw holds (at-begins t (name ∷ []) (key name ∷ []) ([], refl))
  | inr fails ↦ elim (cases_Bool (bytes_eq name (codes "workspace"))) [
    | inl workspace ↦
        rw (fails, workspace) (subst
        (λ (n : List ℕ). AllByRecursion (Begins (at [] (key n))) (tables_at t workspace_table_keys))
        (sym (bytes-is name (codes "workspace") workspace))
        (at-begins t workspace_table_keys (key (codes "workspace") ∷ []) (key (codes "dependencies") ∷ [], refl)))
    | inr other ↦ elim (cases_Bool (bytes_eq name (codes "target"))) [
      | inl target ↦
          rw (fails, other, target) (subst
          (λ (n : List ℕ). AllByRecursion (Begins (at [] (key n))) (target_tables t))
          (sym (bytes-is name (codes "target") target)) (targets-begin t))
      | inr nothing ↦ rw (fails, other, nothing) tt
    ]
  ]
]

under-apart : (form : grammar.Text) (name : List ℕ) → Differ same_place (tables_under (view_at form) name)
under-apart form name = elim (cases_Bool (is_kind name)) [
  | inl holds ↦ rw holds (at-one (view_at form) (name ∷ []))
  | inr fails ↦ elim (cases_Bool (bytes_eq name (codes "workspace"))) [
    | inl workspace ↦ rw (fails, workspace) (at-one (view_at form) workspace_table_keys)
    | inr other ↦ elim (cases_Bool (bytes_eq name (codes "target"))) [
      | inl target ↦ rw (fails, other, target) (targets-apart form)
      | inr nothing ↦ rw (fails, other, nothing) tt
    ]
  ]
]

-- the dependency tables differ
tables-apart : (form : grammar.Text) → Differ same_place (dependency_tables (view_at form))
tables-apart form =
    flat-apart [] (tables_under (view_at form)) (member_names (view_at form [])) (form-names form [])
    (under-begins (view_at form)) (under-apart form)

-- ---- the entries

-- two entries have one version literal
abbrev pub same_literal : Entry → Entry → Bool
same_literal e f = same_place e.literal f.literal

literal-is : (t : Tree) (place : Place)
    → (literal_at t place ≡ place) ⊎ (literal_at t place ≡ version_place place)
literal-is t place = elim (cases_Bool (is_string (t place))) [
  | inl holds ↦ rw holds (inl refl)
  | inr fails ↦ rw fails (inr refl)
]

-- entries at different places have different literals
literals-apart : (t : Tree) (p q : Place) (n m : List ℕ) → IsTable p → IsTable q
    → (at p (key n) ≡ at q (key m) → ⊥)
    → same_place (literal_at t (at p (key n))) (literal_at t (at q (key m))) ≡ false
literals-apart t p q n m i j h =
    let a = at p (key n) in
    let b = at q (key m) in
    other_place (literal_at t a) (literal_at t b)
    (λ same. h
    (sym (literal-front (literal_at t a) p n i (literal-is t a)) ∙ ap front same ∙ literal-front
    (literal_at t b) q m j (literal-is t b)))

key-inj : (n m : List ℕ) → key n ≡ key m → n ≡ m
key-inj n m h = cc h

names-differ : (n m : List ℕ) → same_bytes n m ≡ false → n ≡ m → ⊥
names-differ n m h e = cc (sym h ∙ ap (same_bytes n) (sym e) ∙ same_self n)
  where
    same_self : (x : List ℕ) → same_bytes x x ≡ true
    same_self x = same_bytes_self x

places-differ : (p q : Place) → same_place p q ≡ false → p ≡ q → ⊥
places-differ p q h e = cc (sym h ∙ ap (same_place p) (sym e) ∙ same_place_self p)

-- the entries of one table
names-entries : (t : Tree) (root : List ℕ) (p : Place) (ns : List (List ℕ)) → IsTable p → AreNamesApart ns
    → Differ same_literal (map (entry_at t root p) ns)
names-entries t root p [] is h = tt
names-entries t root p (n ∷ ns) is h = (
  mapped-all (λ m. same_bytes n m ≡ false) (λ f. same_literal (entry_at t root p n) f ≡ false)
      (entry_at t root p) ns h.0
      (λ m other. literals-apart t p p n m is is
      (λ e. names-differ n m other (key-inj n m (last_same p p (key n) (key m) e).1))),
  names-entries t root p ns is h.1,
)

-- the entries of two tables
across : (t : Tree) (root : List ℕ) (p q : Place) → IsTable p → IsTable q → same_place p q ≡ false
    → AllByRecursion (λ e. AllByRecursion (λ f. same_literal e f ≡ false) (entries_of t root q))
    (entries_of t root p)
across t root p q i j h =
    mapped-all (λ n. Unit {0}) (λ e. AllByRecursion (λ f. same_literal e f ≡ false) (entries_of t root q))
    (entry_at t root p) (member_names (t p)) (any-all (member_names (t p)))
    (λ n u. mapped-all (λ m. Unit {0}) (λ f. same_literal (entry_at t root p n) f ≡ false)
    (entry_at t root q) (member_names (t q)) (any-all (member_names (t q)))
    (λ m v. literals-apart t p q n m i j (λ e. places-differ p q h (last_same p q (key n) (key m) e).0)))

tables-entries : (form : grammar.Text) (root : List ℕ) (ps : List Place) → AllByRecursion IsTable ps
    → Differ same_place ps
    → Differ same_literal (flat_map (entries_of (view_at form) root) ps)
tables-entries form root [] is h = tt
tables-entries form root (p ∷ ps) is h =
    let t = view_at form in
    differ-append same_literal (entries_of t root p) (flat_map (entries_of t root) ps)
    (names-entries t root p (member_names (t p)) is.0 (form-names form p))
    (tables-entries form root ps is.1 h.1)
    (all-swap (λ e f. same_literal e f ≡ false) (entries_of t root p) (flat_map (entries_of t root) ps)
    (flat-some (λ q. IsTable q × (same_place p q ≡ false))
    (λ f. AllByRecursion (λ e. same_literal e f ≡ false) (entries_of t root p)) (entries_of t root) ps
    (all-two IsTable (λ q. same_place p q ≡ false) ps is.1 h.0)
    (λ q k. all-swap (λ f e. same_literal e f ≡ false) (entries_of t root q) (entries_of t root p)
    (across t root p q is.0 k.0 k.1))))

-- the entries of a manifest differ in their literals
pub entries-apart : (form : grammar.Text) (root : List ℕ) → Differ same_literal (entries (view_at form) root)
entries-apart form root =
    tables-entries form root (dependency_tables (view_at form)) (tables-all (view_at form))
    (tables-apart form)

-- ---- each literal is one of an entry

-- what is known of each entry: it stands in a table, and what it is is read off the tree
pub record IsEntryOf (t : Tree) (root : List ℕ) (e : Entry) : Type 0 where
  pub table : Place
  pub name : List ℕ
  pub in_table : IsTable table
  pub is : e ≡ entry_at t root table name

pub entries-of : (t : Tree) (root : List ℕ) → AllByRecursion (IsEntryOf t root) (entries t root)
entries-of t root =
    flat-some IsTable (IsEntryOf t root) (entries_of t root) (dependency_tables t) (tables-all t)
    (λ p is. mapped-all (λ n. Unit {0}) (IsEntryOf t root) (entry_at t root p) (member_names (t p))
    (any-all (member_names (t p)))
    (λ n u. record { table = p; name = n; in_table = is; is = refl }))

pub entry-literal : (t : Tree) (root : List ℕ) (e : Entry) → IsEntryOf t root e → IsLiteral e.literal
entry-literal t root e k = record {
  table = k.table;
  name = k.name;
  is = k.in_table;
  at = subst (λ (x : Entry). (x.literal ≡ at k.table (key k.name)) ⊎
      (x.literal ≡ version_place (at k.table (key k.name)))) (sym k.is)
      (literal-is t (at k.table (key k.name)));
}
