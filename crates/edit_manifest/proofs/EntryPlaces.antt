-- The places of entries: each is a prefix of every place at or below it, so that no entry contains another.
use Rattle.std.proofs.Common.{◌≡◌, ℕ, List, [], ◌∷◌, ◌++◌, Bool, true, false, refl, ap, sym, ◌∙◌, inl, inr, ◌⊎◌, take, append-nil}
use Rattle.std.specs.Prelude.{◌||◌, codes}
use Rattle.std.specs.List.{AllByRecursion, flat_map}
use Rattle.std.specs.Str.{bytes_eq}
use Rattle.std.proofs.lemmas.Bool.{cases_Bool}
use Rattle.edit_tree.specs.Assertions.{Place, Step, at, key, index, same_bytes, same_place}
use Rattle.edit_tree.proofs.SamePlace.{same_place_is, same_step_self}
use Rattle.edit_manifest.specs.Kinds.{is_kind, kind_name}
use Rattle.edit_manifest.specs.Tables.{Tree, dependency_tables, is_table_like, place_of_keys, member_names, workspace_table_keys, tables_at, tables_of_target, tables_under, target_table, target_tables}
use Rattle.edit_manifest.specs.declared.dep_table.DepKind.TheVariants.{Build, Development, Normal}
use Rattle.edit_manifest.specs.Entries.{version_place}
use Rattle.edit_manifest.proofs.Texts.{bytes-is, or-cases}

-- ---- the tables

-- a place that may be a dependency table
pub data IsTable : Place → Type 0 where
  of_kind : (k : List ℕ) → is_kind k ≡ true → IsTable (place_of_keys (k ∷ []))
  of_workspace : IsTable (place_of_keys workspace_table_keys)
  of_target : (x k : List ℕ) → is_kind k ≡ true → IsTable (place_of_keys (codes "target" ∷ x ∷ k ∷ []))

-- how many steps lead to an entry below this member of the root
abbrev steps_by : Bool → Bool → ℕ
steps_by true b = 3
steps_by false true = 4
steps_by false false = 2

abbrev steps_below : List ℕ → ℕ
steps_below name = steps_by (same_bytes name (codes "workspace")) (same_bytes name (codes "target"))

-- the place of the entry that a place is part of
abbrev pub front : Place → Place
front [] = []
front (index i ∷ rest) = []
front (key name ∷ rest) = take (steps_below name) (key name ∷ rest)

-- each kind's name is another one than these two
kind-steps : (k : List ℕ) → is_kind k ≡ true → steps_below k ≡ 2
kind-steps k h =
    elim (or-cases (bytes_eq k (kind_name Normal))
    (bytes_eq k (kind_name Development) || bytes_eq k (kind_name Build)) h) [
      | inl normal ↦ ap steps_below (bytes-is k (kind_name Normal) normal)
      | inr more ↦ elim (or-cases (bytes_eq k (kind_name Development)) (bytes_eq k (kind_name Build)) more) [
        | inl dev ↦ ap steps_below (bytes-is k (kind_name Development) dev)
        | inr build ↦ ap steps_below (bytes-is k (kind_name Build) build)
      ]
    ]

take-two : (n : ℕ) (a b : Step) (rest : Place) → n ≡ 2 → take n (a ∷ b ∷ rest) ≡ a ∷ b ∷ []
take-two n a b rest h = ap (λ (m : ℕ). take m (a ∷ b ∷ rest)) h

-- the front of a place at or below an entry is the entry's
pub front-of : (table : Place) (name : List ℕ) (rest : Place) → IsTable table
    → front (at table (key name) ++ rest) ≡ at table (key name)
front-of _ name rest (of_kind k h) = take-two (steps_below k) (key k) (key name) rest (kind-steps k h)
front-of _ name rest of_workspace = refl
front-of _ name rest (of_target x k h) = refl

-- ---- literals

-- the place of an entry of a table, or of its member `version`
pub record IsLiteral (p : Place) : Type 0 where
  pub table : Place
  pub name : List ℕ
  pub is : IsTable table
  pub at : (p ≡ at table (key name)) ⊎ (p ≡ version_place (at table (key name)))

-- the front of a literal is its entry's place
pub literal-front : (p table : Place) (name : List ℕ) → IsTable table
    → (p ≡ at table (key name)) ⊎ (p ≡ version_place (at table (key name))) → front p ≡ at table (key name)
literal-front p table name is (inl e) =
    ap front (e ∙ sym (append-nil (at table (key name)))) ∙ front-of table name [] is
literal-front p table name is (inr e) = ap front e ∙ front-of table name (key (codes "version") ∷ []) is

-- places below one place are the same where their ends are
pub same-front : (p a b : Place) → same_place (p ++ a) (p ++ b) ≡ same_place a b
same-front [] a b = refl
same-front (s ∷ p) a b = rw (same_step_self s) (same-front p a b)

-- the end of a place below an entry that is neither the entry nor its member `version`
pub record IsOther (rest : Place) : Type 0 where
  pub whole : same_place [] rest ≡ false
  pub version : same_place (key (codes "version") ∷ []) rest ≡ false

other-by : (p table : Place) (name : List ℕ) (rest : Place) (l : IsLiteral p) → IsTable table → IsOther rest
    → p ≡ at table (key name) ++ rest → same_place p (at table (key name) ++ rest) ≡ false
other-by p table name rest l is o e =
    let entry = at table (key name) in
    let same : at l.table (key l.name) ≡ entry = sym (literal-front p l.table l.name l.is l.at) ∙ ap front e
    ∙ front-of table name rest is in
    elim l.at [
      | inl here ↦
          ap (λ (q : Place). same_place q (entry ++ rest)) (here ∙ same ∙ sym (append-nil entry))
          ∙ same-front entry [] rest ∙ o.whole
      | inr below ↦
          ap (λ (q : Place). same_place q (entry ++ rest)) (below ∙ ap version_place same)
          ∙ same-front entry (key (codes "version") ∷ []) rest ∙ o.version
    ]

-- no version literal is at the place
pub literal-other : (p table : Place) (name : List ℕ) (rest : Place) → IsLiteral p → IsTable table
    → IsOther rest
    → same_place p (at table (key name) ++ rest) ≡ false
literal-other p table name rest l is o = elim (cases_Bool (same_place p (at table (key name) ++ rest))) [
  | inl same ↦ other-by p table name rest l is o (same_place_is p (at table (key name) ++ rest) same)
  | inr other ↦ other
]

-- ---- the tables of a tree

all-append : {A : Type 0} (P : A → Type 0) (xs ys : List A) → AllByRecursion P xs → AllByRecursion P ys
    → AllByRecursion P (xs ++ ys)
all-append P [] ys h g = g
all-append P (x ∷ xs) ys h g = (h.0, all-append P xs ys h.1 g)

pub flat-all : {A B : Type 0} (P : B → Type 0) (f : A → List B) (xs : List A)
    → ((x : A) → AllByRecursion P (f x)) → AllByRecursion P (flat_map f xs)
flat-all P f [] h = tt
flat-all P f (x ∷ xs) h = all-append P (f x) (flat_map f xs) (h x) (flat-all P f xs h)

-- what may stand at most once
pub at-all : (P : Place → Type 0) (t : Tree) (names : List (List ℕ)) → P (place_of_keys names)
    → AllByRecursion P (tables_at t names)
at-all P t names h = elim (cases_Bool (is_table_like (t (place_of_keys names)))) [
  | inl holds ↦ rw holds (h, tt)
  | inr fails ↦ rw fails tt
]

target-all : (t : Tree) (x name : List ℕ) → AllByRecursion IsTable (target_table t x name)
target-all t x name = elim (cases_Bool (is_kind name)) [
  | inl holds ↦ rw holds (at-all IsTable t (codes "target" ∷ x ∷ name ∷ []) (of_target x name holds))
  | inr fails ↦ rw fails tt
]

targets-all : (t : Tree) → AllByRecursion IsTable (target_tables t)
targets-all t =
    flat-all IsTable (tables_of_target t) (member_names (t (place_of_keys (codes "target" ∷ []))))
    (λ x. flat-all IsTable (target_table t x) (member_names (t (place_of_keys (codes "target" ∷ x ∷ []))))
    (target-all t x))

under-all : (t : Tree) (name : List ℕ) → AllByRecursion IsTable (tables_under t name)
under-all t name = elim (cases_Bool (is_kind name)) [
  | inl holds ↦ rw holds (at-all IsTable t (name ∷ []) (of_kind name holds))
  | inr fails ↦ elim (cases_Bool (bytes_eq name (codes "workspace"))) [
    | inl workspace ↦ rw (fails, workspace) (at-all IsTable t workspace_table_keys of_workspace)
    | inr other ↦ elim (cases_Bool (bytes_eq name (codes "target"))) [
      | inl target ↦ rw (fails, other, target) (targets-all t)
      | inr nothing ↦ rw (fails, other, nothing) tt
    ]
  ]
]

-- the dependency tables are at such places
pub tables-all : (t : Tree) → AllByRecursion IsTable (dependency_tables t)
tables-all t = flat-all IsTable (tables_under t) (member_names (t [])) (under-all t)
