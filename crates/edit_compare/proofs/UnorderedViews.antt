-- Two views that are equal except for the order of members, and the trees below them.
use Rattle.std.proofs.Common.{◌≡◌, ℕ, zero, suc, ◌<◌, ◌≤◌, Bool, true, false, ◌||◌, List, [], ◌∷◌, length, map, Option, Some, None, refl, sym, ap, subst, ◌∙◌, inl, inr, arith}
use Rattle.std.specs.Prelude.{slice_get}
use Rattle.std.specs.List.{list_any}
use Rattle.std.proofs.lemmas.Option.{same_Some}
use Rattle.edit_tree.specs.Assertions.{Step, key, at, same_step}
use Rattle.edit_tree.specs.Tree.{View, inline_table, table}
use Rattle.edit_tree.specs.DocumentViews.{DocumentViews, tree_of}
use Rattle.edit_document.specs.Items.{node_place, node_view, names_in, key_names, count_in}
use Rattle.edit_tree.specs.IntendedTrees.{SameMembers, SameButOrder, same, tables, inline_tables}
use Rattle.edit_document.specs.Compared.{kind_of, nth_part, AreSteps, AreNames, AreKeys, HasNamesOf}
use Rattle.edit_tree.proofs.SamePlace.{same_step_self, same_step_is}
use Rattle.edit_document.proofs.SameParts.{part_or, part_less, NothingElse}
use Rattle.edit_compare.proofs.GrownNames.{tabled}

-- ---- lists

pub any_at : (s : Step) (xs : List Step) (i : ℕ) → slice_get xs i ≡ Some s → list_any (same_step s) xs ≡ true
any_at s [] i e = absurd cc
any_at s (x ∷ xs) zero e =
    ap (λ (b : Bool). b || list_any (same_step s) xs) (ap (same_step s) (same_Some x s e) ∙ same_step_self s)
any_at s (x ∷ xs) (suc i) e = later (same_step s x) (any_at s xs i e)
  where
    later : (b : Bool) → list_any (same_step s) xs ≡ true → (b || list_any (same_step s) xs) ≡ true
    later true h = refl
    later false h = h

pub at_any : (s : Step) (xs : List Step) → list_any (same_step s) xs ≡ true → (i : ℕ)
    × (slice_get xs i ≡ Some s)
at_any s [] e = absurd cc
at_any s (x ∷ xs) e = go (same_step s x) refl e (at_any s xs)
  where
    go : (b : Bool) → same_step s x ≡ b → (b || list_any (same_step s) xs) ≡ true
        → (list_any (same_step s) xs ≡ true → (i : ℕ) × (slice_get xs i ≡ Some s))
        → (i : ℕ) × (slice_get (x ∷ xs) i ≡ Some s)
    go true t h ih = (0, ap Some (sym (same_step_is s x t)))
    go false t h ih = let r = ih h in (suc r.0, r.1)

pub same_bools : (a b : Bool) → (a ≡ true → b ≡ true) → (b ≡ true → a ≡ true) → a ≡ b
same_bools true true f g = refl
same_bools false false f g = refl
same_bools true false f g = sym (f refl)
same_bools false true f g = g refl

-- ---- views

-- each part of a view is one of the other
abbrev pub HasParts : View → View → Type 0
HasParts v w = (t : Step) (i : ℕ) → nth_part v i ≡ Some t → (j : ℕ) × (nth_part w j ≡ Some t)

-- the same but for the order of members
pub record OrderFree (v w : View) : Type 0 where
  pub kind : kind_of v ≡ kind_of w
  pub small : kind_of v < 8 → v ≡ w
  pub size : count_in v ≡ count_in w
  pub there : HasParts v w
  pub back : HasParts w v

free_same : (v w : View) → v ≡ w → OrderFree v w
free_same v w e = record {
  kind = ap kind_of e;
  small = λ lt. e;
  size = ap count_in e;
  there = λ t i h. (i, ap (λ (x : View). nth_part x i) (sym e) ∙ h);
  back = λ t i h. (i, ap (λ (x : View). nth_part x i) e ∙ h);
}

members_there : (ms ns : List Step) → SameMembers ms ns → (t : Step) (i : ℕ) → slice_get ms i ≡ Some t
    → (j : ℕ) × (slice_get ns j ≡ Some t)
members_there ms ns agree t i h = at_any t ns (sym (agree.members t) ∙ any_at t ms i h)

members_back : (ms ns : List Step) → SameMembers ms ns → (t : Step) (i : ℕ) → slice_get ns i ≡ Some t
    → (j : ℕ) × (slice_get ms j ≡ Some t)
members_back ms ns agree t i h = at_any t ms (agree.members t ∙ any_at t ns i h)

free_tables : (ms ns : List Step) → SameMembers ms ns → OrderFree (table ms) (table ns)
free_tables ms ns agree = record {
  kind = refl;
  small = λ lt. absurd (omega (arith, lt));
  size = agree.count;
  there = members_there ms ns agree;
  back = members_back ms ns agree;
}

free_inline : (ms ns : List Step) → SameMembers ms ns → OrderFree (inline_table ms) (inline_table ns)
free_inline ms ns agree = record {
  kind = refl;
  small = λ lt. absurd (omega (arith, lt));
  size = agree.count;
  there = members_there ms ns agree;
  back = members_back ms ns agree;
}

free_any : (o p : Option View) (v w : View) → SameButOrder o p → o ≡ Some v → p ≡ Some w → OrderFree v w
free_any _ _ v w (same x) e f = free_same v w (same_Some v w (sym e ∙ f))
free_any _ _ v w (tables ms ns m) e f =
    subst (λ (x : View). OrderFree x w) (same_Some (table ms) v e)
    (subst (λ (y : View). OrderFree (table ms) y) (same_Some (table ns) w f) (free_tables ms ns m))
free_any _ _ v w (inline_tables ms ns m) e f =
    subst (λ (x : View). OrderFree x w) (same_Some (inline_table ms) v e)
    (subst (λ (y : View). OrderFree (inline_table ms) y) (same_Some (inline_table ns) w f)
    (free_inline ms ns m))

pub order_free : (v w : View) → SameButOrder (Some v) (Some w) → OrderFree v w
order_free v w h = free_any (Some v) (Some w) v w h refl refl

pub free_view : (v w : View) → v ≡ w → SameButOrder (Some v) (Some w)
free_view v w e = subst (λ (x : View). SameButOrder (Some v) (Some x)) e (same (Some v))

-- where nothing stands nothing stood
pub free_none : (o p : Option View) → SameButOrder o p → p ≡ None → o ≡ None
free_none _ _ (same x) e = e
free_none _ _ (tables ms ns m) e = absurd cc
free_none _ _ (inline_tables ms ns m) e = absurd cc

-- tables with the same members, as many
pub free_tabled : (v w : View) → 8 ≤ kind_of v → kind_of v ≡ kind_of w → count_in v ≡ count_in w
    → HasParts v w
    → HasParts w v → SameButOrder (Some v) (Some w)
free_tabled v w big kind size there back =
    elim (tabled v big) [
      | inl a ↦ elim (tabled w (subst (λ (k : ℕ). 8 ≤ k) kind big)) [
        | inl b ↦ two_tables a.0 b.0 a.1 b.1
        | inr b ↦ absurd (let k : 9 ≡ 8 = sym (ap kind_of a.1) ∙ kind ∙ ap kind_of b.1 in omega (arith, k))
      ]
      | inr a ↦ elim (tabled w (subst (λ (k : ℕ). 8 ≤ k) kind big)) [
        | inl b ↦ absurd (let k : 8 ≡ 9 = sym (ap kind_of a.1) ∙ kind ∙ ap kind_of b.1 in omega (arith, k))
        | inr b ↦ two_inline a.0 b.0 a.1 b.1
      ]
    ]
  where
    both : (ms ns : List Step) → ((i : ℕ) → nth_part v i ≡ slice_get ms i)
        → ((i : ℕ) → nth_part w i ≡ slice_get ns i)
        → length ms ≡ length ns → SameMembers ms ns
    both ms ns left right count = record {
      count = count;
      members = λ s. same_bools (list_any (same_step s) ms) (list_any (same_step s) ns)
          (λ h. let a = at_any s ms h in let b = there s a.0 (left a.0 ∙ a.1) in
          any_at s ns b.0 (sym (right b.0) ∙ b.1))
          (λ h. let a = at_any s ns h in let b = back s a.0 (right a.0 ∙ a.1) in
          any_at s ms b.0 (sym (left b.0) ∙ b.1));
    }

    two_tables : (ms ns : List Step) → v ≡ table ms → w ≡ table ns → SameButOrder (Some v) (Some w)
    two_tables ms ns a b =
        subst (λ (x : View). SameButOrder (Some x) (Some w)) (sym a)
        (subst (λ (y : View). SameButOrder (Some (table ms)) (Some y)) (sym b)
        (tables ms ns (both ms ns (λ i. ap (λ (x : View). nth_part x i) a)
        (λ i. ap (λ (x : View). nth_part x i) b)
        (sym (ap count_in a) ∙ size ∙ ap count_in b))))

    two_inline : (ms ns : List Step) → v ≡ inline_table ms → w ≡ inline_table ns
        → SameButOrder (Some v) (Some w)
    two_inline ms ns a b =
        subst (λ (x : View). SameButOrder (Some x) (Some w)) (sym a)
        (subst (λ (y : View). SameButOrder (Some (inline_table ms)) (Some y)) (sym b)
        (inline_tables ms ns
        (both ms ns (λ i. ap (λ (x : View). nth_part x i) a) (λ i. ap (λ (x : View). nth_part x i) b)
        (sym (ap count_in a) ∙ size ∙ ap count_in b))))

-- ---- names of nodes

abbrev pub At : DocumentViews → ℕ → Type 0
At d n = tree_of d (node_place d n) ≡ Some (node_view d n)

abbrev pub Stood : DocumentViews → ℕ → Type 0
Stood d n = (step : Step) (i : ℕ) → nth_part (node_view d n) i ≡ Some step
    → tree_of d (at (node_place d n) step) ≡ None → ⊥

module _ (d : DocumentViews) (n : ℕ) (e : DocumentViews) (m : ℕ) where
  part_of : NothingElse e m → (t : Step) → (tree_of e (at (node_place e m) t) ≡ None → ⊥)
      → (j : ℕ) × (nth_part (node_view e m) j ≡ Some t)
  part_of else t some = elim (part_or (node_view e m) t (count_in (node_view e m))) [
    | inl k ↦ (k.0, k.2)
    | inr none ↦ absurd (some (else t (λ i h. none i (part_less (node_view e m) i t h) h)))
  ]

  -- names that the other has are parts that it has, and the other way round
  pub parts_by_names : NothingElse e m → AreSteps (node_view d n) → AreNames (node_view d n)
      → ((i : ℕ) (t : Step) → nth_part (node_view d n) i ≡ Some t
      → (name : List ℕ) × (slice_get (names_in (node_view d n)) i ≡ Some name) × (t ≡ key name))
      → HasNamesOf d n e m → HasParts (node_view d n) (node_view e m)
  parts_by_names else steps names named has t i h =
      let k = named i t h in
      part_of else t (λ none. has i k.0 k.1
      (ap (λ (s : Step). tree_of e (at (node_place e m) s)) (sym k.2) ∙ none))

  pub names_by_parts : Stood e m → AreNames (node_view d n)
      → HasParts (node_view d n) (node_view e m)
      → HasNamesOf d n e m
  names_by_parts stands names has i name h none =
      let p = has (key name) i (names i name h) in stands (key name) p.0 p.1 none

-- each part of a table has a name
pub named_parts : (v : View) → 8 ≤ kind_of v → AreKeys v → (i : ℕ) (t : Step) → nth_part v i ≡ Some t
    → (name : List ℕ) × (slice_get (names_in v) i ≡ Some name) × (t ≡ key name)
named_parts v big keys i t h = elim (tabled v big) [
  | inl a ↦ of a.0 (subst AreKeys a.1 keys) (ap (λ (x : View). nth_part x i) (sym a.1) ∙ h) (ap names_in a.1)
  | inr a ↦ of a.0 (subst AreKeys a.1 keys) (ap (λ (x : View). nth_part x i) (sym a.1) ∙ h) (ap names_in a.1)
]
  where
    key_at : (ns : List (List ℕ)) (i : ℕ) → slice_get (map key ns) i ≡ Some t
        → (name : List ℕ) × (slice_get ns i ≡ Some name) × (t ≡ key name)
    key_at [] i e = absurd cc
    key_at (k ∷ ks) zero e = (k, refl, sym (same_Some (key k) t e))
    key_at (k ∷ ks) (suc i) e = key_at ks i e

    of : (ms : List Step) → ms ≡ map key (key_names ms) → slice_get ms i ≡ Some t → names_in v ≡ key_names ms
        → (name : List ℕ) × (slice_get (names_in v) i ≡ Some name) × (t ≡ key name)
    of ms keys h names =
        let k = key_at (key_names ms) i (ap (λ (xs : List Step). slice_get xs i) (sym keys) ∙ h) in
        (k.0, ap (λ (xs : List (List ℕ)). slice_get xs i) names ∙ k.1, k.2)
