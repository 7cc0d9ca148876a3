-- The views of two nodes where the second has lost a child, and the places of its other children.
use Rattle.std.proofs.Common.{◌≡◌, ℕ, suc, ◌<◌, ◌≤◌, Bool, true, false, not, ◌&&◌, if◌then◌else◌, List, [], ◌∷◌, ◌++◌, length, Option, Some, None, refl, sym, ap, subst, ◌∙◌, inl, inr, true≢false, arith}
use Rattle.std.specs.Prelude.{slice_get}
use Rattle.std.specs.List.{list_any}
use Rattle.std.proofs.lemmas.Bool.{and_parts, and_from}
use Rattle.std.proofs.lemmas.Option.{same_Some}
use Rattle.edit_syntax.proofs.Cases.{by_test}
use Rattle.edit_tree.specs.Assertions.{Step, key, index, Place, at, same_step}
use Rattle.edit_document.specs.Compared.{nth_part, element_step, kind_of, AreSteps}
use Rattle.edit_document.specs.Items.{names_in, count_in, IsNodeIndex}
use Rattle.edit_document.specs.ItemRemoval.{moved_index, moved_place}
use Rattle.edit_tree.specs.IntendedTrees.{place_after_removal, LosesStep, Loses, from_table, from_inline_table, from_array, from_table_array}
use Rattle.edit_tree.specs.DocumentViews.{DocumentViews}
use Rattle.edit_tree.specs.Tree.{View, string, truth, whole, fractional, moment, static_array, table_array, inline_table, table}
use Rattle.edit_compare.proofs.GrownNames.{tabled}
use Rattle.edit_tree.proofs.SamePlace.{same_step_self, same_step_is}
use Rattle.edit_compare.proofs.UnorderedViews.{any_at, at_any, same_bools, HasParts}

-- ---- where parts move

-- where another step moves
abbrev pub moved_one : Step → Step → Step
moved_one t (key n) = key n
moved_one t (index j) = index (moved_index t j)

either : (b : Bool) (q : Place) → (if b then place_after_removal [] q else q) ≡ q
either true q = refl
either false q = refl

pub moved_is : (t s : Step) (q : Place) → place_after_removal (t ∷ []) (s ∷ q) ≡ moved_one t s ∷ q
moved_is (key n) (key m) q = ap (λ z. key m ∷ z) (either (same_step (key n) (key m)) q)
moved_is (key n) (index j) q = refl
moved_is (index i) (key m) q = refl
moved_is (index i) (index j) q = refl

pub moved_place_is : (t : Step) (p : Place) (s : Step) → moved_place t p s ≡ at p (moved_one t s)
moved_place_is t p s = ap (λ z. p ++ z) (moved_is t s [])

-- the number of a counterpart
pub moved_number : (e : DocumentViews) (t : Step) (p : Place) (s : Step) (r : Option ℕ)
    → IsNodeIndex e (at p (moved_one t s)) r → IsNodeIndex e (moved_place t p s) r
moved_number e t p s r h = subst (λ z. IsNodeIndex e z r) (sym (moved_place_is t p s)) h

-- a member is where it was
pub key_moves : (v : View) → AreSteps v → (i : ℕ) (name : List ℕ) → slice_get (names_in v) i ≡ Some name
    → (e : DocumentViews) (t : Step) (p : Place) (r : Option ℕ)
    → IsNodeIndex e (at p (key name)) r → (s : Step) → nth_part v i ≡ Some s
    → IsNodeIndex e (moved_place t p s) r
key_moves v steps i name here e t p r h s part = elim (steps i s part) [
  | inl k ↦
      let same : name ≡ k.0 = same_Some name k.0 (sym here ∙ k.1) in
      let is : moved_one t s ≡ key name = ap (moved_one t) (k.2 ∙ ap key (sym same)) in
      moved_number e t p s r (subst (λ z. IsNodeIndex e (at p z) r) (sym is) h)
  | inr k ↦ absurd (let clash : Some name ≡ None = sym here ∙ k.0 in cc)
]

-- an element is where it moved to
pub index_moves : (v : View) → AreSteps v → (i j : ℕ) → slice_get (names_in v) i ≡ None
    → (e : DocumentViews) (t : Step) (p : Place) (r : Option ℕ)
    → j ≡ moved_index t i → IsNodeIndex e (at p (index j)) r → (s : Step) → nth_part v i ≡ Some s
    → IsNodeIndex e (moved_place t p s) r
index_moves v steps i j none e t p r to h s part = elim (steps i s part) [
  | inl k ↦ absurd (let clash : None ≡ Some k.0 = sym none ∙ k.1 in cc)
  | inr k ↦
      let is : moved_one t s ≡ index j = ap (moved_one t) k.1 ∙ ap index (sym to) in
      moved_number e t p s r (subst (λ z. IsNodeIndex e (at p z) r) (sym is) h)
]

-- ---- views

-- all parts of the first are parts of the second, but the one
pub record PartsBut (t : Step) (v w : View) : Type 0 where
  pub there : (s : Step) (i : ℕ) → nth_part v i ≡ Some s → (s ≡ t → ⊥) → (j : ℕ) × (nth_part w j ≡ Some s)
  pub back : HasParts w v
  pub none : (j : ℕ) → nth_part w j ≡ Some t → ⊥

steps_but : (t : Step) (ms ns : List Step) → LosesStep t ms ns
    → ((s : Step) (i : ℕ) → slice_get ms i ≡ Some s → (s ≡ t → ⊥) → (j : ℕ) × (slice_get ns j ≡ Some s))
    × ((s : Step) (i : ℕ) → slice_get ns i ≡ Some s → (j : ℕ) × (slice_get ms j ≡ Some s))
    × ((j : ℕ) → slice_get ns j ≡ Some t → ⊥)
steps_but t ms ns h = (
  λ s i e ne.
      let other : same_step t s ≡ false = by_test (same_step t s)
      (λ f. absurd (ne (sym (same_step_is t s f)))) (λ f. f) in
      at_any s ns (h.members s ∙ and_from (list_any (same_step s) ms) (not (same_step t s)) (any_at s ms i e)
      (ap not other)),
  λ s i e. at_any s ms (and_parts (list_any (same_step s) ms) (not (same_step t s))
      (sym (h.members s) ∙ any_at s ns i e)).0,
  λ j e.
      let both = and_parts (list_any (same_step t) ms) (not (same_step t t))
      (sym (h.members t) ∙ any_at t ns j e) in
      true≢false (sym both.1 ∙ ap not (same_step_self t)),
)

but_steps : (t : Step) (ms ns : List Step) → length ms ≡ suc (length ns)
    → ((s : Step) (i : ℕ) → slice_get ms i ≡ Some s → (s ≡ t → ⊥) → (j : ℕ) × (slice_get ns j ≡ Some s))
    → ((s : Step) (i : ℕ) → slice_get ns i ≡ Some s → (j : ℕ) × (slice_get ms j ≡ Some s))
    → ((j : ℕ) → slice_get ns j ≡ Some t → ⊥) → LosesStep t ms ns
but_steps t ms ns size there back none = record {
  count = size;
  members = λ s. same_bools (list_any (same_step s) ns) (list_any (same_step s) ms && not (same_step t s))
      (λ h.
      (let a = at_any s ns h in
      let b = back s a.0 a.1 in
      and_from (list_any (same_step s) ms) (not (same_step t s)) (any_at s ms b.0 b.1)
      (by_test (same_step t s) (λ f. absurd (none a.0 (a.1 ∙ ap Some (sym (same_step_is t s f)))))
      (λ f. ap not f))))
      (λ h.
      (let both = and_parts (list_any (same_step s) ms) (not (same_step t s)) h in
      let a = at_any s ms both.0 in
      let b = there s a.0 a.1
      (λ e. true≢false (sym both.1 ∙ ap not (ap (λ z. same_step t z) e ∙ same_step_self t))) in
      any_at s ns b.0 b.1));
}

-- the second shows the first without the part t
abbrev ShowsBut : Step → View → View → Type 0
ShowsBut t v w = (kind_of v ≡ kind_of w) × (count_in v ≡ suc (count_in w)) × (8 ≤ kind_of v → PartsBut t v w)

shows_but : (t : Step) (a b v w : View) → a ≡ v → b ≡ w → ShowsBut t a b → ShowsBut t v w
shows_but t a b v w e f h = subst (λ x. ShowsBut t x w) e (subst (ShowsBut t a) f h)

loses_any : (t : Step) (o p : Option View) (v w : View) → Loses t o p → o ≡ Some v → p ≡ Some w
    → ShowsBut t v w
loses_any t _ _ v w (from_table ms ns h) e f =
    let r = steps_but t ms ns h in
    shows_but t (table ms) (table ns) v w (same_Some (table ms) v e) (same_Some (table ns) w f)
    (refl, h.count, λ big. record { there = r.0; back = r.1; none = r.2 })
loses_any t _ _ v w (from_inline_table ms ns h) e f =
    let r = steps_but t ms ns h in
    shows_but t (inline_table ms) (inline_table ns) v w (same_Some (inline_table ms) v e)
    (same_Some (inline_table ns) w f) (refl, h.count, λ big. record { there = r.0; back = r.1; none = r.2 })
loses_any t _ _ v w (from_array n) e f =
    shows_but t (static_array (suc n)) (static_array n) v w (same_Some (static_array (suc n)) v e)
    (same_Some (static_array n) w f) (refl, refl, λ big. absurd (omega (arith, big)))
loses_any t _ _ v w (from_table_array n) e f =
    shows_but t (table_array (suc n)) (table_array n) v w (same_Some (table_array (suc n)) v e)
    (same_Some (table_array n) w f) (refl, refl, λ big. absurd (omega (arith, big)))

pub loses_kind : (t : Step) (v w : View) → Loses t (Some v) (Some w) → kind_of v ≡ kind_of w
loses_kind t v w h = (loses_any t (Some v) (Some w) v w h refl refl).0

pub loses_size : (t : Step) (v w : View) → Loses t (Some v) (Some w) → count_in v ≡ suc (count_in w)
loses_size t v w h = (loses_any t (Some v) (Some w) v w h refl refl).1

-- what has a part and is no table is an array: so many elements, in their order
pub array_of : (v : View) (i : ℕ) (u : Step) → kind_of v < 8 → nth_part v i ≡ Some u
    → (a : ℕ) × (count_in v ≡ a) × ((i : ℕ) → nth_part v i ≡ element_step a i)
array_of (static_array a) i u small h = (a, refl, λ i. refl)
array_of (table_array a) i u small h = (a, refl, λ i. refl)
array_of (inline_table ms) i u small h = absurd (omega (arith, small))
array_of (table ms) i u small h = absurd (omega (arith, small))
array_of (string b) i u small h = absurd cc
array_of (truth b) i u small h = absurd cc
array_of (whole b) i u small h = absurd cc
array_of (fractional b) i u small h = absurd cc
array_of (moment b) i u small h = absurd cc

pub loses_parts : (t : Step) (v w : View) → Loses t (Some v) (Some w) → 8 ≤ kind_of v → PartsBut t v w
loses_parts t v w h = (loses_any t (Some v) (Some w) v w h refl refl).2

-- an array with one element less
static_loses : (t : Step) (n : ℕ) (w : View) → 6 ≡ kind_of w → n ≡ suc (count_in w)
    → Loses t (Some (static_array n)) (Some w)
static_loses t n (static_array m) e size =
    subst (λ k. Loses t (Some (static_array k)) (Some (static_array m))) (sym size) (from_array m)
static_loses t n (string b) e size = absurd (omega (arith, e))
static_loses t n (truth true) e size = absurd (omega (arith, e))
static_loses t n (truth false) e size = absurd (omega (arith, e))
static_loses t n (whole b) e size = absurd (omega (arith, e))
static_loses t n (fractional b) e size = absurd (omega (arith, e))
static_loses t n (moment b) e size = absurd (omega (arith, e))
static_loses t n (table_array m) e size = absurd (omega (arith, e))
static_loses t n (inline_table ms) e size = absurd (omega (arith, e))
static_loses t n (table ms) e size = absurd (omega (arith, e))

tables_loses : (t : Step) (n : ℕ) (w : View) → 7 ≡ kind_of w → n ≡ suc (count_in w)
    → Loses t (Some (table_array n)) (Some w)
tables_loses t n (table_array m) e size = subst (λ k. Loses t (Some (table_array k)) (Some (table_array m)))
    (sym size) (from_table_array m)
tables_loses t n (string b) e size = absurd (omega (arith, e))
tables_loses t n (truth true) e size = absurd (omega (arith, e))
tables_loses t n (truth false) e size = absurd (omega (arith, e))
tables_loses t n (whole b) e size = absurd (omega (arith, e))
tables_loses t n (fractional b) e size = absurd (omega (arith, e))
tables_loses t n (moment b) e size = absurd (omega (arith, e))
tables_loses t n (static_array m) e size = absurd (omega (arith, e))
tables_loses t n (inline_table ms) e size = absurd (omega (arith, e))
tables_loses t n (table ms) e size = absurd (omega (arith, e))

pub array_loses : (t : Step) (v w : View) (i : ℕ) → nth_part v i ≡ Some t → kind_of v < 8
    → kind_of v ≡ kind_of w → count_in v ≡ suc (count_in w)
    → Loses t (Some v) (Some w)
array_loses t (static_array n) w i e small kind size = static_loses t n w kind size
array_loses t (table_array n) w i e small kind size = tables_loses t n w kind size
array_loses t (inline_table ms) w i e small kind size = absurd (omega (arith, small))
array_loses t (table ms) w i e small kind size = absurd (omega (arith, small))
array_loses t (string b) w i e small kind size = absurd cc
array_loses t (truth b) w i e small kind size = absurd cc
array_loses t (whole b) w i e small kind size = absurd cc
array_loses t (fractional b) w i e small kind size = absurd cc
array_loses t (moment b) w i e small kind size = absurd cc

-- a table with one member less
pub table_loses : (t : Step) (v w : View) → 8 ≤ kind_of v → kind_of v ≡ kind_of w
    → count_in v ≡ suc (count_in w) → PartsBut t v w
    → Loses t (Some v) (Some w)
table_loses t v w big kind size parts = elim (tabled v big) [
  | inl a ↦ elim (tabled w (subst (λ k. 8 ≤ k) kind big)) [
    | inl b ↦ two_tables a.0 b.0 a.1 b.1
    | inr b ↦ absurd (let k : 9 ≡ 8 = sym (ap kind_of a.1) ∙ kind ∙ ap kind_of b.1 in omega (arith, k))
  ]
  | inr a ↦ elim (tabled w (subst (λ k. 8 ≤ k) kind big)) [
    | inl b ↦ absurd (let k : 8 ≡ 9 = sym (ap kind_of a.1) ∙ kind ∙ ap kind_of b.1 in omega (arith, k))
    | inr b ↦ two_inline a.0 b.0 a.1 b.1
  ]
]
  where
    both : (ms ns : List Step) → ((i : ℕ) → nth_part v i ≡ slice_get ms i)
        → ((i : ℕ) → nth_part w i ≡ slice_get ns i)
        → length ms ≡ suc (length ns) → LosesStep t ms ns
    both ms ns left right count = but_steps t ms ns count
        (λ s i e ne. (let r = parts.there s i (left i ∙ e) ne in (r.0, sym (right r.0) ∙ r.1)))
        (λ s i e. (let r = parts.back s i (right i ∙ e) in (r.0, sym (left r.0) ∙ r.1)))
        (λ j e. parts.none j (right j ∙ e))

    two_tables : (ms ns : List Step) → v ≡ table ms → w ≡ table ns → Loses t (Some v) (Some w)
    two_tables ms ns a b =
        subst (λ x. Loses t (Some x) (Some w)) (sym a)
        (subst (λ y. Loses t (Some (table ms)) (Some y)) (sym b)
        (from_table ms ns (both ms ns (λ i. ap (λ x. nth_part x i) a) (λ i. ap (λ x. nth_part x i) b)
        (sym (ap count_in a) ∙ size ∙ ap (λ x. suc (count_in x)) b))))

    two_inline : (ms ns : List Step) → v ≡ inline_table ms → w ≡ inline_table ns → Loses t (Some v) (Some w)
    two_inline ms ns a b =
        subst (λ x. Loses t (Some x) (Some w)) (sym a)
        (subst (λ y. Loses t (Some (inline_table ms)) (Some y)) (sym b)
        (from_inline_table ms ns (both ms ns (λ i. ap (λ x. nth_part x i) a) (λ i. ap (λ x. nth_part x i) b)
        (sym (ap count_in a) ∙ size ∙ ap (λ x. suc (count_in x)) b))))
