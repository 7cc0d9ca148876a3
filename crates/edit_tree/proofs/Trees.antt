-- Trees with one node changed, or one more node below it.
use Rattle.std.proofs.Common.{◌≡◌, ℕ, ◌<◌, Bool, true, false, List, [], ◌∷◌, ◌++◌, length, Some, None, refl, sym, ap, subst, ◌∙◌, ◌⊎◌, inl, inr, arith}
use Rattle.std.specs.Prelude.{slice_get, slice_set}
use Rattle.std.proofs.lemmas.List.{length-set}
use Rattle.std.proofs.lemmas.Option.{slice_get_within, same_Some}
use Rattle.edit_tree.specs.Assertions.{Step, key, index, Place, at, same_step}
use Rattle.edit_tree.specs.Nodes.{ModelNode, StandsAt, below, IsBelow, IsTree}
use Rattle.edit_tree.proofs.SamePlace.{same_step_self, same_step_is}
use Rattle.edit_syntax.proofs.ListElements.{get_front, get_last, get_set_same, get_set_other, equal_or, OneSet, changed, other, in_set, OneMore, stood, newest, in_push}

-- what stood still stands
abbrev pub Grows : List ModelNode → List ModelNode → Type 0
Grows was now = (n : ℕ) (p : Place) → StandsAt was n p → StandsAt now n p

pub grows_same : (models : List ModelNode) → Grows models models
grows_same models n p h = h

pub grows_then : (a b c : List ModelNode) → Grows a b → Grows b c → Grows a c
grows_then a b c g h n p s = h n p (g n p s)

pub grows_set : (models : List ModelNode) (t : ℕ) (s s2 : ModelNode) → slice_get models t ≡ Some s
    → s2.place ≡ s.place
    → Grows models (slice_set models t s2)
grows_set models t s s2 e same n p h = elim (equal_or n t) [
  | inl here ↦
      let was : h.0 ≡ s = same_Some h.0 s (sym h.1 ∙ ap (slice_get models) here ∙ e) in (
        s2,
        ap (slice_get (slice_set models t s2)) here ∙
            get_set_same models t s2 (slice_get_within models t s e),
        same ∙ ap (λ (u : ModelNode). u.place) (sym was) ∙
            h.2,
      )
  | inr ne ↦ (h.0, get_set_other models t n s2 ne ∙ h.1, h.2)
]

pub grows_push : (models : List ModelNode) (last : ModelNode) → Grows models (models ++ last ∷ [])
grows_push models last n p h =
    (h.0, get_front models (last ∷ []) n (slice_get_within models n h.0 h.1) ∙ h.1, h.2)

-- ---- one model node changed

below_same : (s u : ModelNode) (x : Step) → s.members ≡ u.members → s.elements ≡ u.elements
    → below s x ≡ below u x
below_same s u (key n) m e = ap (λ ms. below (record u { members = ms }) (key n)) m
below_same s u (index i) m e = ap (λ (es : List ℕ). slice_get es i) e

module _ (models : List ModelNode) (t : ℕ) (s s2 : ModelNode) (tree : IsTree models) (e : slice_get models t ≡ Some s)
    (place : s2.place ≡ s.place) (members : s2.members ≡ s.members)
    (elements : s2.elements ≡ s.elements) where
  set_was : (i : ℕ) (u : ModelNode) → slice_get (slice_set models t s2) i ≡ Some u → (w : ModelNode)
      × (slice_get models i ≡ Some w) × (u.place ≡ w.place) × ((x : Step) → below u x ≡ below w x)
  set_was i u g = go (in_set models t s2 i u (slice_get_within models t s e) g)
    where
      go : OneSet models t s2 i u → (w : ModelNode) × (slice_get models i ≡ Some w) × (u.place ≡ w.place)
          × ((x : Step) → below u x ≡ below w x)
      go (changed here is) = (
        s,
        ap (slice_get models) here ∙ e,
        ap (λ (v : ModelNode). v.place) is ∙
            place,
        λ x. ap (λ (v : ModelNode). below v x) is ∙ below_same s2 s x members elements,
      )
      go (other ne g2) = (u, g2, refl, λ x. refl)

  set_still : (i : ℕ) (w : ModelNode) → slice_get models i ≡ Some w → (u : ModelNode)
      × (slice_get (slice_set models t s2) i ≡ Some u) × (u.place ≡ w.place)
      × ((x : Step) → below u x ≡ below w x)
  set_still i w g = elim (equal_or i t) [
    | inl here ↦
        let was : w ≡ s = same_Some w s (sym g ∙ ap (slice_get models) here ∙ e) in (
          s2,
          ap (slice_get (slice_set models t s2)) here ∙
              get_set_same models t s2 (slice_get_within models t s e),
          place ∙ ap (λ (v : ModelNode). v.place) (sym was),
          λ x. below_same s2 s x members elements ∙ ap (λ (v : ModelNode). below v x) (sym was),
        )
    | inr ne ↦ (w, get_set_other models t i s2 ne ∙ g, refl, λ x. refl)
  ]

  set_below : (j : ℕ) (p : Place) → IsBelow models j p → IsBelow (slice_set models t s2) j p
  set_below j p b =
      let u = set_still b.above b.upper b.stands in
      record {
        upper = u.0;
        above = b.above;
        step = b.step;
        stands = u.1;
        place_is = b.place_is ∙ ap (λ (q : Place). at q b.step) (sym u.2);
        listed = u.3 b.step ∙ b.listed;
      }

  pub tree_set : IsTree (slice_set models t s2)
  tree_set = record {
    root = grows_set models t s s2 e place 0 [] tree.root;
    unique = λ i j u v a b same. let x = set_was i u a in let y = set_was j v b in
        tree.unique i j x.0 y.0 x.1 y.1 (sym x.2 ∙ same ∙ y.2);
    down = λ i j u x a b.
        let w = set_was i u a in
        let h = tree.down i j w.0 x w.1 (sym (w.3 x) ∙ b) in
        let g = grows_set models t s s2 e place j (at w.0.place x) h in
        (g.0, g.1, g.2 ∙ ap (λ (q : Place). at q x) (sym w.2));
    up = λ j v b.
        let w = set_was j v b in
        elim (tree.up j w.0 w.1) [
          | inl r ↦ inl (w.2 ∙ r)
          | inr m ↦ inr
              (subst (IsBelow (slice_set models t s2) j) (sym w.2) (set_below j w.0.place m))
        ];
  }

-- ---- one more model node, below another

-- where a model node of the longer list comes from
data Whence (models : List ModelNode) (t : ℕ) (s2 last : ModelNode) (i : ℕ) (u : ModelNode) : Type 0 where
  parent : i ≡ t → u ≡ s2 → Whence models t s2 last i u
  otherwise : (i ≡ t → ⊥) → slice_get models i ≡ Some u → Whence models t s2 last i u
  added : i ≡ length models → u ≡ last → Whence models t s2 last i u

-- a model node with one more step
pub record Gains (s s2 : ModelNode) (x : Step) (number : ℕ) : Type 0 where
  pub place : s2.place ≡ s.place
  pub gained : below s2 x ≡ Some number
  pub others : (y : Step) → (y ≡ x → ⊥) → below s2 y ≡ below s y
  pub absent : below s x ≡ None

module _ (models : List ModelNode) (t : ℕ) (s s2 last : ModelNode) (x : Step) (tree : IsTree models)
    (e : slice_get models t ≡ Some s) (gains : Gains s s2 x (length models))
    (fresh : (i : ℕ) (u : ModelNode) → slice_get models i ≡ Some u → u.place ≡ at s.place x → ⊥)
    (last_place : last.place ≡ at s.place x) (bare : (y : Step) → below last y ≡ None) where
  size : length (slice_set models t s2) ≡ length models
  size = length-set models t s2

  pub grown : Grows models (slice_set models t s2 ++ last ∷ [])
  grown = grows_then models (slice_set models t s2) (slice_set models t s2 ++ last ∷ [])
      (grows_set models t s s2 e gains.place) (grows_push (slice_set models t s2) last)

  pub last_is : slice_get (slice_set models t s2 ++ last ∷ []) (length models) ≡ Some last
  last_is = ap (slice_get (slice_set models t s2 ++ last ∷ [])) (sym size) ∙
      get_last (slice_set models t s2) last

  whence : (i : ℕ) (u : ModelNode) → slice_get (slice_set models t s2 ++ last ∷ []) i ≡ Some u
      → Whence models t s2 last i u
  whence i u g = go (in_push (slice_set models t s2) last i u g)
    where
      inner : OneSet models t s2 i u → Whence models t s2 last i u
      inner (changed here is) = parent here is
      inner (other ne g2) = otherwise ne g2

      go : OneMore (slice_set models t s2) last i u → Whence models t s2 last i u
      go (stood lt g2) = inner (in_set models t s2 i u (slice_get_within models t s e) g2)
      go (newest here is) = added (here ∙ length-set models t s2) is

  -- an earlier model node of the same place, or the new one
  was : (i : ℕ) (u : ModelNode) → Whence models t s2 last i u
      → ((w : ModelNode) × (slice_get models i ≡ Some w) × (u.place ≡ w.place)) ⊎ ((i ≡ length models) × (u ≡ last))
  was i u (parent here is) =
      inl (s, ap (slice_get models) here ∙ e, ap (λ (v : ModelNode). v.place) is ∙ gains.place)
  was i u (otherwise ne g) = inl (u, g, refl)
  was i u (added here is) = inr (here, is)

  still : (i : ℕ) (w : ModelNode) → slice_get models i ≡ Some w → (u : ModelNode)
      × (slice_get (slice_set models t s2 ++ last ∷ []) i ≡ Some u) × (u.place ≡ w.place)
      × ((y : Step) (j : ℕ) → below w y ≡ Some j → below u y ≡ Some j)
  still i w g =
      let lt : i < length (slice_set models t s2) = let l = slice_get_within models i w g in let m = size in
      omega arith in
      let front = get_front (slice_set models t s2) (last ∷ []) i lt in
      elim (equal_or i t) [
        | inl here ↦
            let same : w ≡ s = same_Some w s (sym g ∙ ap (slice_get models) here ∙ e) in (
              s2,
              front ∙ ap (slice_get (slice_set models t s2)) here ∙
                  get_set_same models t s2 (slice_get_within models t s e),
              gains.place ∙ ap (λ (v : ModelNode). v.place) (sym same),
              λ y j h.
                  let old_below : below s y ≡ Some j = ap (λ (v : ModelNode). below v y) (sym same) ∙ h in
                  gains.others y (λ step. let clash : Some j ≡ None = sym old_below ∙ ap (below s) step ∙
                  gains.absent in cc) ∙ old_below,
            )
        | inr ne ↦ (w, front ∙ get_set_other models t i s2 ne ∙ g, refl, λ y j h. h)
      ]

  gain_below : (j : ℕ) (p : Place) → IsBelow models j p → IsBelow (slice_set models t s2 ++ last ∷ []) j p
  gain_below j p b =
      let u = still b.above b.upper b.stands in
      record {
        upper = u.0;
        above = b.above;
        step = b.step;
        stands = u.1;
        place_is = b.place_is ∙ ap (λ (q : Place). at q b.step) (sym u.2);
        listed = u.3 b.step j b.listed;
      }

  one : (i j : ℕ) (u v : ModelNode) → u.place ≡ v.place
      → ((w : ModelNode) × (slice_get models i ≡ Some w) × (u.place ≡ w.place)) ⊎ ((i ≡ length models) × (u ≡ last))
      → ((w : ModelNode) × (slice_get models j ≡ Some w) × (v.place ≡ w.place)) ⊎ ((j ≡ length models) × (v ≡ last))
      → i ≡ j
  one i j u v same (inl a) (inl b) = tree.unique i j a.0 b.0 a.1 b.1 (sym a.2 ∙ same ∙ b.2)
  one i j u v same (inl a) (inr b) =
      absurd (fresh i a.0 a.1 (sym a.2 ∙ same ∙ ap (λ (w : ModelNode). w.place) b.1 ∙ last_place))
  one i j u v same (inr a) (inl b) =
      absurd (fresh j b.0 b.1 (sym b.2 ∙ sym same ∙ ap (λ (w : ModelNode). w.place) a.1 ∙ last_place))
  one i j u v same (inr a) (inr b) = a.0 ∙ sym b.0

  descend : (i j : ℕ) (u : ModelNode) (y : Step) → below u y ≡ Some j → Whence models t s2 last i u
      → StandsAt (slice_set models t s2 ++ last ∷ []) j (at u.place y)
  descend i j u y h (parent here is) =
      let there : below s2 y ≡ Some j = ap (λ (v : ModelNode). below v y) (sym is) ∙ h in
      let up : u.place ≡ s.place = ap (λ (v : ModelNode). v.place) is ∙ gains.place in
      let r = go (same_step y x) refl there in
      (r.0, r.1, r.2 ∙ ap (λ (q : Place). at q y) (sym up))
    where
      go : (b : Bool) → same_step y x ≡ b → below s2 y ≡ Some j
          → StandsAt (slice_set models t s2 ++ last ∷ []) j (at s.place y)
      go true test there =
          let step = same_step_is y x test in
          let number : length models ≡ j = same_Some (length models) j
          (sym gains.gained ∙ ap (below s2) (sym step) ∙ there) in (
            last,
            ap (slice_get (slice_set models t s2 ++ last ∷ [])) (sym number) ∙ last_is,
            last_place ∙
                ap (at s.place) (sym step),
          )
      go false test there =
          let ne : y ≡ x → ⊥ = λ step. let t2 : same_step y x ≡ true = ap (λ (z : Step). same_step z x) step ∙
          same_step_self x in cc in
          grown j (at s.place y) (tree.down t j s y e (sym (gains.others y ne) ∙ there))
  descend i j u y h (otherwise ne g) = grown j (at u.place y) (tree.down i j u y g h)
  descend i j u y h (added here is) = absurd (let clash : None ≡ Some j = sym (bare y) ∙
      ap (λ (v : ModelNode). below v y) (sym is) ∙ h in cc)

  ascend : (j : ℕ) (v : ModelNode) → Whence models t s2 last j v → (v.place ≡ [])
      ⊎ IsBelow (slice_set models t s2 ++ last ∷ []) j v.place
  ascend j v (parent here is) =
      let place : v.place ≡ s.place = ap (λ (w : ModelNode). w.place) is ∙ gains.place in
      elim (tree.up t s e) [
        | inl r ↦ inl (place ∙ r)
        | inr m ↦ inr (subst (λ (n : ℕ). IsBelow (slice_set models t s2 ++ last ∷ []) n v.place) (sym here)
            (subst (IsBelow (slice_set models t s2 ++ last ∷ []) t) (sym place) (gain_below t s.place m)))
      ]
  ascend j v (otherwise ne g) = elim (tree.up j v g) [ inl r ↦ inl r | inr m ↦ inr (gain_below j v.place m) ]
  ascend j v (added here is) =
      let stands : slice_get (slice_set models t s2 ++ last ∷ []) t ≡ Some s2 =
      get_front (slice_set models t s2) (last ∷ []) t (let l = slice_get_within models t s e in let m = size in
      omega arith) ∙ get_set_same models t s2 (slice_get_within models t s e) in
      inr (record {
        upper = s2;
        above = t;
        step = x;
        stands = stands;
        place_is = ap (λ (w : ModelNode). w.place) is ∙ last_place ∙ ap (λ (q : Place). at q x) (sym gains.place);
        listed = gains.gained ∙ ap (λ (n : ℕ). Some n) (sym here);
      })

  pub tree_gain : IsTree (slice_set models t s2 ++ last ∷ [])
  tree_gain = record {
    root = grown 0 [] tree.root;
    unique = λ i j u v a b same. one i j u v same (was i u (whence i u a)) (was j v (whence j v b));
    down = λ i j u y a b. descend i j u y b (whence i u a);
    up = λ j v b. ascend j v (whence j v b);
  }

  -- a model node of the longer list is an earlier one, the changed one or the new one
  pub each_gain : (P : ModelNode → Type 0) → P s2 → P last
      → ((i : ℕ) (u : ModelNode) → (i ≡ t → ⊥) → slice_get models i ≡ Some u → P u) → (i : ℕ) (u : ModelNode)
      → slice_get (slice_set models t s2 ++ last ∷ []) i ≡ Some u → P u
  each_gain P a b c i u g = go (whence i u g)
    where
      go : Whence models t s2 last i u → P u
      go (parent here is) = subst P (sym is) a
      go (otherwise ne g2) = c i u ne g2
      go (added here is) = subst P (sym is) b
