-- Trees that are equal except at and below one place, and what the children of two nodes determine about
-- that.
use Rattle.std.proofs.Common.{◌≡◌, ℕ, Bool, true, false, ◌&&◌, [], ◌∷◌, ◌++◌, Option, Some, None, refl, sym, ap, ap₂, ◌∙◌, ◌⊎◌, inl, inr, append-nil}
use Rattle.std.specs.Bool.{Decides}
use Rattle.std.proofs.lemmas.Option.{same_Some}
use Rattle.edit_tree.specs.Assertions.{Step, Place, at, same_step}
use Rattle.edit_tree.specs.EditBytes.{is_within}
use Rattle.edit_tree.specs.IntendedTrees.{Tree}
use Rattle.edit_tree.specs.Tree.{View}
use Rattle.edit_tree.specs.DocumentViews.{DocumentViews, tree_of}
use Rattle.edit_document.specs.Items.{node_place, node_view, count_in, IsNodeIndex}
use Rattle.edit_document.specs.Compared.{SameBelow, tree_below, SameBeside, SamePartsBut, SamePart, nth_part, IsChildIndex}
use Rattle.edit_tree.proofs.SamePlace.{same_step_self, same_step_is}
use Rattle.edit_document.proofs.SameParts.{part_or, part_less, one_down, NothingElse, NoneBelow}

-- ---- places

-- what is not within a front is not within the whole
pub within_front : (p r q : Place) → is_within p q ≡ false → is_within (p ++ r) q ≡ false
within_front [] r q e = absurd cc
within_front (s ∷ ss) r [] e = refl
within_front (s ∷ ss) r (t ∷ ts) e = go (same_step s t) e (within_front ss r ts)
  where
    go : (b : Bool) → (b && is_within ss ts) ≡ false
        → (is_within ss ts ≡ false → is_within (ss ++ r) ts ≡ false) → (b && is_within (ss ++ r) ts) ≡ false
    go true h ih = ih h
    go false h ih = refl

-- behind a front that both have
pub within_back : (p r q : Place) → is_within (p ++ r) (p ++ q) ≡ is_within r q
within_back [] r q = refl
within_back (s ∷ ss) r q =
    ap (λ (b : Bool). b && is_within (ss ++ r) (ss ++ q)) (same_step_self s) ∙ within_back ss r q

-- not within a front, or behind it
abbrev pub IsSplit : Place → Place → Place → Type 0
IsSplit p r q = (is_within p q ≡ false) ⊎ ((k : Place) × (q ≡ p ++ k) × (is_within r k ≡ false))

pub within_split : (p r q : Place) → is_within (p ++ r) q ≡ false → IsSplit p r q
within_split [] r q e = inr (q, refl, e)
within_split (s ∷ ss) r [] e = inl refl
within_split (s ∷ ss) r (t ∷ ts) e = go (same_step s t) refl e (within_split ss r ts)
  where
    go : (b : Bool) → same_step s t ≡ b → (b && is_within (ss ++ r) ts) ≡ false
        → (is_within (ss ++ r) ts ≡ false → IsSplit ss r ts) → IsSplit (s ∷ ss) r (t ∷ ts)
    go true same h ih = elim (ih h) [
      | inl out ↦ inl (ap (λ (b : Bool). b && is_within ss ts) same ∙ out)
      | inr k ↦ inr (k.0, ap₂ (λ (x : Step) (y : Place). x ∷ y) (sym (same_step_is s t same)) k.1, k.2)
    ]
    go false same h ih = inl (ap (λ (b : Bool). b && is_within ss ts) same)

-- the other steps below a place
pub other_within : (s t : Step) (q : Place) → (t ≡ s → ⊥) → is_within (s ∷ []) (t ∷ q) ≡ false
other_within s t q ne = go (same_step s t) refl
  where
    go : (b : Bool) → same_step s t ≡ b → (same_step s t && true) ≡ false
    go true e = absurd (ne (sym (same_step_is s t e)))
    go false e = ap (λ (b : Bool). b && true) e

pub within_other : (s t : Step) (q : Place) → is_within (s ∷ []) (t ∷ q) ≡ false → t ≡ s → ⊥
within_other s t q e same =
    let clash : true ≡ false =
    sym (ap (λ (b : Bool). b && true) (same_step_self s)) ∙
    ap (λ (x : Step). same_step s x && true) (sym same) ∙ e in
    cc

-- ---- trees

pub beside_more : (p r : Place) (old new : Tree) → SameBeside p old new
    → SameBeside r (λ q. old (p ++ q)) (λ q. new (p ++ q)) → SameBeside (p ++ r) old new
beside_more p r old new front back q out = elim (within_split p r q out) [
  | inl h ↦ front q h
  | inr k ↦ ap new k.1 ∙ back k.0 k.2 ∙ ap old (sym k.1)
]

pub beside_front : (p r : Place) (old new : Tree) → SameBeside (p ++ r) old new → SameBeside p old new
beside_front p r old new same q out = same q (within_front p r q out)

pub beside_back : (p r : Place) (old new : Tree) → SameBeside (p ++ r) old new
    → SameBeside r (λ q. old (p ++ q)) (λ q. new (p ++ q))
beside_back p r old new same q out = same (p ++ q) (within_back p r q ∙ out)

-- a relation of two trees but at one place and below it, which can be cut and joined along that place
pub record GoesAlong (Beside : Place → Tree → Tree → Type 0) : Type 0 where
  pub more : (p r : Place) (old new : Tree) → Beside p old new
      → Beside r (λ q. old (p ++ q)) (λ q. new (p ++ q)) → Beside (p ++ r) old new
  pub front : (p r : Place) (old new : Tree) → Beside (p ++ r) old new → Beside p old new
  pub back : (p r : Place) (old new : Tree) → Beside (p ++ r) old new
      → Beside r (λ q. old (p ++ q)) (λ q. new (p ++ q))

pub beside_goes : GoesAlong SameBeside
beside_goes = record { more = beside_more; front = beside_front; back = beside_back }

-- ---- nodes

abbrev At : DocumentViews → ℕ → Type 0
At d n = tree_of d (node_place d n) ≡ Some (node_view d n)

module _ (d : DocumentViews) (n : ℕ) (e : DocumentViews) (m : ℕ) (s : Step) (here : At d n) (there : At e m) where
  -- the same but at one step: the same view, and the same at each other part
  pub around_same : NoneBelow d → NoneBelow e → NothingElse d n → NothingElse e m
      → node_view d n ≡ node_view e m → SamePartsBut s d n e m
      → SameBeside (s ∷ []) (tree_below d (node_place d n)) (tree_below e (node_place e m))
  around_same below_d below_e else_d else_e same parts [] out =
      ap (tree_of e) (append-nil (node_place e m)) ∙ there ∙ ap Some (sym same) ∙ sym here
      ∙ ap (tree_of d) (sym (append-nil (node_place d n)))
  around_same below_d below_e else_d else_e same parts (t ∷ q) out =
      elim (part_or (node_view d n) t (count_in (node_view d n))) [
        | inl k ↦
            sym (one_down e (node_place e m) t q) ∙ sym (parts k.0 t k.2 (within_other s t q out) q)
            ∙ one_down d (node_place d n) t q
        | inr none ↦
            let absent : (i : ℕ) → nth_part (node_view d n) i ≡ Some t → ⊥ =
            λ i h. none i (part_less (node_view d n) i t h) h in
            sym (one_down e (node_place e m) t q)
            ∙ below_e (at (node_place e m) t) q
            (else_e t (λ i h. absent i (ap (λ (w : View). nth_part w i) same ∙ h)))
            ∙ sym (below_d (at (node_place d n) t) q (else_d t absent)) ∙
            one_down d (node_place d n) t q
      ]

  pub around_view : SameBeside (s ∷ []) (tree_below d (node_place d n))
      (tree_below e (node_place e m))
      → node_view d n ≡ node_view e m
  around_view same =
      same_Some (node_view d n) (node_view e m)
      (sym here ∙ ap (tree_of d) (sym (append-nil (node_place d n))) ∙ sym (same [] refl)
      ∙ ap (tree_of e) (append-nil (node_place e m)) ∙ there)

  pub around_parts : SameBeside (s ∷ []) (tree_below d (node_place d n))
      (tree_below e (node_place e m))
      → SamePartsBut s d n e m
  around_parts same i t part ne q =
      one_down d (node_place d n) t q ∙ sym (same (t ∷ q) (other_within s t q ne))
      ∙ sym (one_down e (node_place e m) t q)

  -- what the first has not, the second has not
  pub around_lacks : NothingElse e m
      → ((step : Step) (i : ℕ) → nth_part (node_view d n) i ≡ Some step
      → tree_of d (at (node_place d n) step) ≡ None → ⊥)
      → node_view d n ≡ node_view e m → tree_of d (at (node_place d n) s) ≡ None
      → tree_of e (at (node_place e m) s) ≡ None
  around_lacks else_e stands same none = elim (part_or (node_view d n) s (count_in (node_view d n))) [
    | inl k ↦ absurd (stands s k.0 k.2 none)
    | inr none2 ↦ else_e s (λ i h.
        let part : nth_part (node_view d n) i ≡ Some s = ap (λ (w : View). nth_part w i) same ∙ h in
        none2 i (part_less (node_view d n) i s part) part)
  ]

-- ---- one part

abbrev Counterpart : DocumentViews → ℕ → DocumentViews → ℕ → ℕ → Option ℕ → Type 0
Counterpart d n e m i r =
    (step : Step) → nth_part (node_view d n) i ≡ Some step → IsNodeIndex e (at (node_place e m) step) r

pub part_decides : (d : DocumentViews) (n : ℕ) (e : DocumentViews) (m i a b : ℕ) (r : Bool)
    → IsChildIndex d n i (Some a)
    → Counterpart d n e m i (Some b) → Decides r (SameBelow d (node_place d a) e (node_place e b))
    → Decides r (SamePart d n e m i)
part_decides d n e m i a b r (s, ps, la, pa) there decided = (
  λ t step p q.
      let same : s ≡ step = same_Some s step (sym ps ∙ p) in
      ap (λ (x : Place). tree_of d (x ++ q)) (sym (pa ∙ ap (at (node_place d n)) same)) ∙ decided.0 t q
      ∙ ap (λ (x : Place). tree_of e (x ++ q)) (there step p).1,
  λ h. decided.1 (λ q.
      ap (λ (x : Place). tree_of d (x ++ q)) pa ∙ h s ps q
      ∙ ap (λ (x : Place). tree_of e (x ++ q)) (sym (there s ps).1)),
)

-- a part that has no counterpart is not the same
pub part_lacks : (d : DocumentViews) (n : ℕ) (e : DocumentViews) (m i a : ℕ) → IsChildIndex d n i (Some a)
    → ((step : Step) (i : ℕ) → nth_part (node_view d n) i ≡ Some step
    → tree_of d (at (node_place d n) step) ≡ None → ⊥)
    → Counterpart d n e m i None → SamePart d n e m i → ⊥
part_lacks d n e m i a (s, ps, la, pa) stands there h =
    stands s i ps (ap (tree_of d) (sym (append-nil (at (node_place d n) s))) ∙ h s ps []
    ∙ ap (tree_of e) (append-nil (at (node_place e m) s)) ∙ there s ps)
