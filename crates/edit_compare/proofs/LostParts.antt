-- The children of two nodes that are compared where an item was removed from one of them.
use Rattle.std.proofs.Common.{◌≡◌, ℕ, Bool, [], ◌∷◌, ◌++◌, Option, Some, None, refl, sym, ap, subst, ◌∙◌, inl, inr, append-nil}
use Rattle.std.specs.Bool.{Decides}
use Rattle.std.proofs.lemmas.Option.{same_Some}
use Rattle.edit_tree.specs.Assertions.{Step, Place, at}
use Rattle.edit_document.specs.Compared.{SameButOrderBelow, IsChildIndex, tree_below, nth_part}
use Rattle.edit_document.specs.Items.{node_place, node_view, count_in, IsNodeIndex}
use Rattle.edit_document.specs.ItemRemoval.{SameButOrderBeside, UnorderedPartsBut}
use Rattle.edit_tree.specs.IntendedTrees.{Tree, SameButOrder, same}
use Rattle.edit_tree.specs.DocumentViews.{DocumentViews, tree_of}
use Rattle.edit_tree.specs.Tree.{View}
use Rattle.edit_compare.proofs.Besides.{GoesAlong, within_split, within_front, within_back, other_within, within_other}
use Rattle.edit_document.proofs.SameParts.{part_or, part_less, one_down, NothingElse, NoneBelow}
use Rattle.edit_compare.proofs.UnorderedViews.{order_free, free_none}

-- ---- one part

-- the same stands at a part as at the node of its counterpart
pub part_there : (P : Step → Place) (d : DocumentViews) (n : ℕ) (e : DocumentViews) (i a b : ℕ) (r : Bool)
    → IsChildIndex d n i (Some a)
    → ((s : Step) → nth_part (node_view d n) i ≡ Some s → IsNodeIndex e (P s) (Some b))
    → Decides r (SameButOrderBelow d (node_place d a) e (node_place e b))
    → Decides r ((s : Step) → nth_part (node_view d n) i ≡ Some s
    → SameButOrderBelow d (at (node_place d n) s) e (P s))
part_there P d n e i a b r (t, pt, la, pa) there decided = (
  λ yes s ps.
      let is : t ≡ s = same_Some t s (sym pt ∙ ps) in
      subst (λ p. SameButOrderBelow d p e (P s)) (pa ∙ ap (at (node_place d n)) is)
      (subst (λ p. SameButOrderBelow d (node_place d a) e p) (there s ps).1 (decided.0 yes)),
  λ h. decided.1 (subst (λ p. SameButOrderBelow d p e (node_place e b)) (sym pa)
      (subst (λ p. SameButOrderBelow d (at (node_place d n) t) e p) (sym (there t pt).1) (h t pt))),
)

-- a part without a counterpart
pub part_missing : (P : Step → Place) (d : DocumentViews) (n : ℕ) (e : DocumentViews) (i a : ℕ)
    → IsChildIndex d n i (Some a)
    → ((step : Step) (i : ℕ) → nth_part (node_view d n) i ≡ Some step
    → tree_of d (at (node_place d n) step) ≡ None → ⊥)
    → ((s : Step) → nth_part (node_view d n) i ≡ Some s → IsNodeIndex e (P s) None)
    → ((s : Step) → nth_part (node_view d n) i ≡ Some s
    → SameButOrderBelow d (at (node_place d n) s) e (P s)) → ⊥
part_missing P d n e i a (t, pt, la, pa) stands there h =
    stands t i pt (ap (tree_of d) (sym (append-nil (at (node_place d n) t)))
    ∙ free_none (tree_of d (at (node_place d n) t ++ [])) (tree_of e (P t ++ [])) (h t pt [])
    (ap (tree_of e) (append-nil (P t)) ∙ there t pt))

-- ---- all around a part

abbrev At : DocumentViews → ℕ → Type 0
At d n = tree_of d (node_place d n) ≡ Some (node_view d n)

module _ (d : DocumentViews) (n : ℕ) (e : DocumentViews) (m : ℕ) (s : Step) (here : At d n) (there : At e m) where
  pub around_all : NoneBelow d → NoneBelow e → NothingElse d n → NothingElse e m
      → SameButOrder (Some (node_view d n)) (Some (node_view e m)) → UnorderedPartsBut s d n e m
      → SameButOrderBeside (s ∷ []) (tree_below d (node_place d n)) (tree_below e (node_place e m))
  around_all below_d below_e else_d else_e views parts [] out =
      subst (λ (o : Option View). SameButOrder o (tree_of e (node_place e m ++ [])))
      (sym (ap (tree_of d) (append-nil (node_place d n)) ∙ here))
      (subst (λ (o : Option View). SameButOrder (Some (node_view d n)) o)
      (sym (ap (tree_of e) (append-nil (node_place e m)) ∙ there)) views)
  around_all below_d below_e else_d else_e views parts (t ∷ q) out =
      elim (part_or (node_view d n) t (count_in (node_view d n))) [
        | inl k ↦
            subst (λ (o : Option View). SameButOrder o (tree_of e (node_place e m ++ t ∷ q)))
            (one_down d (node_place d n) t q)
            (subst (λ (o : Option View). SameButOrder (tree_of d (at (node_place d n) t ++ q)) o)
            (one_down e (node_place e m) t q)
            (parts k.0 t k.2 (within_other s t q out) q))
        | inr none ↦
            let absent : (i : ℕ) → nth_part (node_view d n) i ≡ Some t
            → ⊥ = λ i h. none i (part_less (node_view d n) i t h) h in
            let free = order_free (node_view d n) (node_view e m) views in
            let left : tree_of d (node_place d n ++ t ∷ q) ≡ None =
            sym (one_down d (node_place d n) t q) ∙ below_d (at (node_place d n) t) q
            (else_d t absent) in
            let right : tree_of e (node_place e m ++ t ∷ q) ≡ None =
            sym (one_down e (node_place e m) t q)
            ∙ below_e (at (node_place e m) t) q (else_e t (λ i h. let r = free.back t i h in
            absent r.0 r.1)) in
            subst (λ (o : Option View). SameButOrder o (tree_of e (node_place e m ++ t ∷ q))) (sym left)
            (subst (λ (o : Option View). SameButOrder None o) (sym right) (same None))
      ]

  pub around_here : SameButOrderBeside (s ∷ []) (tree_below d (node_place d n))
      (tree_below e (node_place e m))
      → SameButOrder (Some (node_view d n)) (Some (node_view e m))
  around_here h =
      subst (λ (o : Option View). SameButOrder o (Some (node_view e m)))
      (ap (tree_of d) (append-nil (node_place d n)) ∙ here)
      (subst (λ (o : Option View). SameButOrder (tree_of d (node_place d n ++ [])) o)
      (ap (tree_of e) (append-nil (node_place e m)) ∙ there) (h [] refl))

  pub around_else : SameButOrderBeside (s ∷ []) (tree_below d (node_place d n))
      (tree_below e (node_place e m))
      → UnorderedPartsBut s d n e m
  around_else h i t part ne q =
      subst (λ (o : Option View). SameButOrder o (tree_of e (at (node_place e m) t ++ q)))
      (sym (one_down d (node_place d n) t q))
      (subst (λ (o : Option View). SameButOrder (tree_of d (node_place d n ++ t ∷ q)) o)
      (sym (one_down e (node_place e m) t q))
      (h (t ∷ q) (other_within s t q ne)))

  -- what the first has not, the second has not
  pub around_none : NothingElse e m
      → ((step : Step) (i : ℕ) → nth_part (node_view d n) i ≡ Some step
      → tree_of d (at (node_place d n) step) ≡ None → ⊥)
      → SameButOrder (Some (node_view d n)) (Some (node_view e m))
      → tree_of d (at (node_place d n) s) ≡ None
      → tree_of e (at (node_place e m) s) ≡ None
  around_none else_e stands views none =
      else_e s (λ i h. let r = (order_free (node_view d n) (node_view e m) views).back s i h in
      stands s r.0 r.1 none)

-- ---- along a place

pub unordered_more : (p r : Place) (old new : Tree) → SameButOrderBeside p old new
    → SameButOrderBeside r (λ q. old (p ++ q)) (λ q. new (p ++ q)) → SameButOrderBeside (p ++ r) old new
unordered_more p r old new front back q out = elim (within_split p r q out) [
  | inl h ↦ front q h
  | inr k ↦ subst (λ z. SameButOrder (old z) (new z)) (sym k.1) (back k.0 k.2)
]

pub unordered_front : (p r : Place) (old new : Tree) → SameButOrderBeside (p ++ r) old new
    → SameButOrderBeside p old new
unordered_front p r old new h q out = h q (within_front p r q out)

pub unordered_back : (p r : Place) (old new : Tree) → SameButOrderBeside (p ++ r) old new
    → SameButOrderBeside r (λ q. old (p ++ q)) (λ q. new (p ++ q))
unordered_back p r old new h q out = h (p ++ q) (within_back p r q ∙ out)

pub unordered_goes : GoesAlong SameButOrderBeside
unordered_goes = record { more = unordered_more; front = unordered_front; back = unordered_back }
