-- Two nodes whose trees are equal except for the order of members.
use Rattle.std.proofs.Common.{◌≡◌, ℕ, ◌+◌, ◌<◌, [], ◌∷◌, ◌++◌, Option, Some, None, sym, ap, subst, ◌∙◌, inl, inr, arith, append-nil}
use Rattle.std.proofs.lemmas.Bool.{cases_lt}
use Rattle.std.proofs.lemmas.Option.{same_Some}
use Rattle.edit_tree.specs.Assertions.{Step, Place, at}
use Rattle.edit_tree.specs.Tree.{View}
use Rattle.edit_tree.specs.DocumentViews.{DocumentViews, tree_of}
use Rattle.edit_document.specs.Items.{node_place, node_view, count_in, IsNodeIndex}
use Rattle.edit_tree.specs.IntendedTrees.{SameButOrder, same}
use Rattle.edit_document.specs.Compared.{nth_part, IsChildIndex, SameButOrderBelow}
use Rattle.edit_document.proofs.SameParts.{part_or, part_less, one_down, NothingElse, NoneBelow}
use Rattle.edit_compare.proofs.UnorderedViews.{order_free, free_none, At, Stood}

-- ---- below

-- of the first parts each shows the same but for the order of members
abbrev pub UnorderedParts : DocumentViews → ℕ → DocumentViews → ℕ → ℕ → Type 0
UnorderedParts d n e m count =
    (j : ℕ) (t : Step) → j < count → nth_part (node_view d n) j ≡ Some t
    → SameButOrderBelow d (at (node_place d n) t) e (at (node_place e m) t)

module _ (d : DocumentViews) (n : ℕ) (e : DocumentViews) (m : ℕ) (here : At d n) (there : At e m) where
  pub unordered_all : NoneBelow d → NoneBelow e → NothingElse d n → NothingElse e m
      → SameButOrder (Some (node_view d n)) (Some (node_view e m))
      → UnorderedParts d n e m (count_in (node_view d n))
      → SameButOrderBelow d (node_place d n) e (node_place e m)
  unordered_all below_d below_e else_d else_e views parts [] =
      subst (λ (o : Option View). SameButOrder o (tree_of e (node_place e m ++ [])))
      (sym (ap (tree_of d) (append-nil (node_place d n)) ∙ here))
      (subst (λ (o : Option View). SameButOrder (Some (node_view d n)) o)
      (sym (ap (tree_of e) (append-nil (node_place e m)) ∙ there)) views)
  unordered_all below_d below_e else_d else_e views parts (t ∷ q) =
      elim (part_or (node_view d n) t (count_in (node_view d n))) [
        | inl k ↦
            subst (λ (o : Option View). SameButOrder o (tree_of e (node_place e m ++ t ∷ q)))
            (one_down d (node_place d n) t q)
            (subst (λ (o : Option View). SameButOrder (tree_of d (at (node_place d n) t ++ q)) o)
            (one_down e (node_place e m) t q)
            (parts k.0 t k.1 k.2 q))
        | inr none ↦
            let absent : (i : ℕ) → nth_part (node_view d n) i ≡ Some t → ⊥ =
            λ i h. none i (part_less (node_view d n) i t h) h in
            let free = order_free (node_view d n) (node_view e m) views in
            let left : tree_of d (node_place d n ++ t ∷ q) ≡ None =
            sym (one_down d (node_place d n) t q) ∙ below_d (at (node_place d n) t) q
            (else_d t absent) in
            let right : tree_of e (node_place e m ++ t ∷ q) ≡ None =
            sym (one_down e (node_place e m) t q)
            ∙ below_e (at (node_place e m) t) q (else_e t (λ i h. let r = free.back t i h in
            absent r.0 r.1)) in
            subst (λ (o : Option View). SameButOrder o (tree_of e (node_place e m ++ t ∷ q))) (sym left)
            (subst (λ (o : Option View). SameButOrder None o) (sym right) (same None))
      ]

  pub unordered_here : SameButOrderBelow d (node_place d n) e (node_place e m)
      → SameButOrder (Some (node_view d n)) (Some (node_view e m))
  unordered_here h =
      subst (λ (o : Option View). SameButOrder o (Some (node_view e m)))
      (ap (tree_of d) (append-nil (node_place d n)) ∙ here)
      (subst (λ (o : Option View). SameButOrder (tree_of d (node_place d n ++ [])) o)
      (ap (tree_of e) (append-nil (node_place e m)) ∙ there) (h []))

module _ (d : DocumentViews) (n : ℕ) (e : DocumentViews) (m : ℕ) where
  pub unordered_part : (t : Step) → SameButOrderBelow d (node_place d n) e (node_place e m)
      → SameButOrderBelow d (at (node_place d n) t) e (at (node_place e m) t)
  unordered_part t h q =
      subst (λ (o : Option View). SameButOrder o (tree_of e (at (node_place e m) t ++ q)))
      (sym (one_down d (node_place d n) t q))
      (subst (λ (o : Option View). SameButOrder (tree_of d (node_place d n ++ t ∷ q)) o)
      (sym (one_down e (node_place e m) t q))
      (h (t ∷ q)))

  abbrev Counterpart : ℕ → Option ℕ → Type 0
  Counterpart i r = (t : Step) → nth_part (node_view d n) i ≡ Some t
      → IsNodeIndex e (at (node_place e m) t) r

  -- the numbered parts show the same but for the order, where the nodes do
  pub unordered_down : (i a b : ℕ) → IsChildIndex d n i (Some a) → Counterpart i (Some b)
      → SameButOrderBelow d (node_place d n) e (node_place e m)
      → SameButOrderBelow d (node_place d a) e (node_place e b)
  unordered_down i a b (t, pt, la, pa) other h =
      subst (λ (p : Place). SameButOrderBelow d p e (node_place e b)) (sym pa)
      (subst (λ (r : Place). SameButOrderBelow d (at (node_place d n) t) e r) (sym (other t pt).1)
      (unordered_part t h))

  pub unordered_more : (i a b : ℕ) → IsChildIndex d n i (Some a) → Counterpart i (Some b)
      → SameButOrderBelow d (node_place d a) e (node_place e b) → UnorderedParts d n e m i
      → UnorderedParts d n e m (i + 1)
  unordered_more i a b (t, pt, la, pa) other h parts j s lt ps = elim (cases_lt j i) [
    | inl less ↦ parts j s less ps
    | inr ge ↦
        let is : j ≡ i = omega (arith, lt, ge) in
        let one : t ≡ s = same_Some t s (sym pt ∙ ap (nth_part (node_view d n)) (sym is) ∙ ps) in
        subst (λ (x : Step). SameButOrderBelow d (at (node_place d n) x) e (at (node_place e m) x))
        one
        (subst (λ (p : Place). SameButOrderBelow d p e (at (node_place e m) t)) pa
        (subst (λ (r : Place). SameButOrderBelow d (node_place d a) e r) (other t pt).1 h))
  ]

  -- a part without a counterpart
  pub unordered_lacks : (i a : ℕ) → IsChildIndex d n i (Some a) → Stood d n → Counterpart i None
      → SameButOrderBelow d (node_place d n) e (node_place e m) → ⊥
  unordered_lacks i a (t, pt, la, pa) stands other h =
      stands t i pt (ap (tree_of d) (sym (append-nil (at (node_place d n) t)))
      ∙ free_none (tree_of d (at (node_place d n) t ++ [])) (tree_of e (at (node_place e m) t ++ []))
      (unordered_part t h []) (ap (tree_of e) (append-nil (at (node_place e m) t)) ∙ other t pt))
