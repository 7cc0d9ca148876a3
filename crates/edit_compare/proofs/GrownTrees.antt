-- A tree with one more member in a table: equal outside the table, and the table has one more member.
use Rattle.std.proofs.Common.{◌≡◌, ℕ, Bool, true, false, List, [], ◌∷◌, ◌++◌, Option, Some, None, refl, sym, ap, subst, ◌∙◌, inl, inr, append_assoc, append-nil}
use Rattle.std.specs.Bool.{Decides}
use Rattle.edit_tree.specs.Assertions.{Step, key, Place, at, same_place}
use Rattle.edit_tree.specs.EditBytes.{is_within}
use Rattle.edit_tree.specs.Tree.{View}
use Rattle.edit_tree.specs.NewItems.{NewValue}
use Rattle.edit_tree.specs.IntendedTrees.{Tree, Grown, Inserted}
use Rattle.edit_tree.specs.DocumentViews.{DocumentViews, tree_of}
use Rattle.edit_document.specs.Items.{node_place, node_view, count_in}
use Rattle.edit_document.specs.Compared.{tree_below, SameBeside, SamePart, FindsBeside, nth_part, ShowsValue}
use Rattle.edit_tree.proofs.SamePlace.{same_place_self, other_place}
use Rattle.edit_document.proofs.SameParts.{part_or, part_less, one_down, NothingElse, NoneBelow}
use Rattle.edit_compare.proofs.Besides.{within_front, within_back, within_split, within_other, other_within}
use Rattle.edit_compare.proofs.GrownNames.{grown_part, grown_some}

-- ---- places

within_self : (p : Place) → is_within p p ≡ true
within_self p = ap (λ (q : Place). is_within q q) (sym (append-nil p)) ∙ within_back p [] []

other_than : (p q : Place) → is_within p q ≡ false → same_place q p ≡ false
other_than p q out = other_place q p (λ same.
    let clash : false ≡ true = sym out ∙ ap (is_within p) same ∙ within_self p in cc)

longer : (p q : Place) → same_place q [] ≡ false → same_place (p ++ q) p ≡ false
longer p [] e = absurd cc
longer p (s ∷ q) e = other_place (p ++ s ∷ q) p (never p)
  where
    never : (p : Place) → p ++ s ∷ q ≡ p → ⊥
    never [] same = cc
    never (t ∷ p) same = never p (let tails : p ++ s ∷ q ≡ p = cc in tails)

shorter : (p q : Place) → same_place (p ++ q) p ≡ false → same_place q [] ≡ false
shorter p [] e = absurd (let clash : true ≡ false =
    sym (same_place_self p) ∙ ap (λ (q : Place). same_place q p) (sym (append-nil p)) ∙ e in cc)
shorter p (s ∷ q) e = refl

-- ---- trees

module _ (place : Place) (name : List ℕ) (v : NewValue) (old new : Tree) where
  pub inserted_beside : Inserted place name v old new → SameBeside place old new
  inserted_beside h q out = h.elsewhere q (within_front place (key name ∷ []) q out) (other_than place q out)

  pub inserted_inner : Inserted place name v old new
      → Inserted [] name v (λ q. old (place ++ q)) (λ q. new (place ++ q))
  inserted_inner h = record {
    there = λ q. ap new (sym (append_assoc place (key name ∷ []) q)) ∙ h.there q;
    grown = subst (λ (p : Place). Grown (key name) (old p) (new p)) (sym (append-nil place)) h.grown;
    elsewhere = λ q out other. h.elsewhere (place ++ q) (within_back place (key name ∷ []) q ∙ out)
        (longer place q other);
  }

  pub inserted_outer : SameBeside place old new
      → Inserted [] name v (λ q. old (place ++ q)) (λ q. new (place ++ q))
      → Inserted place name v old new
  inserted_outer beside h = record {
    there = λ q. ap new (append_assoc place (key name ∷ []) q) ∙ h.there q;
    grown = subst (λ (p : Place). Grown (key name) (old p) (new p)) (append-nil place) h.grown;
    elsewhere = λ q out other. elim (within_split place (key name ∷ []) q out) [
      | inl apart ↦ beside q apart
      | inr k ↦
          let ne : same_place k.0 [] ≡ false = shorter place k.0
          (ap (λ (p : Place). same_place p place) (sym k.1) ∙ other) in
          ap new k.1 ∙ h.elsewhere k.0 k.2 ne ∙ ap old (sym k.1)
    ];
  }

-- ---- nodes

abbrev At : DocumentViews → ℕ → Type 0
At d n = tree_of d (node_place d n) ≡ Some (node_view d n)

module _ (d : DocumentViews) (n : ℕ) (e : DocumentViews) (m : ℕ) (name : List ℕ) (v : NewValue) (here : At d n)
    (there : At e m) where
  first : tree_below d (node_place d n) [] ≡ Some (node_view d n)
  first = ap (tree_of d) (append-nil (node_place d n)) ∙ here

  second : tree_below e (node_place e m) [] ≡ Some (node_view e m)
  second = ap (tree_of e) (append-nil (node_place e m)) ∙ there

  pub inserted_here : NoneBelow d → NoneBelow e → NothingElse d n → NothingElse e m
      → ShowsValue e (at (node_place e m) (key name)) v
      → Grown (key name) (Some (node_view d n)) (Some (node_view e m))
      → ((i : ℕ) → SamePart d n e m i)
      → Inserted [] name v (tree_below d (node_place d n)) (tree_below e (node_place e m))
  inserted_here below_d below_e else_d else_e shows grown parts = record {
    there = λ q. sym (one_down e (node_place e m) (key name) q) ∙ shows q;
    grown = subst (λ (o : Option View). Grown (key name) o (tree_below e (node_place e m) [])) (sym first)
        (subst (λ (o : Option View). Grown (key name) (Some (node_view d n)) o) (sym second) grown);
    elsewhere = other;
  }
    where
      none : (t : Step) (q : Place) → (t ≡ key name → ⊥)
          → ((i : ℕ) → nth_part (node_view d n) i ≡ Some t → ⊥)
          → tree_of e (node_place e m ++ t ∷ q) ≡ tree_of d (node_place d n ++ t ∷ q)
      none t q ne no_part =
          sym (one_down e (node_place e m) t q)
          ∙ below_e (at (node_place e m) t) q (else_e t (λ i h.
          let r = grown_part (key name) (node_view d n) (node_view e m) grown t i h ne in
          no_part r.0 r.1))
          ∙ sym (below_d (at (node_place d n) t) q (else_d t no_part)) ∙
          one_down d (node_place d n) t q

      other : (q : Place) → is_within (key name ∷ []) q ≡ false → same_place q [] ≡ false
          → tree_below e (node_place e m) q ≡ tree_below d (node_place d n) q
      other [] out ne = absurd cc
      other (t ∷ q) out ne = elim (part_or (node_view d n) t (count_in (node_view d n))) [
        | inl k ↦
            sym (one_down e (node_place e m) t q) ∙ sym (parts k.0 t k.2 q) ∙
            one_down d (node_place d n) t q
        | inr absent ↦ none t q (within_other (key name) t q out)
            (λ i h. absent i (part_less (node_view d n) i t h) h)
      ]

  -- a table that lacks the member has all its parts in the larger one
  pub inserted_parts : ((step : Step) (i : ℕ) → nth_part (node_view d n) i ≡ Some step
      → tree_of d (at (node_place d n) step) ≡ None → ⊥)
      → tree_of d (at (node_place d n) (key name)) ≡ None
      → Inserted [] name v (tree_below d (node_place d n)) (tree_below e (node_place e m))
      → (i : ℕ) → SamePart d n e m i
  inserted_parts stands absent h i t part q =
      let ne : t ≡ key name → ⊥ = λ same.
      stands t i part (ap (λ (s : Step). tree_of d (at (node_place d n) s)) same ∙ absent) in
      one_down d (node_place d n) t q ∙ sym (h.elsewhere (t ∷ q) (other_within (key name) t q ne) refl)
      ∙ sym (one_down e (node_place e m) t q)

-- ---- documents

abbrev HasGrown : DocumentViews → DocumentViews → Place → List ℕ → NewValue → Type 0
HasGrown d e place name v = Inserted place name v (tree_of d) (tree_of e)

module _ (d e : DocumentViews) (place : Place) (name : List ℕ) (v : NewValue) where
  -- from the nodes of the table to the documents
  pub grown_there : (n m : ℕ) (r : Bool) → FindsBeside place d e (Some (n, m))
      → Decides r (Inserted [] name v (tree_below d (node_place d n)) (tree_below e (node_place e m)))
      → Decides r (HasGrown d e place name v)
  grown_there n m r (beside, left, right) decided =
      let at_left : Decides r (Inserted [] name v (tree_below d place) (tree_below e (node_place e m))) =
      subst (λ (p : Place). Decides r
      (Inserted [] name v (tree_below d p) (tree_below e (node_place e m)))) left.1 decided in
      let both : Decides r (Inserted [] name v (tree_below d place) (tree_below e place)) =
      subst (λ (p : Place). Decides r (Inserted [] name v (tree_below d place) (tree_below e p))) right.1
      at_left in (
        λ t. inserted_outer place name v (tree_of d) (tree_of e) beside (both.0 t),
        λ h. both.1 (inserted_inner place name v (tree_of d) (tree_of e) h),
      )

  pub grown_nowhere : FindsBeside place d e None → HasGrown d e place name v → ⊥
  grown_nowhere finds h =
      grown_some (key name) (tree_of d place) (tree_of e place) h.grown
      (finds (inserted_beside place name v (tree_of d) (tree_of e) h))
