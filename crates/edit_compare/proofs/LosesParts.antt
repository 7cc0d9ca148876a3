-- The views of two nodes and their children, where the second has lost a child.
use Rattle.std.proofs.Common.{◌≡◌, ℕ, suc, ◌-◌, ◌<◌, ◌≤◌, true, nat_lt, cond, if◌then◌else◌, List, [], ◌∷◌, ◌++◌, Some, None, refl, sym, ap, subst, ◌∙◌, inl, inr, true≢false, arith, append_assoc, append-nil}
use Rattle.std.specs.Prelude.{slice_get}
use Rattle.std.proofs.lemmas.Bool.{cases_lt, lt-ltb}
use Rattle.edit_tree.specs.Assertions.{Step, key, index, Place, at}
use Rattle.edit_document.specs.Compared.{nth_part, element_step, kind_of, tree_below, AreSteps, AreNames, AreKeys, HasNamesOf}
use Rattle.edit_document.specs.Items.{node_place, node_view, names_in, count_in}
use Rattle.edit_document.specs.ItemRemoval.{LosesPart, moved_place, MovedParts, HasNamesBut}
use Rattle.edit_tree.specs.IntendedTrees.{Loses, SameButOrder, same, place_after_removal, is_member}
use Rattle.edit_tree.specs.DocumentViews.{DocumentViews, tree_of}
use Rattle.edit_tree.specs.Tree.{View, string, truth, whole, fractional, moment, static_array, table_array, inline_table, table}
use Rattle.edit_document.proofs.SameParts.{part_or, part_less, one_down, NothingElse, NoneBelow}
use Rattle.edit_compare.proofs.UnorderedViews.{parts_by_names, named_parts}
use Rattle.edit_document.proofs.Wholes.{element_was}
use Rattle.edit_compare.proofs.LosesViews.{moved_one, moved_is, moved_place_is, PartsBut, loses_kind, loses_size, array_of, loses_parts}

-- ---- nodes

abbrev At : DocumentViews → ℕ → Type 0
At d n = tree_of d (node_place d n) ≡ Some (node_view d n)

abbrev Stood : DocumentViews → ℕ → Type 0
Stood d n = (step : Step) (i : ℕ) → nth_part (node_view d n) i ≡ Some step
    → tree_of d (at (node_place d n) step) ≡ None → ⊥

pub part_is : (d : DocumentViews) (n : ℕ) (t : Step) → NothingElse d n
    → (tree_of d (at (node_place d n) t) ≡ None → ⊥)
    → (j : ℕ) × (nth_part (node_view d n) j ≡ Some t)
part_is d n t nothing some = elim (part_or (node_view d n) t (count_in (node_view d n))) [
  | inl k ↦ (k.0, k.2)
  | inr none ↦ absurd (some (nothing t (λ i h. none i (part_less (node_view d n) i t h) h)))
]

module _ (d : DocumentViews) (n : ℕ) (e : DocumentViews) (m : ℕ) (t : Step) where
  -- by names
  pub parts_but : 8 ≤ kind_of (node_view d n) → kind_of (node_view d n) ≡ kind_of (node_view e m)
      → NothingElse d n → NothingElse e m → Stood e m → AreSteps (node_view e m)
      → AreNames (node_view e m)
      → AreKeys (node_view d n) → AreKeys (node_view e m)
      → HasNamesBut t d n e m → HasNamesOf e m d n → tree_of e (at (node_place e m) t) ≡ None
      → PartsBut t (node_view d n) (node_view e m)
  parts_but big kind else_d else_e stood_e steps_e names_e keys_d keys_e but has absent = record {
    there = λ s i h ne.
        (let k = named_parts (node_view d n) big keys_d i s h in
        part_is e m s else_e
        (λ none. but i k.0 k.1 (λ f. ne (k.2 ∙ f))
        (ap (λ z. tree_of e (at (node_place e m) z)) (sym k.2) ∙ none)));
    back = parts_by_names e m d n else_d steps_e names_e
        (named_parts (node_view e m) (subst (λ k. 8 ≤ k) kind big) keys_e) has;
    none = λ j h. stood_e t j h absent;
  }

  pub names_but : Stood e m → AreNames (node_view d n)
      → PartsBut t (node_view d n) (node_view e m) → HasNamesBut t d n e m
  names_but stood names parts i name h ne none =
      let p = parts.there (key name) i (names i name h) ne in stood (key name) p.0 p.1 none

  -- ---- below

  module _ (here : At d n) (there : At e m) where
    pub part_view : LosesPart t (tree_below d (node_place d n)) (tree_below e (node_place e m))
        → Loses t (Some (node_view d n)) (Some (node_view e m))
    part_view h =
        subst (λ o. Loses t o (Some (node_view e m))) (ap (tree_of d) (append-nil (node_place d n)) ∙
        here)
        (subst (λ o. Loses t (tree_of d (node_place d n ++ [])) o)
        (ap (tree_of e) (append-nil (node_place e m)) ∙ there) h.here)

    pub part_parts : LosesPart t (tree_below d (node_place d n)) (tree_below e (node_place e m))
        → MovedParts t d n e m
    part_parts h i s part ne q =
        subst (λ p. SameButOrder (tree_of d p) (tree_of e (moved_place t (node_place e m) s ++ q)))
        (sym (append_assoc (node_place d n) (s ∷ []) q))
        (subst (λ p. SameButOrder (tree_of d (node_place d n ++ s ∷ q)) (tree_of e p)) (moved_to s q)
        (h.elsewhere s q ne))
      where
        moved_to : (s : Step) (q : Place) → node_place e m ++ place_after_removal (t ∷ []) (s ∷ q)
            ≡ moved_place t (node_place e m) s ++ q
        moved_to s q =
            ap (λ z. node_place e m ++ z) (moved_is t s q) ∙
            sym (append_assoc (node_place e m) (moved_one t s ∷ []) q)
            ∙ ap (λ z. z ++ q) (sym (moved_place_is t (node_place e m) s))

    -- what is no part of the first has no counterpart
    no_counterpart : (k : ℕ) → nth_part (node_view d n) k ≡ Some t → AreKeys (node_view d n)
        → Loses t (Some (node_view d n)) (Some (node_view e m)) → (s : Step) → (s ≡ t → ⊥)
        → ((i : ℕ) → nth_part (node_view d n) i ≡ Some s → ⊥) → (j : ℕ)
        → nth_part (node_view e m) j ≡ Some (moved_one t s) → ⊥
    no_counterpart k part keys loses s ne none j h =
        elim (cases_lt (kind_of (node_view d n)) 8) [
          | inl small ↦
              let x = array_of (node_view d n) k t small part in
              let less = subst (λ (z : ℕ). z < 8) (loses_kind t (node_view d n) (node_view e m) loses)
              small in
              let y = array_of (node_view e m) j (moved_one t s) less h in
              counts x.0 y.0 (sym x.1 ∙ loses_size t (node_view d n) (node_view e m) loses ∙
              ap suc y.1)
              (sym (x.2 k) ∙ part) (λ i f. none i (x.2 i ∙ f)) (sym (y.2 j) ∙ h)
          | inr big ↦
              let name = named_parts (node_view d n) big keys k t part in
              let still : moved_one t s ≡ s = ap (λ z. moved_one z s) name.2 ∙ unmoved s name.0 in
              let r = (loses_parts t (node_view d n) (node_view e m) loses big).back s j
              (h ∙ ap Some still) in
              none r.0 r.1
        ]
      where
        unmoved : (s : Step) (name : List ℕ) → moved_one (key name) s ≡ s
        unmoved (key l) name = refl
        unmoved (index i) name = refl

        counts : (a b : ℕ) → a ≡ suc b → element_step a k ≡ Some t → ((i : ℕ) → element_step a i ≡ Some s → ⊥)
            → element_step b j ≡ Some (moved_one t s) → ⊥
        counts a b size part absent h = go s refl (element_was b j (moved_one t s) h)
          where
            p : (k < a) × (t ≡ index k)
            p = element_was a k t part

            go : (u : Step) → s ≡ u → (j < b) × (moved_one t s ≡ index j) → ⊥
            go (key l) e r = let clash : key l ≡ index j = ap (moved_one t) (sym e) ∙ r.1 in cc
            go (index i) e r = elim (cases_lt i a) [
              | inl lt ↦ absent i (ap (λ c. cond c (Some (index i)) None) (lt-ltb i a lt) ∙ ap Some (sym e))
              | inr ge ↦
                  let less : nat_lt k i ≡ true = lt-ltb k i (let l = p.0 in omega (arith, l, ge)) in
                  let to : index (i - 1) ≡ index j =
                  sym (ap (λ z. moved_one z (index i)) p.1 ∙ ap (λ c. index (if c then i - 1 else i)) less) ∙
                  ap (moved_one t) (sym e) ∙ r.1 in
                  let number : i - 1 ≡ j = cc in
                  (let l = r.0 in omega (arith, l, ge, size, number))
            ]

    pub part_all : NoneBelow d → NoneBelow e → NothingElse d n → NothingElse e m → AreKeys (node_view d n)
        → (tree_of d (at (node_place d n) t) ≡ None → ⊥) → AreSteps (node_view d n)
        → Loses t (Some (node_view d n)) (Some (node_view e m)) → MovedParts t d n e m
        → LosesPart t (tree_below d (node_place d n)) (tree_below e (node_place e m))
    part_all below_d below_e else_d else_e keys stood steps loses parts = record {
      here = subst (λ o. Loses t o (tree_of e (node_place e m ++ [])))
          (sym (ap (tree_of d) (append-nil (node_place d n)) ∙ here))
          (subst (λ o. Loses t (Some (node_view d n)) o)
          (sym (ap (tree_of e) (append-nil (node_place e m)) ∙ there)) loses);
      nothing_there = λ member. nothing t refl member;
      elsewhere = λ s q ne. other s q ne;
    }
      where
        k : (j : ℕ) × (nth_part (node_view d n) j ≡ Some t)
        k = part_is d n t else_d stood

        nothing : (u : Step) → t ≡ u → is_member (t ∷ []) ≡ true
            → tree_of e (node_place e m ++ t ∷ []) ≡ None
        nothing (index i) is member = absurd (true≢false (sym member ∙ ap (λ z. is_member (z ∷ [])) is))
        nothing (key name) is member = elim (cases_lt (kind_of (node_view d n)) 8) [
          | inl small ↦ absurd (elim (steps k.0 t k.1) [
            | inl a ↦ no_names (node_view d n) k.0 a.0 small a.1
            | inr a ↦ (let clash : key name ≡ index k.0 = sym is ∙ a.1 in cc)
          ])
          | inr big ↦ else_e t
              (λ j h. (loses_parts t (node_view d n) (node_view e m) loses big).none j h)
        ]
          where
            no_names : (v : View) (i : ℕ) (l : List ℕ) → kind_of v < 8 → slice_get (names_in v) i ≡ Some l → ⊥
            no_names (inline_table ms) i l small h = omega (arith, small)
            no_names (table ms) i l small h = omega (arith, small)
            no_names (static_array a) i l small h = cc
            no_names (table_array a) i l small h = cc
            no_names (string b) i l small h = cc
            no_names (truth b) i l small h = cc
            no_names (whole b) i l small h = cc
            no_names (fractional b) i l small h = cc
            no_names (moment b) i l small h = cc

        to : (s : Step) (q : Place) → moved_place t (node_place e m) s ++ q
            ≡ node_place e m ++ place_after_removal (t ∷ []) (s ∷ q)
        to s q =
            ap (λ z. z ++ q) (moved_place_is t (node_place e m) s) ∙
            append_assoc (node_place e m) (moved_one t s ∷ []) q
            ∙ ap (λ z. node_place e m ++ z) (sym (moved_is t s q))

        other : (s : Step) (q : Place) → (s ≡ t → ⊥)
            → SameButOrder (tree_of d (node_place d n ++ s ∷ q))
            (tree_of e (node_place e m ++ place_after_removal (t ∷ []) (s ∷ q)))
        other s q ne = elim (part_or (node_view d n) s (count_in (node_view d n))) [
          | inl a ↦
              subst (λ p. SameButOrder (tree_of d (node_place d n ++ s ∷ q)) (tree_of e p)) (to s q)
              (subst (λ o. SameButOrder o (tree_of e (moved_place t (node_place e m) s ++ q)))
              (one_down d (node_place d n) s q)
              (parts a.0 s a.2 ne q))
          | inr none ↦
              let absent : (i : ℕ) → nth_part (node_view d n) i ≡ Some s
              → ⊥ = λ i h. none i (part_less (node_view d n) i s h) h in
              let left : tree_of d (node_place d n ++ s ∷ q) ≡ None =
              sym (one_down d (node_place d n) s q) ∙
              below_d (at (node_place d n) s) q (else_d s absent) in
              let right : tree_of e (node_place e m ++ place_after_removal (t ∷ []) (s ∷ q)) ≡ None =
              ap (tree_of e) (sym (to s q) ∙ ap (λ z. z ++ q) (moved_place_is t (node_place e m) s))
              ∙ below_e (at (node_place e m) (moved_one t s)) q
              (else_e (moved_one t s) (λ j h. no_counterpart k.0 k.1 keys loses s ne absent j h)) in
              subst (λ o. SameButOrder o (tree_of e (node_place e m ++ place_after_removal (t ∷ []) (s ∷ q))))
              (sym left)
              (subst (λ o. SameButOrder None o) (sym right) (same None))
        ]
