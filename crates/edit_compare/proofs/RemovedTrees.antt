-- A tree is another one without an item where all outside the innermost table that stays is equal and that
-- table has lost a child.
use Rattle.std.proofs.Common.{◌≡◌, ℕ, true, false, ◌&&◌, if◌then◌else◌, List, [], ◌∷◌, ◌++◌, None, refl, sym, ap, subst, ◌∙◌, ◌⊎◌, inl, inr, true≢false, append_assoc, append-nil}
use Rattle.edit_syntax.specs.Grammar.{Text}
use Rattle.edit_syntax.proofs.Cases.{by_test}
use Rattle.edit_tree.specs.Assertions.{Place, Step, key, at, same_step, assertions}
use Rattle.edit_tree.specs.EditBytes.{is_within}
use Rattle.edit_document.specs.ItemRemoval.{SameButOrderBeside, LosesPart, IsLeft, IsLost}
use Rattle.edit_tree.specs.IntendedTrees.{Tree, place_after_removal, Loses, SameButOrder, same, is_member, Removed}
use Rattle.edit_tree.specs.Tree.{kind_at, view_in}
use Rattle.edit_compare.proofs.Besides.{within_back}
use Rattle.edit_tree.proofs.HeadedPlaces.{inside_self, inside_more, inside_trans}
use Rattle.edit_compare.proofs.RemainingParts.{apart_ways}
use Rattle.edit_tree.proofs.SamePlace.{same_step_self, same_step_is}
use Rattle.edit_tree.proofs.StayingWays.{on_one_way}
use Rattle.edit_compare.proofs.LeftAround.{within_rest, moved_step, moved_back, moved_else, moved_flat, member_back, cancel, flat, up, nothing_else, one_front}

module _ (form : Text) (q : Place) (t : Step) (r : Place)
    (stood : (p : Place) → (p ≡ [] → ⊥) → is_within p (q ++ t ∷ r) ≡ true → kind_at (assertions form) p ≡ None
    → ⊥)
    (left : IsLeft form (q ++ t ∷ r) q) (lost : IsLost form (q ++ t ∷ r) (at q t)) where
  whole_way : is_within q (q ++ t ∷ r) ≡ true
  whole_way = inside_more q q (t ∷ r) (inside_self q)

  -- what is beside the table is not in the item
  not_in : (p : Place) → is_within q p ≡ false → is_within (q ++ t ∷ r) p ≡ false
  not_in p out = by_test (is_within (q ++ t ∷ r) p)
      (λ e. absurd (true≢false (sym (inside_trans q (q ++ t ∷ r) p whole_way e) ∙ out))) (λ e. e)

  -- a table around the item that is not in the innermost one that stays has a part that stays
  part_stays : (p : Place) (s : Step) (k : Place) → q ++ t ∷ r ≡ p ++ s ∷ k → is_within q p ≡ false
      → IsLeft form (q ++ t ∷ r) (at p s)
  part_stays p s k e out = elim (on_one_way p q (q ++ t ∷ r) way whole_way) [
    | inl low ↦ (let m = within_rest p q low in go m.0 m.1)
    | inr low ↦ absurd (true≢false (sym low ∙ out))
  ]
    where
      way : is_within p (q ++ t ∷ r) ≡ true
      way = ap (λ z. is_within p z) e ∙ inside_more p p (s ∷ k) (inside_self p)

      go : (m : Place) → q ≡ p ++ m → IsLeft form (q ++ t ∷ r) (at p s)
      go [] h = absurd (true≢false (sym (ap (λ z. is_within z p) (h ∙ append-nil p) ∙ inside_self p) ∙ out))
      go (u ∷ us) h =
          let rest : s ∷ k ≡ u ∷ (us ++ t ∷ r) = cancel p (s ∷ k) (u ∷ (us ++ t ∷ r))
          (sym e ∙ ap (λ z. z ++ t ∷ r) h ∙ append_assoc p (u ∷ us) (t ∷ r)) in
          let step : s ≡ u = cc in
          up form (q ++ t ∷ r) (at p s) q left
          (ap (λ z. is_within (at p s) z)
          (h ∙ ap (λ z. p ++ z ∷ us) (sym step) ∙ sym (append_assoc p (s ∷ []) us)) ∙
          inside_more (at p s) (at p s) us (inside_self (at p s)))

  module _ (old new : Tree) (shows : (p : Place) → old p ≡ view_in (assertions form) p) where
    -- ---- the tables by what is removed

    pub removed_beside : Removed form (q ++ t ∷ r) old new → SameButOrderBeside q old new
    removed_beside h p out = by_test (is_within p (q ++ t ∷ r))
        (λ low. let m = within_rest p (q ++ t ∷ r) low in around m.0 m.1)
        (λ high. subst (λ z. SameButOrder (old p) (new z)) (moved_else q t r p out)
        (h.beside p (not_in p out) high))
      where
        around : (m : Place) → q ++ t ∷ r ≡ p ++ m → SameButOrder (old p) (new p)
        around [] e = absurd (true≢false
            (sym (ap (λ z. is_within z p) (e ∙ append-nil p) ∙ inside_self p) ∙ not_in p out))
        around (s ∷ k) e = h.stays p s k e (part_stays p s k e out)

    pub removed_part : Removed form (q ++ t ∷ r) old new
        → LosesPart t (λ k. old (q ++ k)) (λ k. new (q ++ k))
    removed_part h = record {
      here = subst (λ p. Loses t (old p) (new p)) (sym (append-nil q)) (h.loses q t r refl left lost);
      nothing_there = λ member. gone r refl member;
      elsewhere = λ s k ne.
          subst (λ z. SameButOrder (old (q ++ s ∷ k)) (new z))
          (moved_back q t r (s ∷ k) ∙
          ap (λ z. q ++ z) (moved_flat t s r k ne (flat form q t r stood lost)))
          (h.beside (q ++ s ∷ k) (apart_ways q t s r k (λ e. ne (sym e))) (apart_ways q s t k r ne));
    }
      where
        gone : (rest : Place) → r ≡ rest → is_member (t ∷ []) ≡ true → new (at q t) ≡ None
        gone [] e member =
            let is : q ++ t ∷ r ≡ at q t = ap (λ z. q ++ t ∷ z) e in
            h.nothing_there (ap is_member is ∙ member_back q t ∙ member) (at q t)
            (ap (λ z. is_within z (at q t)) is ∙ inside_self (at q t))
        gone (u ∷ us) e member = h.vanishes (at q t) u us
            (ap (λ z. q ++ t ∷ z) e ∙ sym (append_assoc q (t ∷ []) (u ∷ us))) lost

    -- ---- what is removed by the tables

    module _ (beside : SameButOrderBeside q old new)
        (part : LosesPart t (λ k. old (q ++ k)) (λ k. new (q ++ k)))
        (deep : (p k : Place) → new p ≡ None → new (p ++ k) ≡ None) where
      nothing_at : is_member (t ∷ []) ≡ true → (k : Place) → new (at q t ++ k) ≡ None
      nothing_at member k = deep (at q t) k (part.nothing_there member)

      is_named : (r ≡ []) ⊎ ((n : List ℕ) × (t ≡ key n)) → is_member (q ++ t ∷ r) ≡ true
          → is_member (t ∷ []) ≡ true
      is_named (inl f) member = sym (member_back q t) ∙ ap (λ z. is_member (q ++ t ∷ z)) (sym f) ∙ member
      is_named (inr n) member = ap (λ z. is_member (z ∷ [])) n.1

      by_name : (u : Step) (us : Place) → r ≡ u ∷ us → is_member (t ∷ []) ≡ true
      by_name u us e = elim (flat form q t r stood lost) [
        | inl f ↦ absurd (let clash : u ∷ us ≡ [] = sym e ∙ f in cc)
        | inr n ↦ ap (λ z. is_member (z ∷ [])) n.1
      ]

      -- below the part that is lost nothing else stood, and nothing stands
      below_case : (k : Place) → is_within (q ++ t ∷ r) (q ++ t ∷ k) ≡ false
          → is_within (q ++ t ∷ k) (q ++ t ∷ r) ≡ false
          → SameButOrder (old (q ++ t ∷ k)) (new (place_after_removal (q ++ t ∷ r) (q ++ t ∷ k)))
      below_case k out high = go r refl
        where
          place : at q t ++ k ≡ q ++ t ∷ k
          place = append_assoc q (t ∷ []) k

          nothing : old (q ++ t ∷ k) ≡ None
          nothing = shows (q ++ t ∷ k) ∙ ap (view_in (assertions form)) (sym place) ∙
              nothing_else form (q ++ t ∷ r) q t k lost
              (ap (λ z. is_within (q ++ t ∷ r) z) place ∙ out)
              (ap (λ z. is_within z (q ++ t ∷ r)) place ∙ high)

          go : (rest : Place) → r ≡ rest
              → SameButOrder (old (q ++ t ∷ k)) (new (place_after_removal (q ++ t ∷ r) (q ++ t ∷ k)))
          go [] e =
              let low : is_within (q ++ t ∷ r) (q ++ t ∷ k) ≡ true =
              within_back q (t ∷ r) (t ∷ k) ∙ ap (λ z. same_step t t && is_within z k) e ∙
              ap (λ b. b && true) (same_step_self t) in
              absurd (true≢false (sym low ∙ out))
          go (u ∷ us) e =
              let to : place_after_removal (q ++ t ∷ r) (q ++ t ∷ k) ≡ at q t ++ place_after_removal (u ∷ us) k =
              moved_back q t r (t ∷ k) ∙ ap (λ z. q ++ place_after_removal (t ∷ z) (t ∷ k)) e
              ∙ ap (λ z. q ++ z) (moved_step t u t us k ∙
              ap (λ b. t ∷ (if b then place_after_removal (u ∷ us) k else k)) (same_step_self t))
              ∙ sym (append_assoc q (t ∷ []) (place_after_removal (u ∷ us) k)) in
              let none : new (place_after_removal (q ++ t ∷ r) (q ++ t ∷ k)) ≡ None = ap new to ∙
              nothing_at (by_name u us e) (place_after_removal (u ∷ us) k) in
              subst (λ o. SameButOrder o (new (place_after_removal (q ++ t ∷ r) (q ++ t ∷ k)))) (sym nothing)
              (subst (λ o. SameButOrder None o) (sym none) (same None))

      inner_case : (k : Place) → is_within (q ++ t ∷ r) (q ++ k) ≡ false
          → is_within (q ++ k) (q ++ t ∷ r) ≡ false
          → SameButOrder (old (q ++ k)) (new (place_after_removal (q ++ t ∷ r) (q ++ k)))
      inner_case [] out high = absurd (true≢false
          (sym (ap (λ z. is_within z (q ++ t ∷ r)) (append-nil q) ∙ whole_way) ∙ high))
      inner_case (s ∷ k) out high = by_test (same_step s t)
          (λ e. subst (λ z. is_within (q ++ t ∷ r) (q ++ z ∷ k) ≡ false
          → is_within (q ++ z ∷ k) (q ++ t ∷ r) ≡ false
          → SameButOrder (old (q ++ z ∷ k)) (new (place_after_removal (q ++ t ∷ r) (q ++ z ∷ k))))
          (sym (same_step_is s t e)) (below_case k) out high)
          (λ e.
          let ne : s ≡ t → ⊥ = λ f. true≢false (sym (ap (λ z. same_step z t) f ∙ same_step_self t) ∙ e) in
          subst (λ z. SameButOrder (old (q ++ s ∷ k)) (new z))
          (sym (moved_back q t r (s ∷ k) ∙
          ap (λ z. q ++ z) (moved_flat t s r k ne (flat form q t r stood lost))))
          (part.elsewhere s k ne))

      -- a table around the item in which the next part stays is beside the innermost one that stays
      is_beside : (p : Place) (s : Step) (k : Place) → q ++ t ∷ r ≡ p ++ s ∷ k
          → IsLeft form (q ++ t ∷ r) (at p s) → is_within q p ≡ false
      is_beside p s k e next = by_test (is_within q p) (λ low. let m = within_rest q p low in go m.0 m.1)
          (λ high. high)
        where
          go : (m : Place) → p ≡ q ++ m → is_within q p ≡ false
          go [] h =
              let same : p ≡ q = h ∙ append-nil q in
              let rest : t ∷ r ≡ s ∷ k = cancel q (t ∷ r) (s ∷ k) (e ∙ ap (λ z. z ++ s ∷ k) same) in
              let step : t ≡ s = cc in
              absurd (next (subst (λ z. IsLost form (q ++ t ∷ r) (at z s)) (sym same)
              (subst (λ z. IsLost form (q ++ t ∷ r) (at q z)) step lost)))
          go (u ∷ us) h =
              let rest : t ∷ r ≡ u ∷ (us ++ s ∷ k) = cancel q (t ∷ r) (u ∷ (us ++ s ∷ k))
              (e ∙ ap (λ z. z ++ s ∷ k) h ∙ append_assoc q (u ∷ us) (s ∷ k)) in
              let step : t ≡ u = cc in
              let inner : is_within (at q t) (at p s) ≡ true =
              inside_more (at q t) p (s ∷ []) (ap (λ z. is_within (at q t) z)
              (h ∙ ap (λ z. q ++ z ∷ us) (sym step) ∙ sym (append_assoc q (t ∷ []) us)) ∙
              inside_more (at q t) (at q t) us (inside_self (at q t))) in
              absurd (up form (q ++ t ∷ r) (at q t) (at p s) next inner lost)

      -- what vanishes around the item is the part that is lost, or stands below it
      vanish_case : (p : Place) (s : Step) (k : Place) → q ++ t ∷ r ≡ p ++ s ∷ k
          → IsLost form (q ++ t ∷ r) p → new p ≡ None
      vanish_case p s k e gone = elim (on_one_way p q (q ++ t ∷ r)
          (ap (λ z. is_within p z) e ∙ inside_more p p (s ∷ k) (inside_self p)) whole_way) [
            | inl low ↦ absurd (up form (q ++ t ∷ r) p q left low gone)
            | inr low ↦ (let m = within_rest q p low in go m.0 m.1)
          ]
        where
          go : (m : Place) → p ≡ q ++ m → new p ≡ None
          go [] h = absurd (left (subst (λ z. IsLost form (q ++ t ∷ r) z) (h ∙ append-nil q) gone))
          go (u ∷ us) h =
              let rest : t ∷ r ≡ u ∷ (us ++ s ∷ k) = cancel q (t ∷ r) (u ∷ (us ++ s ∷ k))
              (e ∙ ap (λ z. z ++ s ∷ k) h ∙ append_assoc q (u ∷ us) (s ∷ k)) in
              let step : t ≡ u = cc in
              let more : r ≡ us ++ s ∷ k = cc in
              ap new (h ∙ ap (λ z. q ++ z ∷ us) (sym step) ∙ sym (append_assoc q (t ∷ []) us)) ∙
              nothing_at (longer us more) us
            where
              longer : (us : Place) → r ≡ us ++ s ∷ k → is_member (t ∷ []) ≡ true
              longer [] f = by_name s k f
              longer (x ∷ xs) f = by_name x (xs ++ s ∷ k) f

      pub removed_tree : Removed form (q ++ t ∷ r) old new
      removed_tree = record {
        nothing_there = λ member p low.
            (let k = within_rest (q ++ t ∷ r) p low in
            ap new (k.1 ∙ ap (λ z. z ++ k.0) (sym (append_assoc q (t ∷ []) r)) ∙
            append_assoc (at q t) r k.0) ∙
            nothing_at (is_named (flat form q t r stood lost) member) (r ++ k.0));
        beside = λ p out high. by_test (is_within q p)
            (λ low. (let k = within_rest q p low in
            subst (λ z. is_within (q ++ t ∷ r) z ≡ false → is_within z (q ++ t ∷ r) ≡ false
            → SameButOrder (old z) (new (place_after_removal (q ++ t ∷ r) z))) (sym k.1) (inner_case k.0) out high))
            (λ apart. subst (λ z. SameButOrder (old p) (new z)) (sym (moved_else q t r p apart))
            (beside p apart));
        stays = λ p s k e next. beside p (is_beside p s k e next);
        loses = λ p s k e stay gone.
            (let is = one_front form (q ++ t ∷ r) q p t s r k refl e left lost stay gone in
            subst (λ z. Loses s (old z) (new z)) is.0
            (subst (λ z. Loses z (old q) (new q)) is.1
            (subst (λ z. Loses t (old z) (new z)) (append-nil q) part.here)));
        vanishes = λ p s k e gone. vanish_case p s k e gone;
      }
