-- Which children of a node stay, by the nodes.
use Rattle.std.proofs.Common.{◌≡◌, ℕ, ◌<◌, ◌≤◌, Bool, true, false, ◌&&◌, ◌||◌, List, [], ◌∷◌, ◌++◌, Option, Some, None, option_map, refl, sym, ap, subst, ◌∙◌, inl, inr, true≢false, arith}
use Rattle.std.specs.List.{list_any}
use Rattle.std.proofs.lemmas.Bool.{and_parts, and_from, or_left, or_right}
use Rattle.std.proofs.lemmas.Option.{same_Some}
use Rattle.edit_syntax.specs.Grammar.{Text}
use Rattle.edit_syntax.proofs.Cases.{by_test}
use Rattle.edit_syntax.proofs.Members.{Among, among_all}
use Rattle.edit_tree.specs.Assertions.{Place, Step, key, index, at, same_step, same_place, Kind, Assertion, assertions}
use Rattle.edit_document.specs.Compared.{nth_part, AreSteps, AreApart}
use Rattle.edit_tree.specs.EditBytes.{is_within}
use Rattle.edit_document.specs.Items.{count_in}
use Rattle.edit_document.specs.ItemRemoval.{is_named, IsRemaining}
use Rattle.edit_tree.specs.IntendedTrees.{assertions_left}
use Rattle.edit_tree.specs.Tree.{View, kind_at, view_of_kind, view_in}
use Rattle.edit_tree.proofs.ElementWays.{are_made}
use Rattle.edit_tree.proofs.Asserters.{Made}
use Rattle.edit_compare.proofs.Besides.{within_back}
use Rattle.edit_tree.proofs.HeadedPlaces.{inside_self, inside_more}
use Rattle.edit_tree.proofs.PairedPlaces.{IsOpen}
use Rattle.edit_tree.proofs.SamePlace.{same_place_is, same_place_self, same_step_is, same_step_self, not_root}
use Rattle.edit_document.proofs.SameParts.{part_less, part_some}
use Rattle.edit_tree.proofs.StayingWays.{kind_among, among_kind, Stays, stays_kind, kind_stays, off_way, up_stays, part_stays}
use Rattle.edit_document.proofs.RemainingNodes.{and_false, own_or}

-- ---- what is left

pub view_none : (xs : List Assertion) (p : Place) → (p ≡ [] → ⊥) → view_in xs p ≡ None → kind_at xs p ≡ None
view_none xs [] ne e = absurd (ne refl)
view_none xs (s ∷ ss) ne e = go (kind_at xs (s ∷ ss)) refl e
  where
    go : (o : Option Kind) → kind_at xs (s ∷ ss) ≡ o → option_map (view_of_kind xs (s ∷ ss)) o ≡ None
        → kind_at xs (s ∷ ss) ≡ None
    go None f g = f
    go (Some k) f g = absurd cc

pub none_view : (xs : List Assertion) (p : Place) → (p ≡ [] → ⊥) → kind_at xs p ≡ None → view_in xs p ≡ None
none_view xs [] ne e = absurd (ne refl)
none_view xs (s ∷ ss) ne e = ap (option_map (view_of_kind xs (s ∷ ss))) e

pub not_longer : (q : Place) (t : Step) (r : Place) → is_within (q ++ t ∷ r) q ≡ false
not_longer [] t r = refl
not_longer (x ∷ q) t r = ap (λ b. same_step x x && b) (not_longer q t r) ∙ and_false (same_step x x)

pub apart_ways : (q : Place) (s t : Step) (us vs : Place) → (s ≡ t → ⊥)
    → is_within (q ++ s ∷ us) (q ++ t ∷ vs) ≡ false
apart_ways q s t us vs ne =
    within_back q (s ∷ us) (t ∷ vs)
    ∙ by_test (same_step s t) (λ e. absurd (ne (same_step_is s t e))) (λ e. ap (λ b. b && is_within us vs) e)

module _ (form : Text) (q : Place) (inner : q ≡ [] → ⊥) (t : Step) where
  made : List Assertion
  made = assertions form

  -- by a named place
  pub named_remains : is_named form q ≡ true → IsRemaining form q t true
  named_remains e r none =
      let a = find (assertions form) e in
      stays_kind (q ++ t ∷ r) (assertions form) (are_made form) q
      (a.0, a.1, a.3, ap (λ z. is_within (q ++ t ∷ r) z) a.2 ∙ not_longer q t r)
      (view_none (assertions_left (q ++ t ∷ r) (assertions form)) q inner none)
    where
      find : (xs : List Assertion) → list_any (λ b. same_place b.by q && same_place b.place q) xs ≡ true
          → (a : Assertion) × Among a xs × (a.by ≡ q) × (a.place ≡ q)
      find [] e = absurd (true≢false (sym e))
      find (x ∷ xs) e = go (same_place x.by q && same_place x.place q) refl e (find xs)
        where
          go : (b : Bool) → (same_place x.by q && same_place x.place q) ≡ b
              → (b || list_any (λ b. same_place b.by q && same_place b.place q) xs) ≡ true
              → (list_any (λ b. same_place b.by q && same_place b.place q) xs ≡ true → (a : Assertion)
              × Among a xs × (a.by ≡ q) × (a.place ≡ q))
              → (a : Assertion) × Among a (x ∷ xs) × (a.by ≡ q) × (a.place ≡ q)
          go true f e ih = let h = and_parts (same_place x.by q) (same_place x.place q) f in
              (x, inl refl, same_place_is x.by q h.0, same_place_is x.place q h.1)
          go false f e ih = let a = ih e in (a.0, inr a.1, a.2, a.3)

  -- by another part
  pub other_remains : (s : Step) → (s ≡ t → ⊥) → (view_in (assertions form) (at q s) ≡ None → ⊥)
      → IsRemaining form q t true
  other_remains s ne stood r none = go (kind_at (assertions form) (at q s)) refl
    where
      go : (o : Option Kind) → kind_at (assertions form) (at q s) ≡ o → ⊥
      go None e = stood (none_view (assertions form) (at q s) (λ root. not_root q s root) e)
      go (Some k) e =
          let a = kind_among (assertions form) (at q s) k e in
          let stay = off_way (q ++ t ∷ r) (assertions form) (are_made form) (at q s)
          (apart_ways q t s r [] (λ is. ne (sym is))) (apart_ways q s t [] r ne) a.0 a.1
          (ap (λ z. is_within (at q s) z) a.2 ∙ inside_self (at q s)) in
          stays_kind (q ++ t ∷ r) (assertions form) (are_made form) q
          (up_stays (q ++ t ∷ r) (assertions form) (are_made form) (at q s) q inner
          (inside_more q q (s ∷ []) (inside_self q)) (a.0, a.1, a.2, stay))
          (view_none (assertions_left (q ++ t ∷ r) (assertions form)) q inner none)

  -- else it is lost with its only part
  pub only_remains : is_named form q ≡ false → ((s : Step) → (view_in (assertions form) (at q s) ≡ None → ⊥)
      → s ≡ t) → IsRemaining form q t false
  only_remains e only r lost = elim (kind_stays (q ++ t ∷ r) (assertions form) (are_made form) q) [
    | inl none ↦ none_view (assertions_left (q ++ t ∷ r) (assertions form)) q inner none
    | inr stay ↦
        let s = part_stays (q ++ t ∷ r) (assertions form) (are_made form) q free stay in
        let is = only s.0 (λ none. among_kind (assertions form) (at q s.0) s.1.0 s.1.1 s.1.2
        (view_none (assertions form) (at q s.0) (λ root. not_root q s.0 root) none)) in
        absurd (stays_kind (q ++ t ∷ r) (assertions form) (are_made form) (at q t)
        (subst (λ z. Stays (q ++ t ∷ r) (assertions form) (are_made form) (at q z)) is s.1)
        (view_none (assertions_left (q ++ t ∷ r) (assertions form)) (at q t) (λ root. not_root q t root) lost))
  ]
    where
      free : IsOpen q (assertions form)
      free = elim (own_or (assertions form) q) [
        | inl a ↦
            let by = (among_all (Made (assertions form)) a.0 (assertions form) (are_made form) a.1).owner
            a.3 ∙ a.2 in
            absurd (true≢false (sym (listed (assertions form) a.0 a.1 by a.2) ∙ e))
        | inr bare ↦ bare
      ]
        where
          listed : (xs : List Assertion) (a : Assertion) → Among a xs → a.by ≡ q → a.place ≡ q
              → list_any (λ b. same_place b.by q && same_place b.place q) xs ≡ true
          listed [] a m by place = absurd m
          listed (x ∷ xs) a (inl is) by place =
              or_left _ _ (and_from (same_place x.by q) (same_place x.place q)
              (ap (λ (z : Assertion). same_place z.by q) (sym is) ∙ ap (λ z. same_place z q) by ∙
              same_place_self q)
              (ap (λ (z : Assertion). same_place z.place q) (sym is) ∙ ap (λ z. same_place z q) place ∙
              same_place_self q))
          listed (x ∷ xs) a (inr m) by place = or_right _ _ (listed xs a m by place)

-- ---- parts

-- of two parts one is another than a step
pub other_part : (v : View) (t : Step) → AreSteps v → AreApart v → 1 < count_in v
    → (i : ℕ) × (s : Step) × (nth_part v i ≡ Some s) × (s ≡ t → ⊥)
other_part v t steps apart more = pick (some 0 (omega (arith, more))) (some 1 more)
  where
    some : (i : ℕ) → i < count_in v → (s : Step) × (nth_part v i ≡ Some s)
    some i lt = go (nth_part v i) refl
      where
        go : (o : Option Step) → nth_part v i ≡ o → (s : Step) × (nth_part v i ≡ Some s)
        go (Some s) e = (s, e)
        go None e = absurd (part_some v i lt e)

    both : (a b : Step) → nth_part v 0 ≡ Some a → nth_part v 1 ≡ Some b → a ≡ b → ⊥
    both a b p r same = elim (steps 0 a p) [
      | inl k ↦ elim (steps 1 b r) [
        | inl l ↦
            let name : k.0 ≡ l.0 = let keys : key k.0 ≡ key l.0 = sym k.2 ∙ same ∙ l.2 in cc in
            let clash : 0 ≡ 1 = apart 0 1 l.0 (k.1 ∙ ap Some name) l.1 in
            omega (arith, clash)
        | inr l ↦ (let clash : key k.0 ≡ index 1 = sym k.2 ∙ same ∙ l.1 in cc)
      ]
      | inr k ↦ elim (steps 1 b r) [
        | inl l ↦ (let clash : index 0 ≡ key l.0 = sym k.1 ∙ same ∙ l.2 in cc)
        | inr l ↦ (let clash : index 0 ≡ index 1 = sym k.1 ∙ same ∙ l.1 in cc)
      ]
    ]

    pick : (a : (s : Step) × (nth_part v 0 ≡ Some s)) → (b : (s : Step) × (nth_part v 1 ≡ Some s))
        → (i : ℕ) × (s : Step) × (nth_part v i ≡ Some s) × (s ≡ t → ⊥)
    pick a b = by_test (same_step a.0 t)
        (λ e. (1, b.0, b.1, λ f. both a.0 b.0 a.1 b.1 (same_step_is a.0 t e ∙ sym f)))
        (λ e. (0, a.0, a.1, λ f. true≢false (sym (ap (λ z. same_step z t) f ∙ same_step_self t) ∙ e)))

-- one part is the only one
pub only_part : (v : View) (s t : Step) (i j : ℕ) → count_in v ≤ 1 → nth_part v i ≡ Some s
    → nth_part v j ≡ Some t → s ≡ t
only_part v s t i j few e f =
    let lt = part_less v i s e in
    let le = part_less v j t f in
    let same : i ≡ j = omega (arith, lt, le, few) in
    same_Some s t (sym e ∙ ap (nth_part v) same ∙ f)
