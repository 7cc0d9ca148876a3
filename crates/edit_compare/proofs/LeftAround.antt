-- Which tables and arrays around a removed item stay, and which vanish with it.
use Rattle.std.proofs.Common.{◌≡◌, ℕ, Bool, true, false, ◌&&◌, if◌then◌else◌, List, [], ◌∷◌, ◌++◌, Option, Some, None, refl, sym, ap, subst, ◌∙◌, ◌⊎◌, inl, inr, true≢false, append_assoc, append-nil}
use Rattle.std.proofs.lemmas.Bool.{and_parts}
use Rattle.edit_syntax.specs.Grammar.{Text}
use Rattle.edit_syntax.proofs.Cases.{by_test}
use Rattle.edit_tree.specs.Assertions.{Place, Step, key, index, at, same_step, Kind, assertions}
use Rattle.edit_tree.specs.EditBytes.{is_within}
use Rattle.edit_document.specs.ItemRemoval.{IsLeft, IsLost}
use Rattle.edit_tree.specs.IntendedTrees.{assertions_left, place_after_removal, is_member}
use Rattle.edit_tree.specs.Tree.{kind_at, view_in}
use Rattle.edit_tree.proofs.ElementWays.{are_made}
use Rattle.edit_compare.proofs.Besides.{within_back}
use Rattle.edit_tree.proofs.HeadedPlaces.{inside_self, inside_more}
use Rattle.edit_compare.proofs.RemainingParts.{view_none, none_view}
use Rattle.edit_tree.proofs.SamePlace.{not_root, same_step_self, same_step_is}
use Rattle.edit_tree.proofs.StayingWays.{on_one_way, kind_among, stays_kind, kind_stays, off_way, up_stays, own_stays, index_own}

-- ---- places

-- a place within another goes on behind it
pub within_rest : (p q : Place) → is_within p q ≡ true → (k : Place) × (q ≡ p ++ k)
within_rest [] q e = (q, refl)
within_rest (s ∷ p) [] e = absurd (true≢false (sym e))
within_rest (s ∷ p) (t ∷ q) e =
    let h = and_parts (same_step s t) (is_within p q) e in
    let r = within_rest p q h.1 in
    (r.0, ap (λ z. z ∷ q) (sym (same_step_is s t h.0)) ∙ ap (λ z. s ∷ z) r.1)

-- what moves, moves with its front
pub moved_step : (s x u : Step) (xs us : Place) → place_after_removal (s ∷ x ∷ xs) (u ∷ us)
    ≡ u ∷ (if same_step s u then place_after_removal (x ∷ xs) us else us)
moved_step (key n) x u xs us = refl
moved_step (index i) x (key n) xs us = refl
moved_step (index i) x (index j) xs us = refl

first_step : (q : Place) (t : Step) (r : Place) → (x : Step) × (xs : Place) × (q ++ t ∷ r ≡ x ∷ xs)
first_step [] t r = (t, r, refl)
first_step (y ∷ q) t r = (y, q ++ t ∷ r, refl)

moved_cons : (s u : Step) (q : Place) (t : Step) (r us : Place)
    → place_after_removal (s ∷ (q ++ t ∷ r)) (u ∷ us) ≡ u ∷ (if same_step s u then place_after_removal (q ++ t ∷ r) us else us)
moved_cons s u q t r us =
    let c = first_step q t r in
    subst (λ z. place_after_removal (s ∷ z) (u ∷ us) ≡ u ∷ (if same_step s u then place_after_removal z us else us)) (sym c.2)
    (moved_step s c.0 u c.1 us)

pub moved_back : (q : Place) (t : Step) (r k : Place)
    → place_after_removal (q ++ t ∷ r) (q ++ k) ≡ q ++ place_after_removal (t ∷ r) k
moved_back [] t r k = refl
moved_back (s ∷ q) t r k =
    moved_cons s s q t r (q ++ k) ∙ ap (λ b. s ∷ (if b then place_after_removal (q ++ t ∷ r) (q ++ k) else q ++ k))
    (same_step_self s)
    ∙ ap (λ z. s ∷ z) (moved_back q t r k)

pub moved_else : (q : Place) (t : Step) (r p : Place) → is_within q p ≡ false
    → place_after_removal (q ++ t ∷ r) p ≡ p
moved_else [] t r p e = absurd (true≢false e)
moved_else (s ∷ q) t r [] e = refl
moved_else (s ∷ q) t r (u ∷ us) e = moved_cons s u q t r us ∙ go (same_step s u) e (moved_else q t r us)
  where
    go : (b : Bool) → (b && is_within q us) ≡ false
        → (is_within q us ≡ false → place_after_removal (q ++ t ∷ r) us ≡ us)
        → u ∷ (if b then place_after_removal (q ++ t ∷ r) us else us) ≡ u ∷ us
    go true f ih = ap (λ z. u ∷ z) (ih f)
    go false f ih = refl

-- where the first steps differ, a longer place that is removed moves another one as its first step alone does
pub moved_flat : (t s : Step) (r k : Place) → (s ≡ t → ⊥) → (r ≡ []) ⊎ ((n : List ℕ) × (t ≡ key n))
    → place_after_removal (t ∷ r) (s ∷ k) ≡ place_after_removal (t ∷ []) (s ∷ k)
moved_flat t s [] k ne flat = refl
moved_flat t s (x ∷ xs) k ne (inl e) = absurd cc
moved_flat t s (x ∷ xs) k ne (inr n) =
    let other : same_step t s ≡ false = by_test (same_step t s) (λ e. absurd (ne (sym (same_step_is t s e))))
    (λ e. e) in
    moved_step t x s xs k ∙ ap (λ b. s ∷ (if b then place_after_removal (x ∷ xs) k else k)) other
    ∙ sym (subst (λ z. place_after_removal (z ∷ []) (s ∷ k) ≡ s ∷ k) (sym n.1)
    (ap (λ b. s ∷ (if b then k else k)) (ap (λ z. same_step z s) (sym n.1) ∙ other)))

-- what follows equal fronts is equal
pub cancel : (p x y : Place) → p ++ x ≡ p ++ y → x ≡ y
cancel [] x y e = e
cancel (s ∷ p) x y e = cancel p x y (let rest : p ++ x ≡ p ++ y = cc in rest)

pub member_back : (q : Place) (t : Step) → is_member (q ++ t ∷ []) ≡ is_member (t ∷ [])
member_back [] t = refl
member_back (s ∷ []) t = refl
member_back (s ∷ x ∷ q) t = member_back (x ∷ q) t

-- ---- what stays

module _ (form : Text) (gone : Place) where
  -- what stays at a place stays on the whole way to it
  pub up : (p q : Place) → IsLeft form gone q → is_within p q ≡ true → IsLeft form gone p
  up [] q left low none = absurd cc
  up (s ∷ p) q left low none = elim (kind_stays gone (assertions form) (are_made form) q) [
    | inl nothing ↦ left (none_view (assertions_left gone (assertions form)) q inner nothing)
    | inr stay ↦ stays_kind gone (assertions form) (are_made form) (s ∷ p)
        (up_stays gone (assertions form) (are_made form) q (s ∷ p) (λ e. cc) low stay)
        (view_none (assertions_left gone (assertions form)) (s ∷ p) (λ e. cc) none)
  ]
    where
      inner : q ≡ [] → ⊥
      inner e = true≢false (sym low ∙ ap (is_within (s ∷ p)) e)

  -- below what vanishes nothing was asserted that is no part of what goes, nor around it
  pub nothing_else : (q : Place) (t : Step) (k : Place) → IsLost form gone (at q t)
      → is_within gone (at q t ++ k) ≡ false → is_within (at q t ++ k) gone ≡ false
      → view_in (assertions form) (at q t ++ k) ≡ None
  nothing_else q t k lost below above = go (kind_at (assertions form) (at q t ++ k)) refl
    where
      inner : (p k : Place) → at p t ++ k ≡ [] → ⊥
      inner [] k f = cc
      inner (x ∷ p) k f = cc

      go : (o : Option Kind) → kind_at (assertions form) (at q t ++ k) ≡ o
          → view_in (assertions form) (at q t ++ k) ≡ None
      go None e = none_view (assertions form) (at q t ++ k) (inner q k) e
      go (Some kind) e =
          let a = kind_among (assertions form) (at q t ++ k) kind e in
          let out = off_way gone (assertions form) (are_made form) (at q t ++ k) below above a.0 a.1
          (ap (λ z. is_within (at q t ++ k) z) a.2 ∙ inside_self (at q t ++ k)) in
          absurd (stays_kind gone (assertions form) (are_made form) (at q t)
          (up_stays gone (assertions form) (are_made form) (at q t ++ k) (at q t) (λ f. not_root q t f)
          (inside_more (at q t) (at q t) k (inside_self (at q t))) (a.0, a.1, a.2, out))
          (view_none (assertions_left gone (assertions form)) (at q t) (λ f. not_root q t f) lost))

-- of two tables that stay and lose a part to what goes neither lies in the other
front_is : (form : Text) (gone p q : Place) (s t : Step) (k r : Place) → gone ≡ p ++ s ∷ k
    → gone ≡ q ++ t ∷ r → IsLost form gone (at p s) → IsLeft form gone q → is_within p q ≡ true → p ≡ q
front_is form gone p q s t k r e f lost left low = let m = within_rest p q low in go m.0 m.1
  where
    go : (m : Place) → q ≡ p ++ m → p ≡ q
    go [] h = sym (h ∙ append-nil p)
    go (u ∷ us) h =
        let rest : s ∷ k ≡ u ∷ (us ++ t ∷ r) = cancel p (s ∷ k) (u ∷ (us ++ t ∷ r))
        (sym e ∙ f ∙ ap (λ z. z ++ t ∷ r) h ∙ append_assoc p (u ∷ us) (t ∷ r)) in
        let step : s ≡ u = cc in
        let inner : is_within (at p s) q ≡ true = ap (λ z. is_within (at p s) z)
        (h ∙ ap (λ z. p ++ z ∷ us) (sym step) ∙ sym (append_assoc p (s ∷ []) us)) ∙
        inside_more (at p s) (at p s) us (inside_self (at p s)) in
        absurd (up form gone (at p s) q left inner lost)

on_way : (p : Place) (s : Step) (k gone : Place) → gone ≡ p ++ s ∷ k → is_within p gone ≡ true
on_way p s k gone e = ap (λ z. is_within p z) e ∙ inside_more p p (s ∷ k) (inside_self p)

-- there is one of them
pub one_front : (form : Text) (gone p q : Place) (s t : Step) (k r : Place) → gone ≡ p ++ s ∷ k
    → gone ≡ q ++ t ∷ r → IsLeft form gone p → IsLost form gone (at p s) → IsLeft form gone q
    → IsLost form gone (at q t) → (p ≡ q) × (s ≡ t)
one_front form gone p q s t k r e f left lost left_q lost_q = (same, step)
  where
    same : p ≡ q
    same = elim (on_one_way p q gone (on_way p s k gone e) (on_way q t r gone f)) [
      | inl low ↦ front_is form gone p q s t k r e f lost left_q low
      | inr low ↦ sym (front_is form gone q p t s r k f e lost_q left low)
    ]

    step : s ≡ t
    step =
        let rest : s ∷ k ≡ t ∷ r = cancel p (s ∷ k) (t ∷ r) (sym e ∙ f ∙ ap (λ z. z ++ t ∷ r) (sym same)) in
        cc

module _ (form : Text) (q : Place) (t : Step) (r : Place)
    (stood : (p : Place) → (p ≡ [] → ⊥) → is_within p (q ++ t ∷ r) ≡ true → kind_at (assertions form) p ≡ None
    → ⊥)
    (lost : IsLost form (q ++ t ∷ r) (at q t)) where
  next_way : is_within (at q t) (q ++ t ∷ r) ≡ true
  next_way = within_back q (t ∷ []) (t ∷ r) ∙ ap (λ b. b && true) (same_step_self t)

  lost_kind : kind_at (assertions_left (q ++ t ∷ r) (assertions form)) (at q t) ≡ None
  lost_kind = view_none (assertions_left (q ++ t ∷ r) (assertions form)) (at q t) (λ e. not_root q t e) lost

  -- an element that goes takes nothing with it but what stands below it
  pub flat : (r ≡ []) ⊎ ((n : List ℕ) × (t ≡ key n))
  flat = go t r refl refl
    where
      go : (s : Step) (rest : Place) → t ≡ s → r ≡ rest → (r ≡ []) ⊎ ((n : List ℕ) × (t ≡ key n))
      go s [] e f = inl f
      go (key n) (u ∷ us) e f = inr (n, e)
      go (index i) (u ∷ us) e f = absurd (some (kind_at (assertions form) (at q t)) refl)
        where
          out : is_within (q ++ t ∷ r) (at q t) ≡ false
          out = within_back q (t ∷ r) (t ∷ []) ∙ ap (λ z. same_step t t && is_within z []) f ∙
              never (same_step t t)
            where
              never : (b : Bool) → (b && false) ≡ false
              never true = refl
              never false = refl

          some : (o : Option Kind) → kind_at (assertions form) (at q t) ≡ o → ⊥
          some None g = stood (at q t) (λ z. not_root q t z) next_way g
          some (Some k) g =
              let a = kind_among (assertions form) (at q t) k g in
              let b = index_own (q ++ t ∷ r) (assertions form) (are_made form) q i a.0 a.1
              (a.2 ∙ ap (at q) e) in
              stays_kind (q ++ t ∷ r) (assertions form) (are_made form) (at q t)
              (own_stays (q ++ t ∷ r) (assertions form) (are_made form) (at q t) b.0 b.1
              (b.2 ∙ ap (at q) (sym e)) b.3 out) lost_kind
