-- A place that only dotted keys and headers pass through and that has one member: the same statements name
-- both.
use Rattle.std.proofs.Common.{◌≡◌, ℕ, Bool, true, false, ◌&&◌, ◌||◌, cond, List, [], ◌∷◌, suc, Option, Some, None, refl, sym, ap, ap₂, ◌∙◌, true≢false}
use Rattle.std.proofs.lemmas.Bool.{and_parts, and_from, or_left, or_right}
use Rattle.std.specs.List.{AllByRecursion}
use Rattle.edit_syntax.proofs.Cases.{by_test}
use Rattle.edit_tree.specs.Assertions.{Place, Step, key, at, same_step, same_place, Kind, dotted, leaf, super, header_kind, array_kind, element_kind, Assertion}
use Rattle.edit_tree.specs.EditBytes.{is_within as is_inside}
use Rattle.edit_tree.specs.Tree.{step_from, kind_at}
use Rattle.edit_tree.proofs.Below.{step_from_at, step_from_is}
use Rattle.edit_tree.proofs.HeadedPlaces.{inside_self, inside_more, inside_trans}
use Rattle.edit_tree.proofs.NamedHeads.{is_head, has_head}
use Rattle.edit_tree.proofs.NamedPairs.{is_paired, pairs_at}
use Rattle.edit_tree.proofs.PairedPlaces.{tally, is_key, is_inner, owns, IsOpen}
use Rattle.edit_tree.proofs.SamePlace.{same_place_is, same_place_self, same_step_is, same_step_self}

-- whatever is asserted one step below the place is its member of this name
abbrev pub HasOnly : List Assertion → Place → List ℕ → Type 0
HasOnly made t m = (s : Step) (k : Kind) → kind_at made (at t s) ≡ Some k → s ≡ key m

-- an assertion shows that something stands at its place
pub shown : (xs : List Assertion) → AllByRecursion (λ a. (k : Kind) × (kind_at xs a.place ≡ Some k)) xs
shown xs = go [] xs (λ p k e. (k, e))
  where
    go : (front ys : List Assertion) → ((p : Place) (k : Kind) → kind_at ys p ≡ Some k → (j : Kind)
        × (kind_at xs p ≡ Some j)) → AllByRecursion (λ a. (k : Kind) × (kind_at xs a.place ≡ Some k)) ys
    go front [] so = tt
    go front (y ∷ ys) so = (
      so y.place y.kind (ap (λ b. cond b (Some y.kind) (kind_at ys y.place)) (same_place_self y.place)),
      go front ys (λ p k e. so p (either p k (same_place y.place p)) (found p k e (same_place y.place p))),
    )
      where
        either : (p : Place) (k : Kind) → Bool → Kind
        either p k true = y.kind
        either p k false = k

        found : (p : Place) (k : Kind) → kind_at ys p ≡ Some k → (b : Bool)
            → cond b (Some y.kind) (kind_at ys p) ≡ Some (either p k b)
        found p k e true = refl
        found p k e false = e

-- ---- pairs

inner_is : (t : Place) (m : List ℕ) (a : Assertion) → ((s : Step) → a.place ≡ at t s → s ≡ key m)
    → (is_key (step_from t a.place)) ≡ same_place a.place (at t (key m))
inner_is t m a only = go (step_from t a.place) refl
  where
    same_there : same_place a.place (at t (key m)) ≡ true → step_from t a.place ≡ Some (key m)
    same_there h = ap (λ z. step_from t z) (same_place_is a.place (at t (key m)) h) ∙ step_from_at t (key m)

    other : (o : Option Step) → step_from t a.place ≡ o → (o ≡ Some (key m) → ⊥)
        → same_place a.place (at t (key m)) ≡ false
    other o e no_one = by_test (same_place a.place (at t (key m)))
        (λ h. absurd (no_one (sym e ∙ same_there h))) (λ h. h)

    never : None ≡ Some (key m) → ⊥
    never h = cc

    go : (o : Option Step) → step_from t a.place ≡ o → is_key o ≡ same_place a.place (at t (key m))
    go None e = sym (other None e never)
    go (Some s) e =
        let is : s ≡ key m = only s (step_from_is t a.place s e) in
        ap (λ z. is_key (Some z)) is ∙
        sym (ap (λ z. same_place z (at t (key m))) (step_from_is t a.place s e ∙ ap (λ z. at t z) is) ∙
        same_place_self (at t (key m)))

pub inner_pairs : (t : Place) (m : List ℕ) (xs : List Assertion)
    → AllByRecursion (λ a. (s : Step) → a.place ≡ at t s → s ≡ key m) xs
    → tally (is_inner t) xs ≡ pairs_at xs (at t (key m))
inner_pairs t m [] h = refl
inner_pairs t m (a ∷ xs) h =
    ap₂ (λ b n. cond (is_paired a.kind && b) (suc n) n) (inner_is t m a h.0) (inner_pairs t m xs h.1)

-- ---- headers

pub head_above : (t : Place) (s : Step) (xs : List Assertion) → has_head xs (at t s) ≡ true
    → has_head xs t ≡ true
head_above t s [] e = e
head_above t s (a ∷ xs) e = go (is_head a.kind) (is_inside (at t s) a.place) refl e (head_above t s xs)
  where
    go : (h b : Bool) → is_inside (at t s) a.place ≡ b → ((h && b) || has_head xs (at t s)) ≡ true
        → (has_head xs (at t s) ≡ true → has_head xs t ≡ true)
        → ((h && is_inside t a.place) || has_head xs t) ≡ true
    go true true i e ih = or_left (is_inside t a.place) (has_head xs t)
        (inside_trans t (at t s) a.place (inside_more t t (s ∷ []) (inside_self t)) i)
    go true false i e ih = or_right (is_inside t a.place) (has_head xs t) (ih e)
    go false b i e ih = ih e

pub next_step : (t p : Place) → is_inside t p ≡ true → same_place p t ≡ false → (s : Step)
    × (is_inside (at t s) p ≡ true)
next_step [] [] e far = absurd (true≢false far)
next_step [] (u ∷ us) e far = (u, and_from (same_step u u) true (same_step_self u) refl)
next_step (x ∷ t) [] e far = absurd (true≢false (sym e))
next_step (x ∷ t) (u ∷ p) e far =
    let h = and_parts (same_step x u) (is_inside t p) e in
    let r = next_step t p h.1
    (by_test (same_place p t)
    (λ g. absurd (true≢false (sym (and_from (same_step u x) (same_place p t) (flip x u h.0) g) ∙ far)))
    (λ g. g)) in
    (r.0, and_from (same_step x u) (is_inside (at t r.0) p) h.0 r.1)
  where
    flip : (a b : Step) → same_step a b ≡ true → same_step b a ≡ true
    flip a b e = ap (λ z. same_step b z) (same_step_is a b e) ∙ same_step_self b

pub head_next : (t : Place) (xs : List Assertion) → IsOpen t xs → has_head xs t ≡ true → (s : Step)
    × (has_head xs (at t s) ≡ true)
head_next t [] h e = absurd (true≢false (sym e))
head_next t (a ∷ xs) h e =
    by_test (is_head a.kind && is_inside t a.place)
    (λ g. let b = and_parts (is_head a.kind) (is_inside t a.place) g in
    let r = next_step t a.place b.1 (far a.kind b.0 h.0) in
    (r.0, or_left _ _ (and_from (is_head a.kind) (is_inside (at t r.0) a.place) b.0 r.1)))
    (λ g. let r = head_next t xs h.1 (sym (ap (λ b. b || has_head xs t) g) ∙ e) in (r.0, or_right _ _ r.1))
  where
    far : (k : Kind) → is_head k ≡ true → (owns k && same_place a.place t) ≡ false
        → same_place a.place t ≡ false
    far k e h = sym (ap (λ b. b && same_place a.place t) (head_owns k e)) ∙ h
      where
        head_owns : (k : Kind) → is_head k ≡ true → owns k ≡ true
        head_owns (leaf v) e = refl
        head_owns (dotted b) e = absurd (true≢false (sym e))
        head_owns array_kind e = absurd (true≢false (sym e))
        head_owns super e = absurd (true≢false (sym e))
        head_owns header_kind e = refl
        head_owns element_kind e = refl
