-- The places that exactly one statement names, by the kind of their first assertion and by their members.
use Rattle.std.proofs.Common.{◌≡◌, ℕ, suc, ◌+◌, ◌≤◌, ◌==◌, Bool, true, false, not, ◌&&◌, ◌||◌, cond, List, [], ◌∷◌, Option, Some, None, refl, sym, ap, ap₂, subst, ◌∙◌, ◌⊎◌, inl, inr, true≢false, arith}
use Rattle.std.proofs.lemmas.Bool.{and_parts, eqb-true}
use Rattle.std.proofs.lemmas.Option.{same_Some}
use Rattle.std.specs.List.{AllByRecursion}
use Rattle.edit_syntax.specs.Grammar.{Value, Text}
use Rattle.edit_syntax.proofs.Cases.{by_test}
use Rattle.edit_tree.specs.Assertions.{Place, Step, key, at, same_place, Kind, dotted, leaf, super, header_kind, array_kind, element_kind, Assertion, assertions, are_compatible, AreCompatible}
use Rattle.edit_tree.specs.Tree.{step_from, kind_at}
use Rattle.edit_tree.proofs.Below.{step_from_at}
use Rattle.edit_tree.proofs.HeadedPlaces.{is_headed_at, headed_down, headed_up}
use Rattle.edit_tree.proofs.MoreAssertions.{allowed}
use Rattle.edit_tree.proofs.NamedHeads.{has_head, is_alone}
use Rattle.edit_tree.proofs.NamedPairs.{is_paired, pairs_at}
use Rattle.edit_tree.proofs.PairedPlaces.{tally, is_key, is_inner, members_even_out}
use Rattle.edit_tree.proofs.AlonePlaces.{dotted_open, dotted_pairs}
use Rattle.edit_tree.proofs.OnlyMembers.{HasOnly, shown, inner_pairs, head_above, head_next}
use Rattle.edit_tree.proofs.SamePlace.{same_place_is, last_same}

-- ---- first assertions

-- what may still be asserted fits to the first assertion
pub first_fits : (made : List Assertion) (t : Place) (j k : Kind) → kind_at made t ≡ Some j
    → allowed made t k ≡ true → are_compatible j k ≡ true
first_fits [] t j k e f = absurd cc
first_fits (a ∷ made) t j k e f =
    let h = and_parts (cond (same_place a.place t) (are_compatible a.kind k) true) (allowed made t k) f in
    go (same_place a.place t) e h.0 (λ g. first_fits made t j k g h.1)
  where
    go : (b : Bool) → cond b (Some a.kind) (kind_at made t) ≡ Some j
        → cond b (are_compatible a.kind k) true ≡ true
        → (kind_at made t ≡ Some j → are_compatible j k ≡ true) → are_compatible j k ≡ true
    go true g h ih = ap (λ z. are_compatible z k) (sym (same_Some a.kind j g)) ∙ h
    go false g h ih = ih g

-- where nothing is asserted, no pair asserts
pub unpaired : (made : List Assertion) (t : Place) → kind_at made t ≡ None → pairs_at made t ≡ 0
unpaired [] t e = refl
unpaired (a ∷ made) t e = go (is_paired a.kind) (same_place a.place t) e (unpaired made t)
  where
    go : (p b : Bool) → cond b (Some a.kind) (kind_at made t) ≡ None
        → (kind_at made t ≡ None → pairs_at made t ≡ 0)
        → cond (p && b) (suc (pairs_at made t)) (pairs_at made t) ≡ 0
    go p true e ih = absurd cc
    go true false e ih = ih e
    go false false e ih = ih e

-- where something is asserted, a pair or a header asserts it
pub paired_or_headed : (made : List Assertion) (t : Place) (k : Kind) → kind_at made t ≡ Some k
    → (1 ≤ pairs_at made t) ⊎ (is_headed_at made t ≡ true)
paired_or_headed [] t k e = absurd cc
paired_or_headed (a ∷ made) t k e = go (is_paired a.kind) (same_place a.place t) e (paired_or_headed made t k)
  where
    go : (p b : Bool) → cond b (Some a.kind) (kind_at made t) ≡ Some k
        → (kind_at made t ≡ Some k → (1 ≤ pairs_at made t) ⊎ (is_headed_at made t ≡ true))
        → (1 ≤ cond (p && b) (suc (pairs_at made t)) (pairs_at made t))
        ⊎ (((not p && b) || is_headed_at made t) ≡ true)
    go true true e ih = inl (omega arith)
    go false true e ih = inr refl
    go true false e ih = ih e
    go false false e ih = ih e

-- ---- values

leaf_lone : (v : Value) (k : Kind) → are_compatible (leaf v) k ≡ false
leaf_lone v (dotted b) = refl
leaf_lone v (leaf w) = refl
leaf_lone v super = refl
leaf_lone v header_kind = refl
leaf_lone v array_kind = refl
leaf_lone v element_kind = refl

skip_pair : (p b : Bool) (n : ℕ) → b ≡ false → cond (p && b) (suc n) n ≡ n
skip_pair true b n e = ap (λ z. cond z (suc n) n) e
skip_pair false b n e = refl

skip_head : (p b c : Bool) → b ≡ false → ((not p && b) || c) ≡ c
skip_head true b c e = refl
skip_head false b c e = ap (λ z. z || c) e

-- a value is asserted once, and nothing else at its place
pub leaf_once : (made : List Assertion) (t : Place) (v : Value) → AreCompatible made
    → kind_at made t ≡ Some (leaf v) → (pairs_at made t ≡ 1) × (is_headed_at made t ≡ false)
leaf_once [] t v clash e = absurd cc
leaf_once (a ∷ made) t v clash e = go (same_place a.place t) refl e (leaf_once made t v clash.1)
  where
    apart : (x : Assertion) → a.place ≡ t → a.kind ≡ leaf v
        → (a.place ≡ x.place → are_compatible a.kind x.kind ≡ true) → same_place x.place t ≡ false
    apart x same kind h =
        by_test (same_place x.place t)
        (λ g. absurd (true≢false (sym (h (same ∙ sym (same_place_is x.place t g))) ∙
        ap (λ z. are_compatible z x.kind) kind ∙ leaf_lone v x.kind)))
        (λ g. g)

    none : (xs : List Assertion) → a.place ≡ t → a.kind ≡ leaf v
        → AllByRecursion (λ b. a.place ≡ b.place → are_compatible a.kind b.kind ≡ true) xs → (pairs_at xs t ≡ 0)
        × (is_headed_at xs t ≡ false)
    none [] same kind h = (refl, refl)
    none (x ∷ xs) same kind h =
        let r = none xs same kind h.1 in
        let f = apart x same kind h.0 in (
          skip_pair (is_paired x.kind) (same_place x.place t) (pairs_at xs t) f ∙
              r.0,
          skip_head (is_paired x.kind) (same_place x.place t) (is_headed_at xs t) f ∙ r.1,
        )

    go : (b : Bool) → same_place a.place t ≡ b → cond b (Some a.kind) (kind_at made t) ≡ Some (leaf v)
        → (kind_at made t ≡ Some (leaf v) → (pairs_at made t ≡ 1) × (is_headed_at made t ≡ false))
        → (cond (is_paired a.kind && b) (suc (pairs_at made t)) (pairs_at made t) ≡ 1)
        × (((not (is_paired a.kind) && b) || is_headed_at made t) ≡ false)
    go true g e ih =
        let kind : a.kind ≡ leaf v = same_Some a.kind (leaf v) e in
        let r = none made (same_place_is a.place t g) kind clash.0 in (
          ap (λ k. cond (is_paired k && true) (suc (pairs_at made t)) (pairs_at made t)) kind ∙
              ap suc r.0,
          ap (λ k. (not (is_paired k) && true) || is_headed_at made t) kind ∙ r.1,
        )
    go false g e ih =
        let r = ih e in (
          skip_pair (is_paired a.kind) false (pairs_at made t) refl ∙
              r.0,
          skip_head (is_paired a.kind) false (is_headed_at made t) refl ∙ r.1,
        )

pub leaf_alone : (form : Text) (s : Step) (ss : Place) (v : Value) → AreCompatible (assertions form)
    → kind_at (assertions form) (s ∷ ss) ≡ Some (leaf v) → is_alone (assertions form) (s ∷ ss) ≡ true
leaf_alone form s ss v clash e =
    let r = leaf_once (assertions form) (s ∷ ss) v clash e in
    let bare : has_head (assertions form) (s ∷ ss) ≡ false =
    by_test (has_head (assertions form) (s ∷ ss))
    (λ h. absurd (true≢false (sym (headed_down form s ss h) ∙ r.1))) (λ h. h) in
    ap₂ (λ n b. (n == 1) && not b) r.0 bare

-- ---- none, several, or a header

and_never : (b : Bool) → (b && false) ≡ false
and_never true = refl
and_never false = refl

pub none_alone : (made : List Assertion) (t : Place) → pairs_at made t ≡ 0 → is_alone made t ≡ false
none_alone made t e = ap (λ n. (n == 1) && not (has_head made t)) e

pub headed_alone : (made : List Assertion) (t : Place) → has_head made t ≡ true → is_alone made t ≡ false
headed_alone made t e = ap (λ b. (pairs_at made t == 1) && not b) e ∙ and_never (pairs_at made t == 1)

pub several_alone : (made : List Assertion) (t : Place) → 2 ≤ pairs_at made t → is_alone made t ≡ false
several_alone made t le = ap (λ b. b && not (has_head made t)) (by_test (pairs_at made t == 1) clash (λ e. e))
  where
    clash : (pairs_at made t == 1) ≡ true → (pairs_at made t == 1) ≡ false
    clash e = absurd (omega (arith, le, eqb-true (pairs_at made t) 1 e))

-- ---- one member

only_all : (made : List Assertion) (t : Place) (m : List ℕ) → HasOnly made t m → (xs : List Assertion)
    → AllByRecursion (λ a. (k : Kind) × (kind_at made a.place ≡ Some k)) xs
    → AllByRecursion (λ a. (s : Step) → a.place ≡ at t s → s ≡ key m) xs
only_all made t m only [] h = tt
only_all made t m only (x ∷ xs) h =
    ((λ s e. only s h.0.0 (ap (λ p. kind_at made p) (sym e) ∙ h.0.1)), only_all made t m only xs h.1)

headed_stands : (made : List Assertion) (t : Place) → is_headed_at made t ≡ true → (k : Kind)
    × (kind_at made t ≡ Some k)
headed_stands [] t e = absurd (true≢false (sym e))
headed_stands (a ∷ made) t e = go (not (is_paired a.kind)) (same_place a.place t) e (headed_stands made t)
  where
    go : (p b : Bool) → ((p && b) || is_headed_at made t) ≡ true
        → (is_headed_at made t ≡ true → (k : Kind) × (kind_at made t ≡ Some k)) → (k : Kind)
        × (cond b (Some a.kind) (kind_at made t) ≡ Some k)
    go p true e ih = (a.kind, refl)
    go true false e ih = ih e
    go false false e ih = ih e

pub at_cons : (t : Place) (s : Step) → (x : Step) × (xs : Place) × (at t s ≡ x ∷ xs)
at_cons [] s = (s, [], refl)
at_cons (y ∷ t) s = (y, at t s, refl)

-- what a header names stands
pub head_stands : (form : Text) (t : Place) (s : Step) → has_head (assertions form) (at t s) ≡ true
    → (k : Kind) × (kind_at (assertions form) (at t s) ≡ Some k)
head_stands form t s e =
    let c = at_cons t s in
    headed_stands (assertions form) (at t s)
    (subst (λ p. has_head (assertions form) p ≡ true → is_headed_at (assertions form) p ≡ true) (sym c.2)
    (headed_down form c.0 c.1) e)

same_truth : (a b : Bool) → (a ≡ true → b ≡ true) → (b ≡ true → a ≡ true) → a ≡ b
same_truth true b f g = sym (f refl)
same_truth false true f g = g refl
same_truth false false f g = refl

pub only_alone : (form : Text) (s : Step) (ss : Place) (m : List ℕ)
    → allowed (assertions form) (s ∷ ss) (dotted false) ≡ true → HasOnly (assertions form) (s ∷ ss) m
    → is_alone (assertions form) (s ∷ ss) ≡ is_alone (assertions form) (at (s ∷ ss) (key m))
only_alone form s ss m free only = ap₂ (λ n b. (n == 1) && not b) pairs header_walk
  where
    made : List Assertion
    made = assertions form

    t : Place
    t = s ∷ ss

    pairs : pairs_at made t ≡ pairs_at made (at t (key m))
    pairs =
        dotted_pairs made t free ∙ sym (members_even_out form s ss (dotted_open made t free))
        ∙ inner_pairs t m made (only_all made t m only made (shown made))

    down : has_head made t ≡ true → has_head made (at t (key m)) ≡ true
    down e =
        let r = head_next t made (dotted_open made t free) e in
        let k = head_stands form t r.0 r.1 in
        subst (λ x. has_head made (at t x) ≡ true) (only r.0 k.0 k.1) r.1

    header_walk : has_head made t ≡ has_head made (at t (key m))
    header_walk = same_truth (has_head made t) (has_head made (at t (key m))) down (head_above t (key m) made)

-- ---- no member, and two members

pub bare_alone : (form : Text) (s : Step) (ss : Place) → allowed (assertions form) (s ∷ ss) (dotted false)
    ≡ true
    → ((x : Step) (k : Kind) → kind_at (assertions form) (at (s ∷ ss) x) ≡ Some k → ⊥)
    → is_alone (assertions form) (s ∷ ss) ≡ false
bare_alone form s ss free none =
    only_alone form s ss [] free (λ x k e. absurd (none x k e))
    ∙ none_alone (assertions form) (at (s ∷ ss) (key []))
    (unpaired (assertions form) (at (s ∷ ss) (key []))
    (nothing (kind_at (assertions form) (at (s ∷ ss) (key []))) refl))
  where
    nothing : (o : Option Kind) → kind_at (assertions form) (at (s ∷ ss) (key [])) ≡ o
        → kind_at (assertions form) (at (s ∷ ss) (key [])) ≡ None
    nothing None e = e
    nothing (Some k) e = absurd (none (key []) k e)

two_inner : (t : Place) (m n : List ℕ) (xs : List Assertion) → (m ≡ n → ⊥)
    → pairs_at xs (at t (key m)) + pairs_at xs (at t (key n)) ≤ tally (is_inner t) xs
two_inner t m n [] ne = omega arith
two_inner t m n (a ∷ xs) ne =
    go (is_paired a.kind) (same_place a.place (at t (key m))) (same_place a.place (at t (key n)))
    (is_key (step_from t a.place))
    not_both (inner m) (inner n) (pairs_at xs (at t (key m))) (pairs_at xs (at t (key n)))
    (tally (is_inner t) xs) (two_inner t m n xs ne)
  where
    not_both : same_place a.place (at t (key m)) ≡ true → same_place a.place (at t (key n)) ≡ true → ⊥
    not_both e f =
        let same : key m ≡ key n =
        (last_same t t (key m) (key n) (sym (same_place_is a.place (at t (key m)) e) ∙
        same_place_is a.place (at t (key n)) f)).1 in
        let names : m ≡ n = cc in
        ne names

    inner : (l : List ℕ) → same_place a.place (at t (key l)) ≡ true → is_key (step_from t a.place) ≡ true
    inner l e = ap (λ p. is_key (step_from t p)) (same_place_is a.place (at t (key l)) e) ∙
        ap is_key (step_from_at t (key l))

    go : (p x y z : Bool) → (x ≡ true → y ≡ true → ⊥) → (x ≡ true → z ≡ true) → (y ≡ true → z ≡ true)
        → (i j k : ℕ) → i + j ≤ k → cond (p && x) (suc i) i + cond (p && y) (suc j) j ≤ cond (p && z)
        (suc k) k
    go false x y z both l r i j k le = le
    go true true true z both l r i j k le = absurd (both refl refl)
    go true true false false both l r i j k le = absurd (true≢false (sym (l refl)))
    go true true false true both l r i j k le = omega (arith, le)
    go true false true false both l r i j k le = absurd (true≢false (sym (r refl)))
    go true false true true both l r i j k le = omega (arith, le)
    go true false false false both l r i j k le = le
    go true false false true both l r i j k le = omega (arith, le)

-- a member that a header asserts
member_headed : (form : Text) (t : Place) (m : List ℕ) → is_headed_at (assertions form) (at t (key m)) ≡ true
    → is_alone (assertions form) t ≡ false
member_headed form t m e = headed_alone (assertions form) t
    (head_above t (key m) (assertions form) (headed_up form (at t (key m)) e))

pub two_alone : (form : Text) (s : Step) (ss : Place) (m n : List ℕ) (j k : Kind)
    → allowed (assertions form) (s ∷ ss) (dotted false) ≡ true → (m ≡ n → ⊥)
    → kind_at (assertions form) (at (s ∷ ss) (key m)) ≡ Some j
    → kind_at (assertions form) (at (s ∷ ss) (key n)) ≡ Some k → is_alone (assertions form) (s ∷ ss) ≡ false
two_alone form s ss m n j k free ne e f =
    elim (paired_or_headed made (at t (key m)) j e) [
      | inr h ↦ member_headed form t m h
      | inl one ↦ elim (paired_or_headed made (at t (key n)) k f) [
        | inr h ↦ member_headed form t n h
        | inl two ↦ several_alone made t
            (omega (
              arith,
              one,
              two,
              two_inner t m n made ne,
              members_even_out form s ss (dotted_open made t free),
              dotted_pairs made t free,
            ))
      ]
    ]
  where
    made : List Assertion
    made = assertions form

    t : Place
    t = s ∷ ss
