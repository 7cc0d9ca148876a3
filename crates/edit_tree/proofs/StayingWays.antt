-- Assertions that stay when an item is removed: what stays at a place stays at each place above it.
use Rattle.std.proofs.Common.{◌≡◌, ℕ, Bool, true, false, not, cond, ◌&&◌, List, [], ◌∷◌, Option, Some, None, refl, sym, ap, subst, ◌∙◌, ◌⊎◌, inl, inr, true≢false}
use Rattle.std.proofs.lemmas.Bool.{and_parts, and_from}
use Rattle.std.proofs.lemmas.Option.{same_Some}
use Rattle.edit_syntax.proofs.Cases.{by_test}
use Rattle.edit_syntax.proofs.Members.{Among, among_all}
use Rattle.edit_tree.specs.Assertions.{Place, Step, index, at, same_step, same_place, Kind, Assertion}
use Rattle.edit_tree.specs.EditBytes.{is_within}
use Rattle.edit_tree.specs.IntendedTrees.{assertions_left}
use Rattle.edit_tree.specs.Tree.{kind_at}
use Rattle.edit_tree.proofs.Asserters.{Made, AreMade}
use Rattle.edit_tree.proofs.HeadedPlaces.{inside_trans}
use Rattle.edit_tree.proofs.PairedPlaces.{owns, IsOpen}
use Rattle.edit_tree.proofs.SamePlace.{not_root, same_place_is, same_place_self, same_step_is, same_step_self}

-- ---- places

-- of two places on the way to a third one lies on the way to the other
pub on_one_way : (p q r : Place) → is_within p r ≡ true → is_within q r ≡ true → (is_within p q ≡ true)
    ⊎ (is_within q p ≡ true)
on_one_way [] q r e f = inl refl
on_one_way (s ∷ p) [] r e f = inr refl
on_one_way (s ∷ p) (t ∷ q) [] e f = absurd (true≢false (sym e))
on_one_way (s ∷ p) (t ∷ q) (u ∷ r) e f =
    let a = and_parts (same_step s u) (is_within p r) e in
    let b = and_parts (same_step t u) (is_within q r) f in
    let su = same_step_is s u a.0 in
    let tu = same_step_is t u b.0 in
    elim (on_one_way p q r a.1 b.1) [
      | inl h ↦ inl (and_from (same_step s t) (is_within p q) (ap (λ z. same_step s z) (tu ∙ sym su) ∙
          same_step_self s) h)
      | inr h ↦ inr (and_from (same_step t s) (is_within q p) (ap (λ z. same_step t z) (su ∙ sym tu) ∙
          same_step_self t) h)
    ]

-- ---- lists

pub stays_among : (gone : Place) (xs : List Assertion) (a : Assertion) → Among a (assertions_left gone xs)
    → Among a xs × (is_within gone a.by ≡ false)
stays_among gone [] a m = absurd m
stays_among gone (x ∷ xs) a m = go (is_within gone x.by) refl m (stays_among gone xs a)
  where
    go : (b : Bool) → is_within gone x.by ≡ b
        → Among a (cond (not b) (x ∷ assertions_left gone xs) (assertions_left gone xs))
        → (Among a (assertions_left gone xs) → Among a xs × (is_within gone a.by ≡ false)) → Among a (x ∷ xs)
        × (is_within gone a.by ≡ false)
    go true e m ih = let r = ih m in (inr r.0, r.1)
    go false e (inl same) ih = (inl same, ap (λ (z : Assertion). is_within gone z.by) same ∙ e)
    go false e (inr m) ih = let r = ih m in (inr r.0, r.1)

pub among_stays : (gone : Place) (xs : List Assertion) (a : Assertion) → Among a xs
    → is_within gone a.by ≡ false
    → Among a (assertions_left gone xs)
among_stays gone [] a m out = absurd m
among_stays gone (x ∷ xs) a m out = go (is_within gone x.by) refl m (among_stays gone xs a)
  where
    go : (b : Bool) → is_within gone x.by ≡ b → Among a (x ∷ xs)
        → (Among a xs → is_within gone a.by ≡ false → Among a (assertions_left gone xs))
        → Among a (cond (not b) (x ∷ assertions_left gone xs) (assertions_left gone xs))
    go true e (inl same) ih =
        absurd (true≢false (sym e ∙ ap (λ (z : Assertion). is_within gone z.by) (sym same) ∙ out))
    go true e (inr m) ih = ih m out
    go false e (inl same) ih = inl same
    go false e (inr m) ih = inr (ih m out)

-- what stands at a place was asserted
pub kind_among : (xs : List Assertion) (p : Place) (k : Kind) → kind_at xs p ≡ Some k
    → (a : Assertion) × Among a xs × (a.place ≡ p) × (a.kind ≡ k)
kind_among [] p k e = absurd cc
kind_among (x ∷ xs) p k e = go (same_place x.place p) refl e (kind_among xs p k)
  where
    go : (b : Bool) → same_place x.place p ≡ b → cond b (Some x.kind) (kind_at xs p) ≡ Some k
        → (kind_at xs p ≡ Some k → (a : Assertion) × Among a xs × (a.place ≡ p) × (a.kind ≡ k))
        → (a : Assertion) × Among a (x ∷ xs) × (a.place ≡ p) × (a.kind ≡ k)
    go true t f ih = (x, inl refl, same_place_is x.place p t, same_Some x.kind k f)
    go false t f ih = let r = ih f in (r.0, inr r.1, r.2, r.3)

pub among_kind : (xs : List Assertion) (p : Place) (a : Assertion) → Among a xs → a.place ≡ p
    → kind_at xs p ≡ None → ⊥
among_kind [] p a m same none = m
among_kind (x ∷ xs) p a m same none = go (same_place x.place p) refl m none (among_kind xs p a)
  where
    go : (b : Bool) → same_place x.place p ≡ b → Among a (x ∷ xs) → cond b (Some x.kind) (kind_at xs p) ≡ None
        → (Among a xs → a.place ≡ p → kind_at xs p ≡ None → ⊥) → ⊥
    go true t m e ih = cc
    go false t (inl is) e ih =
        true≢false (sym (ap (λ (z : Assertion). same_place z.place p) (sym is) ∙
        ap (λ z. same_place z p) same ∙ same_place_self p) ∙ t)
    go false t (inr m) e ih = ih m same e

-- all assertions of the place and of those below it stay
abbrev pub AllStay : Place → List Assertion → Place → Type 0
AllStay gone xs p = (a : Assertion) → Among a xs → is_within p a.place ≡ true → is_within gone a.by ≡ false

-- ---- on the way

module _ (gone : Place) (made : List Assertion) (all : AreMade made made) where
  -- something stays at the place
  abbrev pub Stays : Place → Type 0
  Stays p = (a : Assertion) × Among a made × (a.place ≡ p) × (is_within gone a.by ≡ false)

  made_of : (a : Assertion) → Among a made → Made made a
  made_of a m = among_all (Made made) a made all m

  pub stays_kind : (p : Place) → Stays p → kind_at (assertions_left gone made) p ≡ None → ⊥
  stays_kind p (a, m, place, out) none = among_kind (assertions_left gone made) p a
      (among_stays gone made a m out) place none

  pub kind_stays : (p : Place) → (kind_at (assertions_left gone made) p ≡ None) ⊎ Stays p
  kind_stays p = go (kind_at (assertions_left gone made) p) refl
    where
      go : (o : Option Kind) → kind_at (assertions_left gone made) p ≡ o
          → (kind_at (assertions_left gone made) p ≡ None)
          ⊎ Stays p
      go None e = inl e
      go (Some k) e =
          let r = kind_among (assertions_left gone made) p k e in
          let s = stays_among gone made r.0 r.1 in
          inr (r.0, s.0, r.2, s.1)

  -- off the way to what is gone all assertions stay
  pub off_way : (p : Place) → is_within gone p ≡ false → is_within p gone ≡ false → AllStay gone made p
  off_way p below above a m low =
      by_test (is_within gone a.by)
      (λ e. elim (on_one_way gone p a.by e (inside_trans p a.place a.by low (made_of a m).upto)) [
        | inl h ↦ absurd (true≢false (sym h ∙ below))
        | inr h ↦ absurd (true≢false (sym h ∙ above))
      ])
      (λ e. e)

  -- what stays, stays on the whole way to the place that its statement names
  pub way_stays : (a : Assertion) → Among a made → is_within gone a.by ≡ false → (q : Place) → (q ≡ [] → ⊥)
      → is_within q a.by ≡ true → Stays q
  way_stays a m out q ne low =
      let g = (made_of a m).paved q ne low in (
        g.one,
        g.among,
        g.here,
        by_test (is_within gone g.one.by)
            (λ e. absurd (true≢false (sym (inside_trans gone g.one.by a.by e g.within) ∙ out))) (λ e. e),
      )

  pub up_stays : (p q : Place) → (q ≡ [] → ⊥) → is_within q p ≡ true → Stays p → Stays q
  up_stays p q ne low (a, m, place, out) =
      way_stays a m out q ne
      (inside_trans q p a.by low (subst (λ z. is_within z a.by ≡ true) place (made_of a m).upto))

  -- nothing stays at the place that is gone, nor below it
  pub gone_stays : (p : Place) → is_within gone p ≡ true → Stays p → ⊥
  gone_stays p low (a, m, place, out) =
      true≢false (sym (inside_trans gone p a.by low
      (subst (λ z. is_within z a.by ≡ true) place (made_of a m).upto)) ∙ out)

  -- an assertion by the place itself stays
  pub own_stays : (p : Place) (a : Assertion) → Among a made → a.place ≡ p → owns a.kind ≡ true
      → is_within gone p ≡ false → Stays p
  own_stays p a m place own out =
      (a, m, place, ap (λ z. is_within gone z) ((made_of a m).owner own ∙ place) ∙ out)

  -- what nothing has for itself stays with one of its parts
  pub part_stays : (p : Place) → IsOpen p made → Stays p → (s : Step) × Stays (at p s)
  part_stays p free (a, m, place, out) =
      let goes : owns a.kind ≡ false =
      by_test (owns a.kind)
      (λ e. absurd (true≢false
      (sym (and_from (owns a.kind) (same_place a.place p) e (ap (λ z. same_place z p) place ∙
      same_place_self p))
      ∙ among_all (λ x. (owns x.kind && same_place x.place p) ≡ false) a made free m))) (λ e. e) in
      let s = (made_of a m).goes goes in (
        s.0,
        way_stays a m out (at p s.0) (not_root p s.0) (ap (λ z. is_within (at z s.0) a.by) (sym place) ∙
            s.1),
      )

  -- an element that stands has its place for itself
  pub index_own : (p : Place) (i : ℕ) (a : Assertion) → Among a made → a.place ≡ at p (index i)
      → (b : Assertion) × Among b made × (b.place ≡ at p (index i)) × (owns b.kind ≡ true)
  index_own p i a m place =
      let g = (made_of a m).paved (at p (index i)) (not_root p (index i))
      (subst (λ z. is_within z a.by ≡ true) place (made_of a m).upto) in (
        g.one,
        g.among,
        g.here,
        by_test (owns g.one.kind) (λ e. e)
            (λ e. let s = (made_of g.one g.among).goes e in
            absurd (not_within g.one.place s.0
            (ap (λ z. is_within (at g.one.place s.0) z) (sym (g.own p i refl ∙ sym g.here)) ∙ s.1))),
      )
    where
      not_within : (q : Place) (s : Step) → is_within (at q s) q ≡ true → ⊥
      not_within [] s e = true≢false (sym e)
      not_within (x ∷ q) s e = not_within q s (and_parts (same_step x x) (is_within (at q s) q) e).1
