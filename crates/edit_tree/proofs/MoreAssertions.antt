-- One more assertion: the view at each place, the members, and what may follow.
use Rattle.std.proofs.Common.{◌≡◌, ◌≤◌, Bool, true, false, cond, ◌&&◌, List, [], ◌∷◌, ◌++◌, length, Option, Some, None, refl, sym, ap, ◌∙◌, ◌⊎◌, inl, inr}
use Rattle.edit_tree.specs.Assertions.{Place, same_place, Kind, header_kind, Assertion, are_compatible, AreCompatible, AreShort}
use Rattle.edit_tree.specs.Tree.{kind_at}
use Rattle.edit_tree.proofs.SamePlace.{same_place_self, same_place_is, other_place}
use Rattle.edit_tree.proofs.Below.{all_front, all_push, all_last}
use Rattle.std.proofs.lemmas.Bool.{and_parts}

-- ---- what stands at a place

abbrev first_of : Option Kind → Option Kind → Option Kind
first_of (Some k) o = Some k
first_of None o = o

kind_more : (made : List Assertion) (a : Assertion) (p : Place)
    → kind_at (made ++ a ∷ []) p ≡ first_of (kind_at made p) (cond (same_place a.place p) (Some a.kind) None)
kind_more [] a p = refl
kind_more (b ∷ made) a p = go (same_place b.place p) (kind_more made a p)
  where
    go : (x : Bool) → kind_at (made ++ a ∷ []) p ≡ first_of (kind_at made p)
        (cond (same_place a.place p) (Some a.kind) None)
        → cond x (Some b.kind) (kind_at (made ++ a ∷ []) p)
        ≡ first_of (cond x (Some b.kind) (kind_at made p)) (cond (same_place a.place p) (Some a.kind) None)
    go true ih = refl
    go false ih = ih

pub kind_stays : (made : List Assertion) (a : Assertion) (p : Place) (k : Kind) → kind_at made p ≡ Some k
    → kind_at (made ++ a ∷ []) p ≡ Some k
kind_stays made a p k e = kind_more made a p ∙
    ap (λ (o : Option Kind). first_of o (cond (same_place a.place p) (Some a.kind) None)) e

pub kind_new : (made : List Assertion) (a : Assertion) (p : Place) → a.place ≡ p → kind_at made p ≡ None
    → kind_at (made ++ a ∷ []) p ≡ Some a.kind
kind_new made a p same e =
    kind_more made a p ∙
    ap (λ (o : Option Kind). first_of o (cond (same_place a.place p) (Some a.kind) None)) e
    ∙ ap (λ (b : Bool). cond b (Some a.kind) None) (ap (λ (q : Place). same_place q p) same ∙
    same_place_self p)

pub kind_else : (made : List Assertion) (a : Assertion) (p : Place) → (a.place ≡ p → ⊥)
    → kind_at (made ++ a ∷ []) p ≡ kind_at made p
kind_else made a p ne =
    kind_more made a p ∙ ap (λ (b : Bool). first_of (kind_at made p) (cond b (Some a.kind) None))
    (other_place a.place p ne) ∙ go (kind_at made p)
  where
    go : (o : Option Kind) → first_of o None ≡ o
    go None = refl
    go (Some k) = refl

pub kind_back : (made : List Assertion) (a : Assertion) (p : Place) (k : Kind)
    → kind_at (made ++ a ∷ []) p ≡ Some k → (kind_at made p ≡ Some k) ⊎ (a.place ≡ p)
kind_back made a p k e = go (same_place a.place p) refl
  where
    go : (b : Bool) → same_place a.place p ≡ b → (kind_at made p ≡ Some k) ⊎ (a.place ≡ p)
    go true h = inr (same_place_is a.place p h)
    go false h = inl (sym
        (kind_else made a p (λ same. let t : same_place a.place p
        ≡ true = ap (λ (q : Place). same_place q p) same ∙ same_place_self p in cc)) ∙ e)

-- the kind that the first assertion of a place gives it; the root is a table
abbrev pub first_kind : List Assertion → Place → Option Kind
first_kind made [] = Some header_kind
first_kind made (s ∷ ss) = kind_at made (s ∷ ss)

pub first_stays : (made : List Assertion) (a : Assertion) (p : Place) (k : Kind) → first_kind made p ≡ Some k
    → first_kind (made ++ a ∷ []) p ≡ Some k
first_stays made a [] k e = e
first_stays made a (s ∷ ss) k e = kind_stays made a (s ∷ ss) k e

pub first_is : (made : List Assertion) (p : Place) → (p ≡ [] → ⊥) → first_kind made p ≡ kind_at made p
first_is made [] ne = absurd (ne refl)
first_is made (s ∷ ss) ne = refl

-- ---- which may follow

-- an assertion of this kind may stand with all those on the place
abbrev pub allowed : List Assertion → Place → Kind → Bool
allowed [] p k = true
allowed (a ∷ made) p k = cond (same_place a.place p) (are_compatible a.kind k) true && allowed made p k

and_assoc : (x y z : Bool) → (x && (y && z)) ≡ ((x && y) && z)
and_assoc true y z = refl
and_assoc false y z = refl

and_true : (x : Bool) → (x && true) ≡ x
and_true true = refl
and_true false = refl

pub allowed_more : (made : List Assertion) (a : Assertion) (p : Place) (k : Kind)
    → allowed (made ++ a ∷ []) p k
    ≡ (allowed made p k && cond (same_place a.place p) (are_compatible a.kind k) true)
allowed_more [] a p k = and_true (cond (same_place a.place p) (are_compatible a.kind k) true)
allowed_more (b ∷ made) a p k =
    ap (λ (x : Bool). cond (same_place b.place p) (are_compatible b.kind k) true && x) (allowed_more made a p k)
    ∙ and_assoc (cond (same_place b.place p) (are_compatible b.kind k) true) (allowed made p k)
    (cond (same_place a.place p) (are_compatible a.kind k) true)

pub allowed_else : (made : List Assertion) (a : Assertion) (p : Place) (k : Kind) → (a.place ≡ p → ⊥)
    → allowed (made ++ a ∷ []) p k ≡ allowed made p k
allowed_else made a p k ne = allowed_more made a p k ∙
    ap (λ (b : Bool). allowed made p k && cond b (are_compatible a.kind k) true) (other_place a.place p ne) ∙
    and_true (allowed made p k)

pub allowed_here : (made : List Assertion) (a : Assertion) (p : Place) (k : Kind) → a.place ≡ p
    → allowed (made ++ a ∷ []) p k ≡ (allowed made p k && are_compatible a.kind k)
allowed_here made a p k same = allowed_more made a p k ∙
    ap (λ (b : Bool). allowed made p k && cond b (are_compatible a.kind k) true)
    (ap (λ (q : Place). same_place q p) same ∙ same_place_self p)

pub allowed_none : (made : List Assertion) (p : Place) (k : Kind) → kind_at made p ≡ None
    → allowed made p k ≡ true
allowed_none [] p k e = refl
allowed_none (a ∷ made) p k e = go (same_place a.place p) e (allowed_none made p k)
  where
    go : (b : Bool) → cond b (Some a.kind) (kind_at made p) ≡ None
        → (kind_at made p ≡ None → allowed made p k ≡ true)
        → (cond b (are_compatible a.kind k) true && allowed made p k) ≡ true
    go true h ih = absurd cc
    go false h ih = ih h

-- no two clash, and each place is short
pub record IsClear (made : List Assertion) : Type 0 where
  pub apart : AreCompatible made
  pub short : AreShort made

apart_front : (made more : List Assertion) → AreCompatible (made ++ more) → AreCompatible made
apart_front [] more h = tt
apart_front (a ∷ made) more h = (
  all_front (λ b. a.place ≡ b.place → are_compatible a.kind b.kind ≡ true) made more h.0,
  apart_front made more h.1,
)

pub clear_front : (made more : List Assertion) → IsClear (made ++ more) → IsClear made
clear_front made more h =
    record {
      apart = apart_front made more h.apart;
      short = all_front (λ a. length a.place ≤ 80) made more h.short;
    }

apart_more : (made : List Assertion) (a : Assertion) → AreCompatible made → allowed made a.place a.kind ≡ true
    → AreCompatible (made ++ a ∷ [])
apart_more [] a h e = (tt, tt)
apart_more (b ∷ made) a h e =
    let parts = and_parts (cond (same_place b.place a.place) (are_compatible b.kind a.kind) true)
    (allowed made a.place a.kind) e in (
      all_push (λ c. b.place ≡ c.place → are_compatible b.kind c.kind ≡ true) made a h.0
          (λ same. sym (ap (λ (x : Bool). cond x (are_compatible b.kind a.kind) true)
          (ap (λ (q : Place). same_place q a.place) same ∙ same_place_self a.place)) ∙ parts.0),
      apart_more made a h.1 parts.1,
    )

apart_last : (made : List Assertion) (a : Assertion) → AreCompatible (made ++ a ∷ [])
    → allowed made a.place a.kind ≡ true
apart_last [] a h = refl
apart_last (b ∷ made) a h = go (same_place b.place a.place) refl (apart_last made a h.1)
  where
    go : (x : Bool) → same_place b.place a.place ≡ x → allowed made a.place a.kind ≡ true
        → (cond (same_place b.place a.place) (are_compatible b.kind a.kind) true && allowed made a.place a.kind)
        ≡ true
    go true e ih =
        let t : are_compatible b.kind a.kind ≡ true = all_last (λ c. b.place ≡ c.place
        → are_compatible b.kind c.kind ≡ true) made a h.0 (same_place_is b.place a.place e) in
        rw (e, t) ih
    go false e ih = rw e ih

pub clear_more : (made : List Assertion) (a : Assertion) → IsClear made → allowed made a.place a.kind ≡ true
    → length a.place ≤ 80 → IsClear (made ++ a ∷ [])
clear_more made a h e le =
    record {
      apart = apart_more made a h.apart e;
      short = all_push (λ b. length b.place ≤ 80) made a h.short le;
    }

pub clash_last : (made : List Assertion) (a : Assertion) → IsClear (made ++ a ∷ [])
    → allowed made a.place a.kind ≡ true
clash_last made a h = apart_last made a h.apart

pub short_last : (made : List Assertion) (a : Assertion) → IsClear (made ++ a ∷ []) → length a.place ≤ 80
short_last made a h = all_last (λ b. length b.place ≤ 80) made a h.short
