-- One assertion more: the members and the elements of a place.
use Rattle.std.proofs.Common.{◌≡◌, ℕ, suc, Bool, true, false, cond, not, ◌&&◌, List, [], ◌∷◌, ◌++◌, Option, Some, None, is_some, refl, sym, ap, ◌∙◌}
use Rattle.std.specs.List.{filter, filter_map, cons_option, list_any}
use Rattle.std.proofs.lemmas.List.{append-nil}
use Rattle.std.proofs.lemmas.List.Elements.{filter-append, filter_map-append}
use Rattle.edit_tree.specs.Assertions.{Step, key, index, Place, at, same_step, same_place, Kind, leaf, element_kind, Assertion}
use Rattle.edit_tree.specs.Tree.{step_from, once, members_of, kind_at}
use Rattle.edit_tree.proofs.SamePlace.{same_step_self, same_step_is, same_place_self, other_place, last_same}
use Rattle.edit_tree.proofs.Below.{step_from_at, step_from_is}
use Rattle.edit_syntax.proofs.Cases.{or_false}

-- ---- members

abbrev pub steps : List Assertion → Place → List Step
steps made p = filter_map (λ a. step_from p a.place) made

abbrev pub has : Step → List Step → Bool
has x xs = list_any (λ s. same_step s x) xs

once_new : (xs : List Step) (x : Step) → has x xs ≡ false → once (xs ++ x ∷ []) ≡ once xs ++ x ∷ []
once_new [] x e = refl
once_new (s ∷ ss) x e =
    let parts = or_false (same_step s x) (has x ss) e in
    ap (λ (ts : List Step). s ∷ filter (λ t. not (same_step s t)) ts) (once_new ss x parts.1)
    ∙ ap (λ (ts : List Step). s ∷ ts) (filter-append (λ t. not (same_step s t)) (once ss) (x ∷ []))
    ∙ ap (λ (b : Bool). s ∷ (filter (λ t. not (same_step s t)) (once ss) ++ cond (not b) (x ∷ []) [])) parts.0

once_old : (xs : List Step) (x : Step) → has x xs ≡ true → once (xs ++ x ∷ []) ≡ once xs
once_old [] x e = absurd cc
once_old (s ∷ ss) x e = first (same_step s x) refl (once_old ss x)
  where
    later : (b : Bool) → has x ss ≡ b → same_step s x ≡ true
        → (has x ss ≡ true → once (ss ++ x ∷ []) ≡ once ss)
        → s ∷ filter (λ t. not (same_step s t)) (once (ss ++ x ∷ []))
        ≡ s ∷ filter (λ t. not (same_step s t)) (once ss)
    later true h same ih = ap (λ (ts : List Step). s ∷ filter (λ t. not (same_step s t)) ts) (ih h)
    later false h same ih =
        ap (λ (ts : List Step). s ∷ filter (λ t. not (same_step s t)) ts) (once_new ss x h)
        ∙ ap (λ (ts : List Step). s ∷ ts) (filter-append (λ t. not (same_step s t)) (once ss) (x ∷ []))
        ∙ ap (λ (b : Bool). s ∷ (filter (λ t. not (same_step s t)) (once ss) ++ cond (not b) (x ∷ []) []))
        same
        ∙ ap (λ (ts : List Step). s ∷ ts) (append-nil (filter (λ t. not (same_step s t)) (once ss)))

    first : (b : Bool) → same_step s x ≡ b → (has x ss ≡ true → once (ss ++ x ∷ []) ≡ once ss)
        → s ∷ filter (λ t. not (same_step s t)) (once (ss ++ x ∷ []))
        ≡ s ∷ filter (λ t. not (same_step s t)) (once ss)
    first true same ih = later (has x ss) refl same ih
    first false other ih =
        let there : has x ss ≡ true = rw other at e in
        ap (λ (ts : List Step). s ∷ filter (λ t. not (same_step s t)) ts) (ih there)

-- a step is among those below a place exactly where something stands there
pub has_step : (made : List Assertion) (p : Place) (x : Step)
    → has x (steps made p) ≡ is_some (kind_at made (at p x))
has_step [] p x = refl
has_step (a ∷ made) p x = go (step_from p a.place) refl (has_step made p x)
  where
    here : (y : Step) (b : Bool) → same_step y x ≡ b → step_from p a.place ≡ Some y
        → has x (steps made p) ≡ is_some (kind_at made (at p x))
        → has x (y ∷ steps made p) ≡ is_some (kind_at (a ∷ made) (at p x))
    here y true t e ih =
        let place : a.place ≡ at p x = step_from_is p a.place y e ∙ ap (at p) (same_step_is y x t) in
        let same : same_place a.place (at p x) ≡ true = ap (λ (q : Place). same_place q (at p x)) place ∙
        same_place_self (at p x) in
        rw (t, same) refl
    here y false t e ih =
        let ne : a.place ≡ at p x → ⊥ = λ place. let s =
        (last_same p p y x (sym (step_from_is p a.place y e) ∙ place)).1 in
        let u : same_step y x ≡ true = ap (λ (z : Step). same_step z x) s ∙ same_step_self x in cc in
        rw (t, other_place a.place (at p x) ne) ih

    go : (o : Option Step) → step_from p a.place ≡ o → has x (steps made p) ≡ is_some (kind_at made (at p x))
        → has x (steps (a ∷ made) p) ≡ is_some (kind_at (a ∷ made) (at p x))
    go None e ih =
        let ne : a.place ≡ at p x → ⊥ = λ place. let s : step_from p a.place ≡ Some x =
        ap (step_from p) place ∙ step_from_at p x in let u : None ≡ Some x = sym e ∙ s in cc in
        rw (e, other_place a.place (at p x) ne) ih
    go (Some y) e ih = rw e (here y (same_step y x) refl e ih)

steps_more : (made : List Assertion) (a : Assertion) (p : Place)
    → steps (made ++ a ∷ []) p ≡ steps made p ++ cons_option (step_from p a.place) []
steps_more made a p = filter_map-append (λ b. step_from p b.place) made (a ∷ [])

steps_here : (made : List Assertion) (a : Assertion) (p : Place) (x : Step) → a.place ≡ at p x
    → steps (made ++ a ∷ []) p ≡ steps made p ++ x ∷ []
steps_here made a p x e = steps_more made a p ∙ ap (λ (o : Option Step). steps made p ++ cons_option o [])
    (ap (step_from p) e ∙ step_from_at p x)

pub members_new : (made : List Assertion) (a : Assertion) (p : Place) (x : Step) → a.place ≡ at p x
    → kind_at made (at p x) ≡ None → members_of (made ++ a ∷ []) p ≡ members_of made p ++ x ∷ []
members_new made a p x e none = ap once (steps_here made a p x e) ∙
    once_new (steps made p) x (has_step made p x ∙ ap is_some none)

pub members_old : (made : List Assertion) (a : Assertion) (p : Place) (x : Step) (k : Kind) → a.place ≡ at p x
    → kind_at made (at p x) ≡ Some k → members_of (made ++ a ∷ []) p ≡ members_of made p
members_old made a p x k e some = ap once (steps_here made a p x e) ∙
    once_old (steps made p) x (has_step made p x ∙ ap is_some some)

pub members_else : (made : List Assertion) (a : Assertion) (p : Place) → ((x : Step) → a.place ≡ at p x → ⊥)
    → members_of (made ++ a ∷ []) p ≡ members_of made p
members_else made a p ne = ap once (steps_more made a p ∙ go (step_from p a.place) refl)
  where
    go : (o : Option Step) → step_from p a.place ≡ o → steps made p ++ cons_option o [] ≡ steps made p
    go None e = append-nil (steps made p)
    go (Some x) e = absurd (ne x (step_from_is p a.place x e))

-- an assertion of a place where something stands changes no members
pub members_again : (made : List Assertion) (a : Assertion) (p : Place) (k : Kind)
    → kind_at made a.place ≡ Some k → members_of (made ++ a ∷ []) p ≡ members_of made p
members_again made a p k some = go (step_from p a.place) refl
  where
    go : (o : Option Step) → step_from p a.place ≡ o → members_of (made ++ a ∷ []) p ≡ members_of made p
    go None e = members_else made a p (λ x place. let s : step_from p a.place
        ≡ Some x = ap (step_from p) place ∙ step_from_at p x in let u : None ≡ Some x = sym e ∙ s in cc)
    go (Some x) e = let place = step_from_is p a.place x e in
        members_old made a p x k place (ap (kind_at made) (sym place) ∙ some)

nothing_later : (a : Assertion) (made : List Assertion) (p : Place) → kind_at (a ∷ made) p ≡ None
    → kind_at made p ≡ None
nothing_later a made p h = go (same_place a.place p) h
  where
    go : (b : Bool) → cond b (Some a.kind) (kind_at made p) ≡ None → kind_at made p ≡ None
    go true e = absurd cc
    go false e = e

nothing_first : (a : Assertion) (made : List Assertion) (p : Place) (x : Step)
    → kind_at (a ∷ made) (at p x) ≡ None → step_from p a.place ≡ Some x → ⊥
nothing_first a made p x h e =
    let place = step_from_is p a.place x e in
    let same : same_place a.place (at p x) ≡ true = ap (λ (q : Place). same_place q (at p x)) place ∙
    same_place_self (at p x) in
    let some : Some a.kind ≡ None = rw same at h in
    cc

steps_none : (made : List Assertion) (p : Place) → ((x : Step) → kind_at made (at p x) ≡ None)
    → steps made p ≡ []
steps_none [] p h = refl
steps_none (a ∷ made) p h = pick (step_from p a.place) refl
    (steps_none made p (λ x. nothing_later a made (at p x) (h x)))
  where
    pick : (o : Option Step) → step_from p a.place ≡ o → steps made p ≡ [] → steps (a ∷ made) p ≡ []
    pick None e ih = rw e ih
    pick (Some x) e ih = absurd (nothing_first a made p x (h x) e)

pub members_none : (made : List Assertion) (p : Place) → ((x : Step) → kind_at made (at p x) ≡ None)
    → members_of made p ≡ []
members_none made p none = ap once (steps_none made p none)

-- ---- elements

abbrev is_index : Option Step → Bool
is_index (Some (index i)) = true
is_index _ = false

abbrev pub is_element : Kind → Bool
is_element element_kind = true
is_element _ = false

-- what headers make of a place, and not a value
abbrev pub is_headed : Kind → Bool
is_headed (leaf v) = false
is_headed _ = true

-- how many elements of a place headers asserted
abbrev pub elements_below : List Assertion → Place → ℕ
elements_below [] p = 0
elements_below (a ∷ made) p = cond (is_element a.kind && is_index (step_from p a.place))
    (suc (elements_below made p)) (elements_below made p)

elements_more : (made : List Assertion) (a : Assertion) (p : Place) (b : Bool)
    → (is_element a.kind && is_index (step_from p a.place)) ≡ b
    → elements_below (made ++ a ∷ []) p ≡ cond b (suc (elements_below made p)) (elements_below made p)
elements_more [] a p b e = ap (λ (x : Bool). cond x 1 0) e
elements_more (c ∷ made) a p b e = go (is_element c.kind && is_index (step_from p c.place)) b
    (elements_more made a p b e)
  where
    go : (x y : Bool) → elements_below (made ++ a ∷ []) p
        ≡ cond y (suc (elements_below made p)) (elements_below made p)
        → cond x (suc (elements_below (made ++ a ∷ []) p)) (elements_below (made ++ a ∷ []) p)
        ≡ cond y (suc (cond x (suc (elements_below made p)) (elements_below made p)))
        (cond x (suc (elements_below made p)) (elements_below made p))
    go true true ih = ap suc ih
    go true false ih = ap suc ih
    go false true ih = ih
    go false false ih = ih

pub elements_stay : (made : List Assertion) (a : Assertion) (p : Place) → is_element a.kind ≡ false
    → elements_below (made ++ a ∷ []) p ≡ elements_below made p
elements_stay made a p e =
    elements_more made a p false (ap (λ (b : Bool). b && is_index (step_from p a.place)) e)

pub elements_grow : (made : List Assertion) (a : Assertion) (p : Place) (i : ℕ) → is_element a.kind ≡ true
    → a.place ≡ at p (index i) → elements_below (made ++ a ∷ []) p ≡ suc (elements_below made p)
elements_grow made a p i e place =
    elements_more made a p true (ap (λ (b : Bool). b && is_index (step_from p a.place)) e ∙
    ap (λ (o : Option Step). is_index o) (ap (step_from p) place ∙ step_from_at p (index i)))

pub elements_else : (made : List Assertion) (a : Assertion) (p : Place)
    → ((i : ℕ) → a.place ≡ at p (index i) → ⊥) → elements_below (made ++ a ∷ []) p ≡ elements_below made p
elements_else made a p ne = elements_more made a p false (go (step_from p a.place) refl)
  where
    none : (b : Bool) → (b && false) ≡ false
    none true = refl
    none false = refl

    go : (o : Option Step) → step_from p a.place ≡ o → (is_element a.kind && is_index (step_from p a.place))
        ≡ false
    go None e = rw e (none (is_element a.kind))
    go (Some (key n)) e = rw e (none (is_element a.kind))
    go (Some (index i)) e = absurd (ne i (step_from_is p a.place (index i) e))

pub elements_none : (made : List Assertion) (p : Place) → ((x : Step) → kind_at made (at p x) ≡ None)
    → elements_below made p ≡ 0
elements_none [] p h = refl
elements_none (a ∷ made) p h = pick (step_from p a.place) refl
    (elements_none made p (λ x. nothing_later a made (at p x) (h x)))
  where
    none : (b : Bool) → (b && false) ≡ false
    none true = refl
    none false = refl

    pick : (o : Option Step) → step_from p a.place ≡ o → elements_below made p ≡ 0
        → elements_below (a ∷ made) p ≡ 0
    pick None e ih = rw (e, none (is_element a.kind)) ih
    pick (Some x) e ih = absurd (nothing_first a made p x (h x) e)
