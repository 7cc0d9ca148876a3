-- A value that is neither an array nor an inline table defines nothing below its place.
use Rattle.std.proofs.Common.{◌≡◌, true, false, if◌then◌else◌, List, [], ◌∷◌, None, Some, refl, sym, ap, ap₂, ◌∙◌, subst, ◌⊎◌, inl, inr, ⊎_elim, true≢false}
use Rattle.std.proofs.lemmas.Bool.{and_parts, and_from}
use Rattle.std.specs.List.{AllByRecursion}
use Rattle.edit_syntax.specs.Grammar.{Value, Text}
use Rattle.edit_tree.specs.Assertions.{Place, Step, at, same_step, same_place, Kind, leaf, Assertion, assertions, are_compatible, AreCompatible}
use Rattle.edit_tree.specs.Tree.{kind_at}
use Rattle.edit_tree.specs.Replaces.{is_below}
use Rattle.edit_tree.proofs.ThinnedLines.{leaf_alone}
use Rattle.edit_syntax.proofs.Cases.{by_test}
use Rattle.edit_tree.proofs.SamePlace.{same_step_is, same_place_is, same_place_self}
use Rattle.edit_tree.proofs.NothingBelow.{opens, Opened, Stands, onto, Rooted, done, next, rooted}

-- ---- nothing below a plain value

abbrev pub AnyBelow : Place → List Assertion → Type 0
AnyBelow target [] = ⊥
AnyBelow target (y ∷ ys) = (is_below target y.place ≡ true) ⊎ AnyBelow target ys

-- a place directly below the target or deeper has a parent that is the target or deeper
parent : (target p : Place) (s : Step) → is_below target (at p s) ≡ true → (p ≡ target)
    ⊎ (is_below target p ≡ true)
parent [] [] s e = inl refl
parent [] (t ∷ ts) s e = inr refl
parent (u ∷ []) [] s e = absurd (true≢false (sym (and_parts (same_step u s) false e).1))
parent (u ∷ v ∷ us) [] s e = absurd (true≢false (sym (and_parts (same_step u s) false e).1))
parent (u ∷ us) (t ∷ ts) s e =
    let h = and_parts (same_step u t) (is_below us (at ts s)) e in
    ⊎_elim (λ q. inl (ap₂ (λ x xs. x ∷ xs) (sym (same_step_is u t h.0)) q))
    (λ q. inr (and_from (same_step u t) (is_below us ts) h.0 q)) (parent us ts s h.1)

any_opened : (target : Place) (made : List Assertion) (p : Place) → is_below target p ≡ true → Opened made p
    → AnyBelow target made
any_opened target [] p b o = absurd o
any_opened target (y ∷ ys) p b (inl h) = inl (ap (λ q. is_below target q) h.0 ∙ b)
any_opened target (y ∷ ys) p b (inr o) = inr (any_opened target ys p b o)

below_root : (t : Step) (ts : Place) (s : Step) → is_below (t ∷ ts) (s ∷ []) ≡ true → ⊥
below_root t [] s e = true≢false (sym (and_parts (same_step t s) false e).1)
below_root t (u ∷ us) s e = true≢false (sym (and_parts (same_step t s) false e).1)

pub opened_below : (t : Step) (ts : Place) (base xs : List Assertion) → Rooted base xs
    → (AnyBelow (t ∷ ts) base → Opened base (t ∷ ts)) → AnyBelow (t ∷ ts) (onto xs base)
    → Opened (onto xs base) (t ∷ ts)
opened_below t ts base xs (done b) so any = so any
opened_below t ts base xs (next b x zs p s e st r) so any = opened_below t ts (x ∷ b) zs r here any
  where
    here : AnyBelow (t ∷ ts) (x ∷ b) → Opened (x ∷ b) (t ∷ ts)
    here (inr more) = inr (so more)
    here (inl low) = inr (under (parent (t ∷ ts) p s (ap (λ q. is_below (t ∷ ts) q) (sym e) ∙ low)) st)
      where
        under : (p ≡ t ∷ ts) ⊎ (is_below (t ∷ ts) p ≡ true) → Stands b p → Opened b (t ∷ ts)
        under (inl same) (inl root) = absurd cc
        under (inl same) (inr o) = subst (λ q. Opened b q) same o
        under (inr deep) (inl root) = absurd (true≢false (sym deep ∙ ap (λ q. is_below (t ∷ ts) q) root))
        under (inr deep) (inr o) = so (any_opened (t ∷ ts) b p deep o)

-- the value at the target, as it is written in a text
abbrev pub HasLeaf : Place → Value → List Assertion → Type 0
HasLeaf target b [] = ⊥
HasLeaf target b (y ∷ ys) = ((y.place ≡ target) × (y.kind ≡ leaf b)) ⊎ HasLeaf target b ys

with_leaf : (target : Place) (b : Value) (k : Kind) (p : Place) (ys : List Assertion) → p ≡ target
    → HasLeaf target b ys → AllByRecursion (λ y. p ≡ y.place → are_compatible k y.kind ≡ true) ys → ⊥
with_leaf target b k p [] e has all = has
with_leaf target b k p (y ∷ ys) e (inl h) all = true≢false (sym (all.0 (e ∙ sym h.0)) ∙ ap (are_compatible k) h.1 ∙
    leaf_alone k b)
with_leaf target b k p (y ∷ ys) e (inr has) all = with_leaf target b k p ys e has all.1

with_opened : (target : Place) (b : Value) (p : Place) (ys : List Assertion) → p ≡ target → Opened ys target
    → AllByRecursion (λ y. p ≡ y.place → are_compatible (leaf b) y.kind ≡ true) ys → ⊥
with_opened target b p [] e o all = o
with_opened target b p (y ∷ ys) e (inl h) all = true≢false (sym (all.0 (e ∙ sym h.0)))
with_opened target b p (y ∷ ys) e (inr o) all = with_opened target b p ys e o all.1

-- a plain value is not opened
not_opened : (target : Place) (b : Value) (made : List Assertion) → opens (leaf b) ≡ false
    → AreCompatible made
    → HasLeaf target b made → Opened made target → ⊥
not_opened target b [] shut clash has o = o
not_opened target b (y ∷ ys) shut clash (inl h) (inl o) = true≢false (sym o.1 ∙ ap opens h.1 ∙ shut)
not_opened target b (y ∷ ys) shut clash (inl h) (inr o) =
    with_opened target b y.place ys h.0 o
    (subst (λ k. AllByRecursion (λ z. y.place ≡ z.place → are_compatible k z.kind ≡ true) ys) h.1 clash.0)
not_opened target b (y ∷ ys) shut clash (inr has) (inl o) =
    with_leaf target b y.kind y.place ys o.0 has clash.0
not_opened target b (y ∷ ys) shut clash (inr has) (inr o) = not_opened target b ys shut clash.1 has o

none_there : (target q : Place) (made : List Assertion) → is_below target q ≡ true
    → (AnyBelow target made → ⊥) → kind_at made q ≡ None
none_there target q [] low none_low = refl
none_there target q (y ∷ ys) low none_low =
    by_test (same_place y.place q)
    (λ h. absurd (none_low (inl (ap (λ r. is_below target r) (same_place_is y.place q h) ∙ low))))
    (λ h. ap (λ c. if c then Some y.kind else kind_at ys q) h ∙
    none_there target q ys low (λ a. none_low (inr a)))

onto_any : (target : Place) (xs base : List Assertion) → AnyBelow target base → AnyBelow target (onto xs base)
onto_any target [] base a = a
onto_any target (x ∷ xs) base a = onto_any target xs (x ∷ base) (inr a)

any_onto : (target : Place) (xs base : List Assertion) → AnyBelow target xs → AnyBelow target (onto xs base)
any_onto target [] base a = absurd a
any_onto target (x ∷ xs) base (inl h) = onto_any target xs (x ∷ base) (inl h)
any_onto target (x ∷ xs) base (inr a) = any_onto target xs (x ∷ base) a

opened_from : (xs base : List Assertion) (p : Place) → Opened (onto xs base) p → Opened xs p ⊎ Opened base p
opened_from [] base p o = inr o
opened_from (x ∷ xs) base p o = ⊎_elim (λ l. inl (inr l)) (λ r. first r) (opened_from xs (x ∷ base) p o)
  where
    first : Opened (x ∷ base) p → Opened (x ∷ xs) p ⊎ Opened base p
    first (inl h) = inl (inl h)
    first (inr o) = inr o

-- in a text without clashes nothing shows below a plain value
pub shut_below : (t : Text) (s : Step) (ss q : Place) (b : Value) → opens (leaf b) ≡ false
    → AreCompatible (assertions t) → HasLeaf (s ∷ ss) b (assertions t) → is_below (s ∷ ss) q ≡ true
    → kind_at (assertions t) q ≡ None
shut_below t s ss q b shut clash has low =
    none_there (s ∷ ss) q (assertions t) low
    (λ any. ⊎_elim (not_opened (s ∷ ss) b (assertions t) shut clash has) (λ z. z)
    (opened_from (assertions t) [] (s ∷ ss) (opened_below s ss [] (assertions t) (rooted t) (λ z. absurd z)
    (any_onto (s ∷ ss) (assertions t) [] any))))

-- and the value itself shows
pub leaf_there : (target : Place) (b : Value) (made : List Assertion) → AreCompatible made
    → HasLeaf target b made
    → kind_at made target ≡ Some (leaf b)
leaf_there target b [] clash has = absurd has
leaf_there target b (y ∷ ys) clash (inl h) =
    ap (λ c. if c then Some y.kind else kind_at ys target) (ap (λ r. same_place r target) h.0 ∙
    same_place_self target) ∙ ap Some h.1
leaf_there target b (y ∷ ys) clash (inr has) =
    by_test (same_place y.place target)
    (λ h. absurd (with_leaf target b y.kind y.place ys (same_place_is y.place target h) has clash.0))
    (λ h. ap (λ c. if c then Some y.kind else kind_at ys target) h ∙ leaf_there target b ys clash.1 has)
