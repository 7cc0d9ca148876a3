-- In a document each value comes before the values inside it: no later value is at or above its place.
use Rattle.std.proofs.Common.{◌≡◌, Bool, true, false, if◌then◌else◌, List, [], ◌∷◌, None, Some, refl, sym, ap, ◌∙◌, subst, inl, inr, ⊎_elim, true≢false}
use Rattle.std.specs.List.{AllByRecursion, cons_option}
use Rattle.edit_syntax.specs.Grammar.{Text}
use Rattle.edit_syntax.proofs.Cases.{by_test}
use Rattle.edit_syntax.proofs.Members.{Among, among_all, filter_among}
use Rattle.edit_tree.specs.EditBytes.{is_within}
use Rattle.edit_tree.specs.Assertions.{Place, Step, Kind, dotted, leaf, super, header_kind, array_kind, element_kind, Assertion, assertions, are_compatible, AreCompatible}
use Rattle.edit_tree.specs.Written.{values}
use Rattle.edit_tree.proofs.NothingBelow.{Opened, Rooted, done, next, rooted}
use Rattle.edit_tree.proofs.PlainValues.{AnyBelow, opened_below}
use Rattle.edit_tree.proofs.SamePlace.{not_root}
use Rattle.edit_tree.proofs.SamePlaces.{within_cases}
use Rattle.edit_tree.proofs.ThinnedForms.{is_leaf}
use Rattle.edit_tree.proofs.ThinnedLines.{leaf_alone}
use Rattle.edit_tree.proofs.UniqueValues.{leaf_place, leaves, places, lines_leaves}

-- no later place is this one or above it
abbrev pub Rising : List Place → Type 0
Rising [] = Unit {0}
Rising (p ∷ ps) = AllByRecursion (λ q. is_within q p ≡ false) ps × Rising ps

-- no value is to come at a place that is opened
abbrev NoLeaf : Place → List Assertion → Type 0
NoLeaf q xs = AllByRecursion (λ z. q ≡ z.place → is_leaf z.kind ≡ false) xs

abbrev IsApart : List Assertion → List Assertion → Type 0
IsApart base xs = (q : Place) → Opened base q → NoLeaf q xs

abbrev IsClosed : List Assertion → Type 0
IsClosed base = (t : Step) (ts : Place) → AnyBelow (t ∷ ts) base → Opened base (t ∷ ts)

no_leaf : (a : Assertion) (xs : List Assertion)
    → AllByRecursion (λ b. a.place ≡ b.place → are_compatible a.kind b.kind ≡ true) xs → NoLeaf a.place xs
no_leaf a [] h = tt
no_leaf a (x ∷ xs) h = ((λ e. plain x.kind (h.0 e)), no_leaf a xs h.1)
  where
    plain : (k : Kind) → are_compatible a.kind k ≡ true → is_leaf k ≡ false
    plain (leaf v) e = absurd (true≢false (sym e ∙ leaf_alone a.kind v))
    plain (dotted w) e = refl
    plain super e = refl
    plain header_kind e = refl
    plain array_kind e = refl
    plain element_kind e = refl

-- an assertion of a value
leaf_of : (q : Place) (xs : List Assertion) → Among q (leaves xs)
    → (z : Assertion) × Among z xs × (q ≡ z.place) × (is_leaf z.kind ≡ true)
leaf_of q xs m =
    let f = filter_among leaf_place q xs m in
    let r = of_place f.0 (is_leaf f.0.kind) refl f.2 in
    (f.0, f.1, r.0, r.1)
  where
    of_place : (z : Assertion) (b : Bool) → is_leaf z.kind ≡ b → (if b then Some z.place else None) ≡ Some q
        → (q ≡ z.place) × (is_leaf z.kind ≡ true)
    of_place z true e h = let same : z.place ≡ q = cc in (sym same, e)
    of_place z false e h = absurd cc

-- an assertion's place is not the root
rooted_place : (base xs : List Assertion) (z : Assertion) → Rooted base xs → Among z xs → z.place ≡ [] → ⊥
rooted_place base xs z (done b) m e = m
rooted_place base xs z (next b x zs p s is st r) (inl same) e =
    not_root p s (sym is ∙ ap (λ (y : Assertion). y.place) (sym same) ∙ e)
rooted_place base xs z (next b x zs p s is st r) (inr m) e = rooted_place (x ∷ b) zs z r m e

-- no value to come stands at an assertion's place or above it
module _ (base : List Assertion) (x : Assertion) (xs : List Assertion) (rest : Rooted (x ∷ base) xs)
    (value_closed : IsClosed (x ∷ base)) (here : NoLeaf x.place xs) (apart : IsApart base xs) where
  not_there : (z : Assertion) → Among z xs → is_leaf z.kind ≡ true → x.place ≡ z.place → ⊥
  not_there z m is same =
      true≢false (sym is ∙ among_all (λ z. x.place ≡ z.place → is_leaf z.kind ≡ false) z xs here m same)

  not_opened : (z : Assertion) (q : Place) → Among z xs → is_leaf z.kind ≡ true → q ≡ z.place
      → Opened base q → ⊥
  not_opened z q m is same o =
      true≢false (sym is ∙ among_all (λ z. q ≡ z.place → is_leaf z.kind ≡ false) z xs (apart q o) m same)

  none_above : (q : Place) → Among q (leaves xs) → is_within q x.place ≡ true → ⊥
  none_above [] m w = let z = leaf_of [] xs m in rooted_place (x ∷ base) xs z.0 rest z.1 (sym z.2)
  none_above (t ∷ ts) m w =
      let z = leaf_of (t ∷ ts) xs m in
      ⊎_elim
      (λ same. not_there z.0 z.1 z.3 (sym same ∙ z.2))
      (λ low. ⊎_elim (λ own. not_there z.0 z.1 z.3 (own.0 ∙ z.2)) (λ o. not_opened z.0 (t ∷ ts) z.1 z.3 z.2 o)
      (value_closed t ts (inl low)))
      (within_cases (t ∷ ts) x.place w)

each : {X : Type 0} (P : X → Type 0) (xs : List X) → ((x : X) → Among x xs → P x) → AllByRecursion P xs
each P [] h = tt
each P (x ∷ xs) h = (h x (inl refl), each P xs (λ y m. h y (inr m)))

rising_from : (base xs : List Assertion) → Rooted base xs → IsClosed base → IsApart base xs → AreCompatible xs
    → Rising (leaves xs)
rising_from base xs (done b) value_closed apart clash = tt
rising_from base xs (next b x zs p s e st r) value_closed apart clash =
    go (is_leaf x.kind) (rising_from (x ∷ b) zs r closed_more apart_more clash.1)
  where
    here : NoLeaf x.place zs
    here = no_leaf x zs clash.0

    closed_more : IsClosed (x ∷ b)
    closed_more t ts any = opened_below t ts b (x ∷ []) (next b x [] p s e st (done _)) (value_closed t ts) any

    apart_more : IsApart (x ∷ b) zs
    apart_more q (inl own) = subst (λ (y : Place). NoLeaf y zs) own.0 here
    apart_more q (inr o) = (apart q o).1

    all : AllByRecursion (λ q. is_within q x.place ≡ false) (leaves zs)
    all = each (λ q. is_within q x.place ≡ false) (leaves zs)
        (λ q m. by_test (is_within q x.place)
        (λ w. absurd (none_above b x zs r closed_more here (λ y o. (apart y o).1) q m w)) (λ w. w))

    go : (c : Bool) → Rising (leaves zs) → Rising (cons_option (if c then Some x.place else None) (leaves zs))
    go true more = (all, more)
    go false more = more

-- the values of a document rise
pub values_rise : (form : Text) → AreCompatible (assertions form) → Rising (places (values form))
values_rise form clash =
    subst Rising (lines_leaves [] [] form.lines)
    (rising_from [] (assertions form) (rooted form) (λ t ts any. absurd any) (λ q o. absurd o) clash)
