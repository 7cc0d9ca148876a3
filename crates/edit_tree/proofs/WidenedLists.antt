-- Lists of assertions with more below one of them: they stay short and compatible.
use Rattle.std.proofs.Common.{◌≡◌, ◌≤◌, Bool, true, false, cond, List, [], ◌∷◌, ◌++◌, length, None, Some, refl, sym, ap, ◌∙◌, true≢false}
use Rattle.std.specs.List.{AllByRecursion}
use Rattle.edit_syntax.specs.Grammar.{Value}
use Rattle.edit_tree.specs.EditBytes.{is_within}
use Rattle.edit_tree.specs.Assertions.{Place, same_place, Kind, leaf, Assertion, of_value, are_compatible, AreCompatible, AreShort}
use Rattle.edit_tree.specs.Tree.{kind_at}
use Rattle.edit_tree.specs.Literals.{literal_of}
use Rattle.edit_tree.specs.Replaces.{is_below}
use Rattle.edit_syntax.proofs.Cases.{by_test}
use Rattle.edit_tree.proofs.SamePlace.{same_place_is, same_place_self}
use Rattle.edit_tree.proofs.SamePlaces.{not_below_itself, below_within}
use Rattle.edit_tree.proofs.ThinnedLines.{leaf_alone}
use Rattle.edit_tree.proofs.WidenedForms.{Alike, equal, leaves, Widened, none, same, here}

-- ---- lists of assertions

-- none is below the place
abbrev pub IsFree : Place → List Assertion → Type 0
IsFree p xs = AllByRecursion (λ x. is_below p x.place ≡ false) xs

-- all are below the place
abbrev pub IsUnder : Place → List Assertion → Type 0
IsUnder p xs = AllByRecursion (λ x. is_below p x.place ≡ true) xs

-- a kind may stand with those of these at a place
abbrev pub StandsWith : Place → Kind → List Assertion → Type 0
StandsWith p k xs = AllByRecursion (λ b. p ≡ b.place → are_compatible k b.kind ≡ true) xs

pub all_append : (P : Assertion → Type 0) (xs ys : List Assertion) → AllByRecursion P xs
    → AllByRecursion P ys → AllByRecursion P (xs ++ ys)
all_append P [] ys h more = more
all_append P (x ∷ xs) ys h more = (h.0, all_append P xs ys h.1 more)

-- what is below is at no place that is not
pub under_else : (p q r : Place) → is_below p q ≡ true → is_below p r ≡ false → q ≡ r → ⊥
under_else p q r low high e = true≢false (sym low ∙ ap (λ z. is_below p z) e ∙ high)

under_with : (p q : Place) (k : Kind) (xs : List Assertion) → is_below p q ≡ false → IsUnder p xs
    → StandsWith q k xs
under_with p q k [] high h = tt
under_with p q k (x ∷ xs) high h =
    ((λ e. absurd (under_else p x.place q h.0 high (sym e))), under_with p q k xs high h.1)

free_with : (p q : Place) (k : Kind) (xs : List Assertion) → is_below p q ≡ true → IsFree p xs
    → StandsWith q k xs
free_with p q k [] low h = tt
free_with p q k (x ∷ xs) low h =
    ((λ e. absurd (under_else p q x.place low h.0 e)), free_with p q k xs low h.1)

apart_append : (p : Place) (xs ys : List Assertion) → IsUnder p xs → IsFree p ys → AreCompatible xs
    → AreCompatible ys
    → AreCompatible (xs ++ ys)
apart_append p [] ys under free clash more = more
apart_append p (x ∷ xs) ys under free clash more = (
  all_append _ xs ys clash.0
      (free_with p x.place x.kind ys under.0 free),
  apart_append p xs ys under.1 free clash.1 more,
)

pub none_at : (q : Place) (xs : List Assertion) → AllByRecursion (λ x. same_place x.place q ≡ false) xs
    → kind_at xs q ≡ None
none_at q [] h = refl
none_at q (x ∷ xs) h = ap (λ c. cond c (Some x.kind) (kind_at xs q)) h.0 ∙ none_at q xs h.1

pub free_none : (p q : Place) (xs : List Assertion) → is_below p q ≡ true → IsFree p xs → kind_at xs q ≡ None
free_none p q [] low h = refl
free_none p q (x ∷ xs) low h =
    by_test (same_place x.place q)
    (λ e. absurd (under_else p q x.place low h.0 (sym (same_place_is x.place q e))))
    (λ e. ap (λ c. cond c (Some x.kind) (kind_at xs q)) e ∙ free_none p q xs low h.1)

-- nothing of what is below a place stands at one that is not within it
pub under_none : (p q : Place) (xs : List Assertion) → is_within p q ≡ false → IsUnder p xs
    → kind_at xs q ≡ None
under_none p q [] far h = refl
under_none p q (x ∷ xs) far h =
    by_test (same_place x.place q)
    (λ e. absurd
    (true≢false (sym (below_within p x.place h.0) ∙ ap (λ r. is_within p r) (same_place_is x.place q e)
    ∙ far)))
    (λ e. ap (λ c. cond c (Some x.kind) (kind_at xs q)) e ∙ under_none p q xs far h.1)

-- where no assertion shows below a place, none is there
pub none_free : (p : Place) (xs : List Assertion)
    → ((q : Place) → is_below p q ≡ true → kind_at xs q ≡ None) → IsFree p xs
none_free p [] h = tt
none_free p (x ∷ xs) h = (
  by_test (is_below p x.place)
      (λ low. let some : Some x.kind ≡ None =
      sym (ap (λ c. cond c (Some x.kind) (kind_at xs x.place)) (same_place_self x.place))
      ∙ h x.place low in absurd (never x.kind some))
      (λ high. high),
  none_free p xs (λ q low. rest (same_place x.place q) q (h q low)),
)
  where
    never : (k : Kind) → Some k ≡ None → ⊥
    never k e = cc

    rest : (b : Bool) (q : Place) → cond b (Some x.kind) (kind_at xs q) ≡ None → kind_at xs q ≡ None
    rest true q e = absurd (never x.kind e)
    rest false q e = e

-- ---- short, and apart

pub widened_short : (p : Place) (w : Value) (xs ys : List Assertion) → AreShort (of_value p w)
    → Widened p w xs ys → AreShort xs → AreShort ys
widened_short p w xs ys low none h = tt
widened_short p w xs ys low (same by q j k cs bs e t) h = (h.0, widened_short p w cs bs low t h.1)
widened_short p w xs ys low (here by cs bs t) h =
    (h.0, all_append (λ a. length a.place ≤ 80) (of_value p w) bs low (widened_short p w cs bs low t h.1))

-- no value stands at the place among these
abbrev HasNone : Place → List Assertion → Type 0
HasNone p xs = AllByRecursion (λ x. p ≡ x.place → ⊥) xs

pub widened_free : (p : Place) (w : Value) (xs ys : List Assertion) → Widened p w xs ys → HasNone p xs
    → IsFree p xs → IsFree p ys
widened_free p w xs ys none n h = tt
widened_free p w xs ys (same by q j k cs bs e t) n h = (h.0, widened_free p w cs bs t n.1 h.1)
widened_free p w xs ys (here by cs bs t) n h = absurd (n.0 refl)

alike_left : (p q : Place) (j k l : Kind) → Alike p q j k → are_compatible j l ≡ true
    → are_compatible k l ≡ true
alike_left p q j k l (equal m e) h = h
alike_left p q j k l (leaves v w e s) h = leaf_left v w l h
  where
    leaf_left : (v w : Value) (l : Kind) → are_compatible (leaf v) l ≡ true → are_compatible (leaf w) l ≡ true
    leaf_left v w l h = h

alike_right : (p q : Place) (j k l : Kind) → Alike p q j k → are_compatible l j ≡ true
    → are_compatible l k ≡ true
alike_right p q j k l (equal m e) h = h
alike_right p q j k l (leaves v w e s) h = leaf_alone l w ∙ sym (leaf_alone l v) ∙ h

widened_with : (p : Place) (w : Value) (q : Place) (k : Kind) (xs ys : List Assertion)
    → IsUnder p (of_value p w) → is_below p q ≡ false → Widened p w xs ys → StandsWith q k xs
    → StandsWith q k ys
widened_with p w q k xs ys under high none h = tt
widened_with p w q k xs ys under high (same by r i j cs bs e t) h =
    ((λ z. alike_right p r i j k e (h.0 z)), widened_with p w q k cs bs under high t h.1)
widened_with p w q k xs ys under high (here by cs bs t) h = (
  (λ z. leaf_alone k w ∙ sym (leaf_alone k (literal_of [])) ∙ h.0 z),
  all_append _ (of_value p w) bs (under_with p q k (of_value p w) high under)
      (widened_with p w q k cs bs under high t h.1),
)

with_alike : (q : Place) (j k : Kind) (xs : List Assertion)
    → ((l : Kind) → are_compatible j l ≡ true → are_compatible k l ≡ true) → StandsWith q j xs
    → StandsWith q k xs
with_alike q j k [] to h = tt
with_alike q j k (x ∷ xs) to h = ((λ e. to x.kind (h.0 e)), with_alike q j k xs to h.1)

-- a plain leaf at a place is alone there
pub leaf_none : (p : Place) (v : Value) (xs : List Assertion)
    → ((l : Kind) → are_compatible (leaf v) l ≡ true → ⊥)
    → StandsWith p (leaf v) xs → HasNone p xs
leaf_none p v [] alone h = tt
leaf_none p v (x ∷ xs) alone h = ((λ e. alone x.kind (h.0 e)), leaf_none p v xs alone h.1)

pub widened_apart : (p : Place) (w : Value) (xs ys : List Assertion) → IsUnder p (of_value p w)
    → AreCompatible (of_value p w) → Widened p w xs ys → IsFree p xs → AreCompatible xs → AreCompatible ys
widened_apart p w xs ys under own none free h = tt
widened_apart p w xs ys under own (same by q j k cs bs e t) free h = (
  with_alike q j k bs (λ l. alike_left p q j k l e)
      (widened_with p w q j cs bs under free.0 t h.0),
  widened_apart p w cs bs under own t free.1 h.1,
)
widened_apart p w xs ys under own (here by cs bs t) free h =
    let none_there = leaf_none p (literal_of []) cs (λ l e. true≢false (sym e)) h.0 in
    let clear = widened_free p w cs bs t none_there free.1 in
    let self = not_below_itself p in (
      all_append _ (of_value p w) bs (under_with p p (leaf w) (of_value p w) self under)
          (with_alike p (leaf (literal_of [])) (leaf w) bs (λ l e. e)
          (widened_with p w p (leaf (literal_of [])) cs bs under self t h.0)),
      apart_append p (of_value p w) bs under clear own (widened_apart p w cs bs under own t free.1 h.1),
    )
