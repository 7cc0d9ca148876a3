-- New values in a text: they are well formed; what they define below their place, and their trees.
use Rattle.std.proofs.Common.{◌≡◌, ℕ, zero, suc, ◌+◌, ◌<◌, ◌≤◌, Bool, true, false, ◌&&◌, ◌==◌, cond, List, [], ◌∷◌, ◌++◌, length, Option, None, Some, option_map, refl, ap, ◌∙◌, length-append, arith}
use Rattle.std.proofs.lemmas.Bool.Decides.{nat_tests}
use Rattle.std.specs.Prelude.{slice_get}
use Rattle.std.specs.List.{AllByRecursion}
use Rattle.edit_syntax.specs.Grammar.{IsValue, AreElements}
use Rattle.edit_tree.specs.Assertions.{Place, Step, key, index, at, same_place, Kind, leaf, Assertion, of_value, of_elements, are_compatible, AreCompatible, AreShort}
use Rattle.edit_tree.specs.Tree.{string, kind_at, view_of_kind, view_of_value, static_array, count_elements}
use Rattle.edit_tree.specs.Literals.{literal_of}
use Rattle.edit_tree.specs.IntendedTrees.{new_view}
use Rattle.edit_tree.specs.NewItems.{NewValue, a_string, a_truth, a_list, literals, new_value}
use Rattle.edit_document.specs.NewItemViews.{HasRoom}
use Rattle.edit_tree.proofs.LiteralLaws.{literal_is_value, literal_says}
use Rattle.edit_tree.proofs.SamePlace.{same_step_self, last_same}
use Rattle.edit_tree.proofs.SamePlaces.{within_same, below_at}
use Rattle.edit_tree.proofs.WidenedForms.{HasNoArray}
use Rattle.edit_tree.proofs.WidenedLists.{IsUnder}

-- ---- well formed

elements_fine : (ss : List (List ℕ)) → AreElements (literals ss)
elements_fine [] = tt
elements_fine (s ∷ []) = (literal_is_value s, tt)
elements_fine (s ∷ t ∷ ss) = (literal_is_value s, tt, (refl, tt), elements_fine (t ∷ ss))

pub new_is_value : (v : NewValue) → IsValue (new_value v)
new_is_value (a_string s) = literal_is_value s
new_is_value (a_truth b) = tt
new_is_value (a_list ss) = (tt, elements_fine ss)

-- ---- what is asserted below the place

-- the elements of a list, from the one of this number on
abbrev listed : Place → ℕ → List (List ℕ) → List Assertion
listed p i ss = of_elements p i (literals ss)

under_elements : (p : Place) (i : ℕ) (ss : List (List ℕ)) → IsUnder p (listed p i ss)
under_elements p i [] = tt
under_elements p i (s ∷ []) = (below_at p p (index i) (within_same p), tt)
under_elements p i (s ∷ t ∷ ss) =
    (below_at p p (index i) (within_same p), under_elements p (suc i) (t ∷ ss))

pub new_under : (p : Place) (v : NewValue) → IsUnder p (of_value p (new_value v))
new_under p (a_string s) = tt
new_under p (a_truth b) = tt
new_under p (a_list ss) = under_elements p 0 ss

flat_elements : (p : Place) (i : ℕ) (ss : List (List ℕ)) → HasNoArray (listed p i ss)
flat_elements p i [] = tt
flat_elements p i (s ∷ []) = (refl, tt)
flat_elements p i (s ∷ t ∷ ss) = (refl, flat_elements p (suc i) (t ∷ ss))

pub new_flat : (p : Place) (v : NewValue) → HasNoArray (of_value p (new_value v))
new_flat p (a_string s) = tt
new_flat p (a_truth b) = tt
new_flat p (a_list ss) = flat_elements p 0 ss

short_elements : (p : Place) (i : ℕ) (ss : List (List ℕ)) → length p ≤ 79 → AreShort (listed p i ss)
short_elements p i [] le = tt
short_elements p i (s ∷ []) le = (omega (arith, length-append p (index i ∷ [])), tt)
short_elements p i (s ∷ t ∷ ss) le =
    (omega (arith, length-append p (index i ∷ [])), short_elements p (suc i) (t ∷ ss) le)

pub new_short : (p : Place) (v : NewValue) → HasRoom p v → AreShort (of_value p (new_value v))
new_short p (a_string s) room = tt
new_short p (a_truth b) room = tt
new_short p (a_list ss) room = short_elements p 0 ss room

-- two elements of different numbers stand at different places
other_element : (p : Place) (i j : ℕ) → i < j → at p (index i) ≡ at p (index j) → ⊥
other_element p i j lt e = differ i j lt (last_same p p (index i) (index j) e).1
  where
    differ : (i j : ℕ) → i < j → index i ≡ index j → ⊥
    differ i j lt h = let same : i ≡ j = cc in omega arith

later_elements : (p : Place) (i j : ℕ) (k : Kind) (ss : List (List ℕ)) → i < j
    → AllByRecursion (λ b. at p (index i) ≡ b.place → are_compatible k b.kind ≡ true) (listed p j ss)
later_elements p i j k [] lt = tt
later_elements p i j k (s ∷ []) lt = ((λ e. absurd (other_element p i j lt e)), tt)
later_elements p i j k (s ∷ t ∷ ss) lt =
    ((λ e. absurd (other_element p i j lt e)), later_elements p i (suc j) k (t ∷ ss) (omega arith))

apart_elements : (p : Place) (i : ℕ) (ss : List (List ℕ)) → AreCompatible (listed p i ss)
apart_elements p i [] = tt
apart_elements p i (s ∷ []) = (tt, tt)
apart_elements p i (s ∷ t ∷ ss) = (
  later_elements p i (suc i) (leaf (literal_of s)) (t ∷ ss) (omega arith),
  apart_elements p (suc i)
      (t ∷ ss),
)

pub new_apart : (p : Place) (v : NewValue) → AreCompatible (of_value p (new_value v))
new_apart p (a_string s) = tt
new_apart p (a_truth b) = tt
new_apart p (a_list ss) = apart_elements p 0 ss

-- ---- what is shown

count_literals : (ss : List (List ℕ)) → count_elements (literals ss) ≡ length ss
count_literals [] = refl
count_literals (s ∷ []) = refl
count_literals (s ∷ t ∷ ss) = ap suc (count_literals (t ∷ ss))

-- at the place itself
pub new_shows : (made : List Assertion) (p : Place) (v : NewValue)
    → Some (view_of_value made p (new_value v)) ≡ new_view v []
new_shows made p (a_string s) = ap (λ (t : List ℕ). Some (string t)) (literal_says s)
new_shows made p (a_truth b) = refl
new_shows made p (a_list ss) = ap (λ n. Some (static_array n)) (count_literals ss)

-- a place below another one, by the steps between them
same_front : (p q r : Place) → same_place (p ++ q) (p ++ r) ≡ same_place q r
same_front [] q r = refl
same_front (s ∷ p) q r = ap (λ b. b && same_place (p ++ q) (p ++ r)) (same_step_self s) ∙ same_front p q r

-- what one of several elements shows
abbrev shown_kind : Option (List ℕ) → Option Kind
shown_kind o = option_map (λ s. leaf (literal_of s)) o

number_else : (i k : ℕ) → (i == i + suc k) ≡ false
number_else i k = grind (arith, nat_tests)

number_same : (i : ℕ) → (i == i + zero) ≡ true
number_same i = grind (arith, nat_tests)

kind_element : (p : Place) (i k : ℕ) (ss : List (List ℕ))
    → kind_at (listed p i ss) (p ++ index (i + k) ∷ []) ≡ shown_kind (slice_get ss k)
kind_element p i k [] = refl
kind_element p i zero (s ∷ []) = ap (λ b. cond b (Some (leaf (literal_of s))) None)
    (same_front p (index i ∷ []) (index (i + zero) ∷ []) ∙ ap (λ b. b && true) (number_same i))
kind_element p i (suc k) (s ∷ []) = ap (λ b. cond b (Some (leaf (literal_of s))) None)
    (same_front p (index i ∷ []) (index (i + suc k) ∷ []) ∙ ap (λ b. b && true) (number_else i k))
kind_element p i zero (s ∷ t ∷ ss) =
    ap (λ b. cond b (Some (leaf (literal_of s)))
    (kind_at (listed p (suc i) (t ∷ ss)) (p ++ index (i + zero) ∷ [])))
    (same_front p (index i ∷ []) (index (i + zero) ∷ []) ∙ ap (λ b. b && true) (number_same i))
kind_element p i (suc k) (s ∷ t ∷ ss) =
    let n : i + suc k ≡ suc i + k = omega arith in
    ap (λ b. cond b (Some (leaf (literal_of s)))
    (kind_at (listed p (suc i) (t ∷ ss)) (p ++ index (i + suc k) ∷ [])))
    (same_front p (index i ∷ []) (index (i + suc k) ∷ []) ∙ ap (λ b. b && true) (number_else i k))
    ∙ ap (λ m. kind_at (listed p (suc i) (t ∷ ss)) (p ++ index m ∷ [])) n
    ∙ kind_element p (suc i) k (t ∷ ss)

-- no element stands at another step or deeper
kind_nowhere : (p q : Place) (i : ℕ) (ss : List (List ℕ)) → ((j : ℕ) → same_place (index j ∷ []) q ≡ false)
    → kind_at (listed p i ss) (p ++ q) ≡ None
kind_nowhere p q i [] none = refl
kind_nowhere p q i (s ∷ []) none = ap (λ b. cond b (Some (leaf (literal_of s))) None)
    (same_front p (index i ∷ []) q ∙ none i)
kind_nowhere p q i (s ∷ t ∷ ss) none =
    ap (λ b. cond b (Some (leaf (literal_of s))) (kind_at (listed p (suc i) (t ∷ ss)) (p ++ q)))
    (same_front p (index i ∷ []) q ∙ none i) ∙ kind_nowhere p q (suc i) (t ∷ ss) none

shown_element : (made : List Assertion) (q : Place) (o : Option (List ℕ))
    → option_map (view_of_kind made q) (shown_kind o) ≡ option_map string o
shown_element made q None = refl
shown_element made q (Some s) = ap (λ (t : List ℕ). Some (string t)) (literal_says s)

-- below the place: the elements of a list, and else nothing
pub new_shows_below : (made : List Assertion) (p : Place) (v : NewValue) (s : Step) (q r : Place)
    → option_map (view_of_kind made r) (kind_at (of_value p (new_value v)) (p ++ s ∷ q)) ≡ new_view v
    (s ∷ q)
new_shows_below made p (a_string t) s q r = refl
new_shows_below made p (a_truth b) s q r = refl
new_shows_below made p (a_list ss) (key n) q r = ap (λ o. option_map (view_of_kind made r) o)
    (kind_nowhere p (key n ∷ q) 0 ss (λ j. refl))
new_shows_below made p (a_list ss) (index j) [] r =
    let n : j ≡ 0 + j = omega arith in
    ap (λ o. option_map (view_of_kind made r) o) (ap (λ m. kind_at (listed p 0 ss) (p ++ index m ∷ [])) n
    ∙ kind_element p 0 j ss) ∙ shown_element made r (slice_get ss j)
new_shows_below made p (a_list ss) (index j) (t ∷ q) r = ap (λ o. option_map (view_of_kind made r) o)
    (kind_nowhere p (index j ∷ t ∷ q) 0 ss (λ i. deeper i))
  where
    deeper : (i : ℕ) → ((i == j) && false) ≡ false
    deeper i = go (i == j)
      where
        go : (b : Bool) → (b && false) ≡ false
        go true = refl
        go false = refl
