-- The slice of a list that belongs to an input, where the list is in the order of its inputs.
use Rattle.std.proofs.Common.{◌≡◌, ◌∙◌, ◌≤◌, ℕ, zero, suc, Bool, true, false, List, [], ◌∷◌, ◌++◌, ◌+◌, ◌-◌, ap, arith, cond, drop, leb, length, ltb, refl, subst, sym, take}
use Rattle.std.specs.Prelude.{◌==◌, filter, slice_index_or}
use Rattle.std.specs.List.{AllWithin, flat_map}
use Rattle.std.specs.List.Sorted.{IsNonDecreasingBy, IsPartitionPoint}
use Rattle.std.proofs.lemmas.Bool.{eq-eqb, leb-false, leb-true, ltb-true, ltb-false, ne_eqb}
use Rattle.std.proofs.lemmas.List.{get_or-drop, length-drop, take_all}
use Rattle.std.proofs.lemmas.List.Sorted.{IsNonDecreasingBy-drop, IsNonDecreasingBy-take}

-- items that are dropped for their test from the front on
dropped : {A : Type 0} (p : A → Bool) (items : List A) (n : ℕ) → AllWithin (λ x. p x ≡ false) items 0 n
    → n ≤ length items → filter p items ≡ filter p (drop n items)
dropped p items zero out le = refl
dropped p [] (suc n) out le = refl
dropped p (x ∷ xs) (suc n) out le =
    ap (λ b. cond b (x ∷ filter p xs) (filter p xs)) (out 0 x (omega arith) (omega arith))
    ∙ dropped p xs n (λ k d low high. out (suc k) d (omega arith) (omega (arith, high))) (omega (arith, le))

-- none of the items is left
none_left : {A : Type 0} (p : A → Bool) (items : List A)
    → AllWithin (λ x. p x ≡ false) items 0 (length items) → filter p items ≡ []
none_left p [] out = refl
none_left p (x ∷ xs) out =
    ap (λ b. cond b (x ∷ filter p xs) (filter p xs)) (out 0 x (omega arith) (omega arith))
    ∙ none_left p xs (λ k d low high. out (suc k) d (omega arith) (omega (arith, high)))

-- items that are taken for their test, up to a place
filter_rest : {A : Type 0} (p : A → Bool) (items : List A) (n : ℕ) → n ≤ length items
    → AllWithin (λ x. p x ≡ true) items 0 n → AllWithin (λ x. p x ≡ false) items n (length items)
    → take n items ≡ filter p items
filter_rest p items zero le within out = sym (none_left p items out)
filter_rest p [] (suc n) le within out = refl
filter_rest {A} p (x ∷ xs) (suc n) le within out =
    ap (λ (ys : List A). x ∷ ys) (filter_rest p xs n (omega (arith, le))
    (λ k d low high. within (suc k) d (omega arith) (omega (arith, high)))
    (λ k d low high. out (suc k) d (omega (arith, low)) (omega (arith, high))))
    ∙ sym (ap (λ b. cond b (x ∷ filter p xs) (filter p xs)) (within 0 x (omega arith) (omega arith)))

-- what holds from a place on holds of what is left there
left_behind : {A : Type 0} (P : A → Type 0) (items : List A) (n : ℕ) → AllWithin P items n (length items)
    → AllWithin P (drop n items) 0 (length (drop n items))
left_behind P items n behind k d low high =
    subst P (sym (get_or-drop n items k d))
    (behind (n + k) d (omega arith) (omega (arith, high, length-drop n items)))

-- what is left of items in order is in order
pub left_in_order : {A : Type 0} (number : A → ℕ) (items : List A) (start : ℕ)
    → IsNonDecreasingBy number items
    → IsNonDecreasingBy number (take (length items - start) (drop start items))
left_in_order number items start turns =
    IsNonDecreasingBy-take number (length items - start) (drop start items)
    (IsNonDecreasingBy-drop number start items turns)

-- the window of an input's items: behind those of the inputs before it, up to those of the inputs after it
pub window : {A : Type 0} (number : A → ℕ) (i : ℕ) (items rest : List A) (start end : ℕ)
    → rest ≡ take (length items - start) (drop start items) → start ≤ length items → end ≤ length rest
    → IsPartitionPoint (λ x. ltb (number x) i ≡ true) (λ x. ltb (number x) i ≡ false) items start
    → IsPartitionPoint (λ x. leb (number x) i ≡ true) (λ x. leb (number x) i ≡ false) rest end
    → take end rest ≡ filter (λ x. number x == i) items
window {A} number i items rest start end cut le1 le2 first second =
    filter_rest (λ x. number x == i) rest end le2
    (λ k d low high.
    let x = slice_index_or rest k d in
    let up = leb-true (number x) i (second.0 k d low high) in
    let down = ltb-false (number x) i (left k d low (omega (arith, high, le2))) in
    eq-eqb (number x) i (omega (arith, up, down)))
    (λ k d low high. advance_position (number (slice_index_or rest k d)) i (second.1 k d low high))
    ∙ ap (filter (λ x. number x == i)) is
    ∙ sym (dropped (λ x. number x == i) items start
    (λ k d low high.
    let x = slice_index_or items k d in
    let less = ltb-true (number x) i (first.0 k d low high) in
    ne_eqb (number x) i (λ e. omega (arith, less, e))) le1)
  where
    is : rest ≡ drop start items
    is = cut ∙ take_all (length items - start) (drop start items) (omega (arith, length-drop start items))

    left : AllWithin (λ x. ltb (number x) i ≡ false) rest 0 (length rest)
    left = subst (λ (xs : List A). AllWithin (λ x. ltb (number x) i ≡ false) xs 0 (length xs)) (sym is)
        (left_behind (λ x. ltb (number x) i ≡ false) items start first.1)

    advance_position : (a b : ℕ) → leb a b ≡ false → (a == b) ≡ false
    advance_position a b above = ne_eqb a b (λ e. let more = leb-false a b above in omega (arith, more, e))

-- what is made of each item is made of the part alone, where nothing is made of the others
pub made_of_part : {A B : Type 0} (p : A → Bool) (f : A → List B) (items : List A)
    → ((x : A) → p x ≡ false → f x ≡ []) → flat_map f (filter p items) ≡ flat_map f items
made_of_part p f [] none = refl
made_of_part {A} {B} p f (x ∷ xs) none = by (p x) refl (made_of_part p f xs none)
  where
    by : (b : Bool) → p x ≡ b → flat_map f (filter p xs) ≡ flat_map f xs
        → flat_map f (cond b (x ∷ filter p xs) (filter p xs)) ≡ flat_map f (x ∷ xs)
    by true is rest = ap (λ (ys : List B). f x ++ ys) rest
    by false is rest = rest ∙ ap (λ (ys : List B). ys ++ flat_map f xs) (sym (none x is))
