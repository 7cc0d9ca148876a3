-- At a place that only dotted keys and headers pass through, as many pairs define a member as dotted keys
-- pass through it.
use Rattle.std.proofs.Common.{◌≡◌, ℕ, suc, ◌+◌, Bool, true, false, ◌&&◌, cond, List, [], ◌∷◌, ◌++◌, map, Option, Some, None, refl, sym, ap, ◌∙◌, subst, true≢false, append_assoc, arith}
use Rattle.std.specs.List.{AllByRecursion}
use Rattle.edit_syntax.specs.Grammar.{Value, basic, literal, multi_basic, multi_literal, boolean, integer, float, datetime, array, inline, Elements, no_elements, last_element, element, Members, no_members, last_member, member, Statement, pair, header, element_header, empty_line, full_line, Lines, one_line, more_lines, Text}
use Rattle.edit_syntax.proofs.Cases.{by_test}
use Rattle.edit_tree.specs.Assertions.{Place, Step, key, index, at, same_place, Kind, dotted, leaf, header_kind, array_kind, element_kind, Assertion, asserts, names, named, elements_at, of_key, of_value, of_elements, of_members, last_element_or_self, fronts, header_place, of_statement, prefix_after, of_lines, assertions}
use Rattle.edit_tree.specs.Replaces.{is_below}
use Rattle.edit_tree.specs.Tree.{step_from}
use Rattle.edit_tree.proofs.Below.{step_from_at, step_from_is}
use Rattle.edit_tree.proofs.NamedPairs.{is_paired}
use Rattle.edit_tree.proofs.SamePlace.{same_place_is, same_place_self, last_same}
use Rattle.edit_tree.proofs.SamePlaces.{within_same, below_at, below_within, not_below_itself}

-- ---- counts

-- how many assertions pass a test
abbrev pub tally : (Assertion → Bool) → List Assertion → ℕ
tally f [] = 0
tally f (a ∷ made) = cond (f a) (suc (tally f made)) (tally f made)

pub tally_append : (f : Assertion → Bool) (xs ys : List Assertion)
    → tally f (xs ++ ys) ≡ tally f xs + tally f ys
tally_append f [] ys = omega arith
tally_append f (x ∷ xs) ys = go (f x) (tally_append f xs ys)
  where
    go : (b : Bool) → tally f (xs ++ ys) ≡ tally f xs + tally f ys
        → cond b (suc (tally f (xs ++ ys))) (tally f (xs ++ ys))
        ≡ cond b (suc (tally f xs)) (tally f xs) + tally f ys
    go true e = omega (arith, e)
    go false e = e

-- by a dotted key that goes on
abbrev pub is_dotted : Kind → Bool
is_dotted (dotted b) = true
is_dotted _ = false

-- a step to a member
abbrev pub is_key : Option Step → Bool
is_key (Some (key n)) = true
is_key _ = false

-- a dotted key goes on at the place
abbrev pub goes_on : Place → Assertion → Bool
goes_on t a = is_dotted a.kind && same_place a.place t

-- a pair asserts a member of the place
abbrev pub is_inner : Place → Assertion → Bool
is_inner t a = is_paired a.kind && is_key (step_from t a.place)

-- as many of the one as of the other
abbrev pub IsEven : Place → List Assertion → Type 0
IsEven t xs = tally (is_inner t) xs ≡ tally (goes_on t) xs

even_append : (t : Place) (xs ys : List Assertion) → IsEven t xs → IsEven t ys → IsEven t (xs ++ ys)
even_append t xs ys e f = omega (arith, tally_append (is_inner t) xs ys, tally_append (goes_on t) xs ys, e, f)

-- ---- keys

step_else : (t q : Place) (s : Step) → same_place q t ≡ false → is_key (step_from t (at q s)) ≡ false
step_else t q s far = go (step_from t (at q s)) refl
  where
    go : (o : Option Step) → step_from t (at q s) ≡ o → is_key o ≡ false
    go None e = refl
    go (Some x) e =
        let same : q ≡ t = (last_same q t s x (step_from_is t (at q s) x e)).0 in
        absurd (true≢false (sym (ap (λ z. same_place z t) same ∙ same_place_self t) ∙ far))

below_else : (t q : Place) → is_below t q ≡ true → same_place q t ≡ false
below_else t q low =
    by_test (same_place q t)
    (λ e. absurd (true≢false (sym low ∙ ap (λ z. is_below t z) (same_place_is q t e) ∙ not_below_itself t)))
    (λ e. e)

none_inner : (b : Bool) (n : ℕ) → b ≡ false → n ≡ 0 → cond b (suc n) n ≡ 0
none_inner true n e f = absurd (true≢false e)
none_inner false n e f = f

-- from below the place on, a key asserts nothing there and no member of it
beyond : (t : Place) (d : Bool) (by q : Place) (ns : List (List ℕ)) (v : Value) → is_below t q ≡ true
    → (tally (is_inner t) (of_key d by q ns v) ≡ 0) × (tally (goes_on t) (of_key d by q ns v) ≡ 0)
beyond t d by q [] v low = (refl, refl)
beyond t d by q (n ∷ []) v low = (none_inner _ 0 (step_else t q (key n) (below_else t q low)) refl, refl)
beyond t d by q (n ∷ m ∷ ns) v low =
    let deep = below_at t q (key n) (below_within t q low) in
    let more = beyond t d by (at q (key n)) (m ∷ ns) v deep in (
      none_inner _ _ (step_else t q (key n) (below_else t q low)) more.0,
      none_inner _ _ (below_else t (at q (key n)) deep) more.1,
    )

-- from the place on, it asserts one member
onward : (t : Place) (d : Bool) (by : Place) (n : List ℕ) (ns : List (List ℕ)) (v : Value)
    → (tally (is_inner t) (of_key d by t (n ∷ ns) v) ≡ 1) × (tally (goes_on t) (of_key d by t (n ∷ ns) v) ≡ 0)
onward t d by n [] v = (ap (λ o. cond (is_key o) 1 0) (step_from_at t (key n)), refl)
onward t d by n (m ∷ ns) v =
    let low = below_at t t (key n) (within_same t) in
    let more = beyond t d by (at t (key n)) (m ∷ ns) v low in (
      ap (λ o. cond (is_key o) (suc (tally (is_inner t) (of_key d by (at t (key n)) (m ∷ ns) v)))
          (tally (is_inner t) (of_key d by (at t (key n)) (m ∷ ns) v))) (step_from_at t (key n)) ∙
          ap suc more.0,
      none_inner _ _ (below_else t (at t (key n)) low) more.1,
    )

key_even : (t : Place) (d : Bool) (by q : Place) (n : List ℕ) (ns : List (List ℕ)) (v : Value)
    → same_place q t ≡ false → IsEven t (of_key d by q (n ∷ ns) v)
key_even t d by q n [] v far = none_inner _ 0 (step_else t q (key n) far) refl
key_even t d by q n (m ∷ ns) v far =
    go (is_key (step_from t (at q (key n)))) (step_else t q (key n) far) (same_place (at q (key n)) t) refl
    (λ here. onward_at (at q (key n)) (same_place_is (at q (key n)) t here))
    (λ out. key_even t d by (at q (key n)) m ns v out)
  where
    onward_at : (c : Place) → c ≡ t → (tally (is_inner t) (of_key d by c (m ∷ ns) v) ≡ 1)
        × (tally (goes_on t) (of_key d by c (m ∷ ns) v) ≡ 0)
    onward_at c e = subst (λ z. (tally (is_inner t) (of_key d by z (m ∷ ns) v) ≡ 1)
        × (tally (goes_on t) (of_key d by z (m ∷ ns) v) ≡ 0)) (sym e) (onward t d by m ns v)

    go : (a : Bool) → a ≡ false → (b : Bool) → same_place (at q (key n)) t ≡ b
        → (same_place (at q (key n)) t ≡ true
        → (tally (is_inner t) (of_key d by (at q (key n)) (m ∷ ns) v) ≡ 1)
        × (tally (goes_on t) (of_key d by (at q (key n)) (m ∷ ns) v) ≡ 0))
        → (same_place (at q (key n)) t ≡ false → IsEven t (of_key d by (at q (key n)) (m ∷ ns) v))
        → cond a (suc (tally (is_inner t) (of_key d by (at q (key n)) (m ∷ ns) v)))
        (tally (is_inner t) (of_key d by (at q (key n)) (m ∷ ns) v))
        ≡ cond b (suc (tally (goes_on t) (of_key d by (at q (key n)) (m ∷ ns) v)))
        (tally (goes_on t) (of_key d by (at q (key n)) (m ∷ ns) v))
    go true e b h here out = absurd (true≢false e)
    go false e true h here out = (here h).0 ∙ ap suc (sym (here h).1)
    go false e false h here out = out h

-- ---- values

-- a value, a header and the header of an element have their place for themselves
abbrev pub owns : Kind → Bool
owns (leaf v) = true
owns header_kind = true
owns element_kind = true
owns _ = false

-- none of these has the place for itself
abbrev pub IsOpen : Place → List Assertion → Type 0
IsOpen t xs = AllByRecursion (λ x. (owns x.kind && same_place x.place t) ≡ false) xs

open_left : (t : Place) (xs ys : List Assertion) → IsOpen t (xs ++ ys) → IsOpen t xs
open_left t [] ys h = tt
open_left t (x ∷ xs) ys h = (h.0, open_left t xs ys h.1)

open_right : (t : Place) (xs ys : List Assertion) → IsOpen t (xs ++ ys) → IsOpen t ys
open_right t [] ys h = h
open_right t (x ∷ xs) ys h = open_right t xs ys h.1

key_open : (t : Place) (d : Bool) (by q : Place) (n : List ℕ) (ns : List (List ℕ)) (v : Value)
    → IsOpen t (of_key d by q (n ∷ ns) v) → same_place (named q (n ∷ ns)) t ≡ false
key_open t d by q n [] v h = h.0
key_open t d by q n (m ∷ ns) v h = ap (λ z. same_place z t)
    (sym (append_assoc q (key n ∷ []) (map key (m ∷ ns)))) ∙ key_open t d by (at q (key n)) m ns v h.1

mutual
  value_even : (t q : Place) (v : Value) → same_place q t ≡ false → IsOpen t (of_value q v)
      → IsEven t (of_value q v)
  value_even t q (basic ps) far h = refl
  value_even t q (literal text) far h = refl
  value_even t q (multi_basic ps) far h = refl
  value_even t q (multi_literal ps) far h = refl
  value_even t q (boolean b) far h = refl
  value_even t q (integer n) far h = refl
  value_even t q (float f) far h = refl
  value_even t q (datetime d) far h = refl
  value_even t q (array g es) far h = elements_even t q 0 es far h
  value_even t q (inline g ms) far h = members_even t q ms far h

  elements_even : (t q : Place) (i : ℕ) (es : Elements) → same_place q t ≡ false
      → IsOpen t (of_elements q i es) → IsEven t (of_elements q i es)
  elements_even t q i no_elements far h = refl
  elements_even t q i (last_element v g) far h =
      let r = at q (index i) in
      ap (λ b. cond b (suc (tally (is_inner t) (of_value r v))) (tally (is_inner t) (of_value r v)))
      (step_else t q (index i) far) ∙ value_even t r v h.0 h.1
  elements_even t q i (element v g x es) far h =
      let r = at q (index i) in
      let more = of_value r v ++ of_elements q (suc i) es in
      ap (λ b. cond b (suc (tally (is_inner t) more)) (tally (is_inner t) more)) (step_else t q (index i) far)
      ∙ even_append t (of_value r v) (of_elements q (suc i) es)
      (value_even t r v h.0 (open_left t (of_value r v) _ h.1))
      (elements_even t q (suc i) es far (open_right t (of_value r v) _ h.1))

  members_even : (t q : Place) (ms : Members) → same_place q t ≡ false → IsOpen t (of_members q ms)
      → IsEven t (of_members q ms)
  members_even t q no_members far h = refl
  members_even t q (last_member k a b v c) far h =
      let r = named q (names k) in
      let own = of_key true r q (names k) v in
      even_append t own (of_value r v) (key_even t true r q _ _ v far)
      (value_even t r v (key_open t true r q _ _ v (open_left t own (of_value r v) h))
      (open_right t own (of_value r v) h))
  members_even t q (member k a b v c d ms) far h =
      let r = named q (names k) in
      let own = of_key true r q (names k) v in
      let here = open_left t (own ++ of_value r v) (of_members q ms) h in
      even_append t (own ++ of_value r v) (of_members q ms)
      (even_append t own (of_value r v) (key_even t true r q _ _ v far)
      (value_even t r v (key_open t true r q _ _ v (open_left t own (of_value r v) here))
      (open_right t own (of_value r v) here)))
      (members_even t q ms far (open_right t (own ++ of_value r v) (of_members q ms) h))

-- ---- lines

fronts_even : (t : Place) (earlier : List Assertion) (by q : Place) (ns : List (List ℕ))
    → IsEven t (fronts earlier by q ns)
fronts_even t earlier by q [] = refl
fronts_even t earlier by q (n ∷ []) = refl
fronts_even t earlier by q (n ∷ m ∷ ns) = fronts_even t earlier by (last_element_or_self earlier (at q (key n))) (m ∷ ns)

statement_even : (t : Place) (earlier : List Assertion) (prefix : Place) (s : Statement)
    → same_place prefix t ≡ false → IsOpen t (of_statement earlier prefix s)
    → IsEven t (of_statement earlier prefix s)
statement_even t earlier prefix (pair k a b v) far h =
    let r = named prefix (names k) in
    let own = of_key false r prefix (names k) v in
    even_append t own (of_value r v) (key_even t false r prefix _ _ v far)
    (value_even t r v (key_open t false r prefix _ _ v (open_left t own (of_value r v) h))
    (open_right t own (of_value r v) h))
statement_even t earlier prefix (header a k b) far h =
    let place = header_place earlier [] (names k) in
    even_append t (fronts earlier place [] (names k)) (asserts place place header_kind ∷ [])
    (fronts_even t earlier place [] (names k)) refl
statement_even t earlier prefix (element_header a k b) far h =
    let place = header_place earlier [] (names k) in
    let last = at place (index (elements_at earlier place)) in
    even_append t (fronts earlier last [] (names k))
    (asserts last place array_kind ∷ asserts last last element_kind ∷ [])
    (fronts_even t earlier last [] (names k)) refl

prefix_open : (t : Place) (earlier : List Assertion) (prefix : Place) (s : Statement)
    → same_place prefix t ≡ false → IsOpen t (of_statement earlier prefix s)
    → same_place (prefix_after earlier prefix s) t ≡ false
prefix_open t earlier prefix (pair k a b v) far h = far
prefix_open t earlier prefix (header a k b) far h = (open_right t (fronts earlier _ [] (names k)) _ h).0
prefix_open t earlier prefix (element_header a k b) far h =
    (open_right t (fronts earlier _ [] (names k)) _ h).1.0

open_front : (t : Place) (earlier : List Assertion) (prefix : Place) (ls : Lines)
    → IsOpen t (of_lines earlier prefix ls) → IsOpen t earlier
open_front t earlier prefix (one_line (empty_line a c)) h = h
open_front t earlier prefix (one_line (full_line a s b c)) h =
    open_left t earlier (of_statement earlier prefix s) h
open_front t earlier prefix (more_lines (empty_line a c) e ls) h = open_front t earlier prefix ls h
open_front t earlier prefix (more_lines (full_line a s b c) e ls) h =
    open_left t earlier (of_statement earlier prefix s)
    (open_front t (earlier ++ of_statement earlier prefix s) (prefix_after earlier prefix s) ls h)

lines_even : (t : Place) (earlier : List Assertion) (prefix : Place) (ls : Lines)
    → same_place prefix t ≡ false → IsEven t earlier → IsOpen t (of_lines earlier prefix ls)
    → IsEven t (of_lines earlier prefix ls)
lines_even t earlier prefix (one_line (empty_line a c)) far e h = e
lines_even t earlier prefix (one_line (full_line a s b c)) far e h =
    even_append t earlier (of_statement earlier prefix s) e
    (statement_even t earlier prefix s far (open_right t earlier (of_statement earlier prefix s) h))
lines_even t earlier prefix (more_lines (empty_line a c) l ls) far e h =
    lines_even t earlier prefix ls far e h
lines_even t earlier prefix (more_lines (full_line a s b c) l ls) far e h =
    let us = earlier ++ of_statement earlier prefix s in
    let here = open_right t earlier (of_statement earlier prefix s)
    (open_front t us (prefix_after earlier prefix s) ls h) in
    lines_even t us (prefix_after earlier prefix s) ls (prefix_open t earlier prefix s far here)
    (even_append t earlier (of_statement earlier prefix s) e (statement_even t earlier prefix s far here)) h

-- pairs that go on at a place which nothing has for itself are those that assert its members
pub members_even_out : (form : Text) (s : Step) (ss : Place) → IsOpen (s ∷ ss) (assertions form)
    → IsEven (s ∷ ss) (assertions form)
members_even_out form s ss h = lines_even (s ∷ ss) [] [] form.lines refl refl h
