-- What defines the places inside a value.
use Rattle.std.proofs.Common.{◌≡◌, ℕ, suc, Bool, true, false, not, List, [], ◌∷◌, ◌++◌, map, refl, sym, inl, inr, true≢false}
use Rattle.edit_syntax.specs.Strings.{Key}
use Rattle.edit_syntax.specs.Grammar.{Value, basic, literal, multi_basic, multi_literal, boolean, integer, float, datetime, array, inline, Elements, no_elements, last_element, element, Members, no_members, last_member, member}
use Rattle.edit_syntax.proofs.Members.{Among}
use Rattle.edit_tree.specs.Assertions.{Place, key, index, at, leaf, Assertion, asserts, names, named, of_key, of_value, of_elements, of_members}
use Rattle.edit_tree.proofs.HeadedPlaces.{inside_self, inside_more}
use Rattle.edit_tree.proofs.Asserters.{Paved, InValue, Made, AreMade, Part, left_part, right_part, both_made, paved_at, paved_wider, index_ground, key_paved, key_made, key_leaf}

-- ---- values

-- what a value below its own place asserts
abbrev Inside : List Assertion → Place → Value → Type 0
Inside made p v = InValue made p → Paved made p false p → Part (of_value p v) made
    → AreMade made (of_value p v)

pub pair_made : (made : List Assertion) (w : Bool) (p : Place) (k : Key) (v : Value)
    → Inside made (named p (names k)) v
    → Paved made p (not w) p → (w ≡ true → InValue made p)
    → Part (of_key w (named p (names k)) p (names k) v ++ of_value (named p (names k)) v) made
    → AreMade made (of_key w (named p (names k)) p (names k) v ++ of_value (named p (names k)) v)
pair_made made w p k v inside way deep h =
    let by = named p (names k) in
    let own = of_key w by p (names k) v in
    let here = left_part own (of_value by v) made h in
    let on = paved_wider made p by (not w) p (inside_more p p (map key (names k)) (inside_self p)) way in
    let whole = key_paved made w by p _ _ v on here in
    both_made made own (of_value by v) (key_made made w by p _ _ v refl on deep whole here)
    (inside (asserts by by (leaf v), here _ (key_leaf w by p _ _ v), refl, inside_self by) whole
    (right_part own (of_value by v) made h))

-- an element, and the way to it
element_way : (made : List Assertion) (p : Place) (i : ℕ) (v : Value) → Paved made p false p
    → Among (asserts (at p (index i)) (at p (index i)) (leaf v)) made
    → Paved made (at p (index i)) false (at p (index i))
element_way made p i v way m =
    let q = at p (index i) in
    paved_at made q false p (index i)
    (paved_wider made p q false p (inside_more p p (index i ∷ []) (inside_self p)) way)
    (index_ground made q false p i (leaf v) m (inside_self q) (λ e. absurd (true≢false (sym e))))

element_made : (made : List Assertion) (p : Place) (i : ℕ) (v : Value)
    → Paved made (at p (index i)) false (at p (index i))
    → Made made (asserts (at p (index i)) (at p (index i)) (leaf v))
element_made made p i v whole = record {
  upto = inside_self (at p (index i));
  owner = λ f. refl;
  goes = λ f. absurd (true≢false f);
  array = λ f. absurd (true≢false (sym f));
  paved = whole;
  inner = λ f. absurd cc;
  outer = λ f. absurd (true≢false (sym f));
}

mutual
  pub value_made : (made : List Assertion) (p : Place) (v : Value) → Inside made p v
  value_made made p (basic ps) deep way h = tt
  value_made made p (literal t) deep way h = tt
  value_made made p (multi_basic ps) deep way h = tt
  value_made made p (multi_literal ps) deep way h = tt
  value_made made p (boolean b) deep way h = tt
  value_made made p (integer n) deep way h = tt
  value_made made p (float f) deep way h = tt
  value_made made p (datetime d) deep way h = tt
  value_made made p (array g es) deep way h = elements_made made p 0 es way h
  value_made made p (inline g ms) deep way h = members_made made p ms deep way h

  elements_made : (made : List Assertion) (p : Place) (i : ℕ) (es : Elements) → Paved made p false p
      → Part (of_elements p i es) made → AreMade made (of_elements p i es)
  elements_made made p i no_elements way h = tt
  elements_made made p i (last_element v g) way h =
      let q = at p (index i) in
      let whole = element_way made p i v way (h _ (inl refl)) in (
        element_made made p i v whole,
        value_made made q v
            (asserts q q (leaf v), h _ (inl refl), refl, inside_self q) whole (λ b x. h b (inr x)),
      )
  elements_made made p i (element v g x es) way h =
      let q = at p (index i) in
      let whole = element_way made p i v way (h _ (inl refl)) in
      let rest : Part (of_value q v ++ of_elements p (suc i) es) made = λ b y. h b (inr y) in (
        element_made made p i v whole,
        both_made made (of_value q v) (of_elements p (suc i) es)
            (value_made made q v (asserts q q (leaf v), h _ (inl refl), refl, inside_self q) whole
            (left_part (of_value q v) (of_elements p (suc i) es) made rest))
            (elements_made made p (suc i) es way
            (right_part (of_value q v) (of_elements p (suc i) es) made rest)),
      )

  members_made : (made : List Assertion) (p : Place) (ms : Members) → InValue made p → Paved made p false p
      → Part (of_members p ms) made → AreMade made (of_members p ms)
  members_made made p no_members deep way h = tt
  members_made made p (last_member k a b v c) deep way h =
      pair_made made true p k v (λ x y z. value_made made (named p (names k)) v x y z) way (λ e. deep) h
  members_made made p (member k a b v c d ms) deep way h =
      let one = of_key true (named p (names k)) p (names k) v ++ of_value (named p (names k)) v in
      both_made made one (of_members p ms)
      (pair_made made true p k v (λ x y z. value_made made (named p (names k)) v x y z) way (λ e. deep)
      (left_part one (of_members p ms) made h))
      (members_made made p ms deep way (right_part one (of_members p ms) made h))
