-- What is below the elements of an array; each of its elements exists.
use Rattle.std.proofs.Common.{◌≡◌, ℕ, zero, suc, ◌+◌, ◌<◌, ◌≤◌, Bool, true, false, cond, List, [], ◌∷◌, ◌++◌, length, map, Some, None, refl, sym, ap, subst, ◌∙◌, ◌⊎◌, inl, inr, arith, append_assoc}
use Rattle.std.specs.List.{AllByRecursion}
use Rattle.std.proofs.lemmas.List.{length_push, length-append}
use Rattle.edit_syntax.specs.Strings.{name, Dotted as DottedPart}
use Rattle.edit_syntax.specs.Grammar.{Between, Value, basic, literal, multi_basic, multi_literal, boolean, integer, float, datetime, array, inline, Elements, no_elements, last_element, element, Members, no_members, last_member, member, Statement, pair, header, element_header, empty_line, full_line, Lines, one_line, more_lines, Text}
use Rattle.edit_tree.specs.Assertions.{key, index, Place, at, same_place, leaf, header_kind, array_kind, element_kind, Assertion, asserts, names, named, of_key, of_value, of_elements, of_members, last_element_or_self, fronts, header_place, of_statement, prefix_after, of_lines, assertions}
use Rattle.edit_tree.specs.Tree.{kind_at, count_elements}
use Rattle.edit_tree.proofs.SamePlace.{same_place_is, same_place_self}
use Rattle.edit_tree.proofs.PlainValues.{HasLeaf}

-- ---- what a value asserts lies below it

-- the places have more steps than this
abbrev pub AreDeep : ℕ → List Assertion → Type 0
AreDeep n made = AllByRecursion (λ a. n < length a.place) made

deep_both : (n : ℕ) (xs ys : List Assertion) → AreDeep n xs → AreDeep n ys → AreDeep n (xs ++ ys)
deep_both n [] ys h g = g
deep_both n (x ∷ xs) ys h g = (h.0, deep_both n xs ys h.1 g)

deep_less : (n m : ℕ) (made : List Assertion) → n ≤ m → AreDeep m made → AreDeep n made
deep_less n m [] le h = tt
deep_less n m (a ∷ made) le h = (let lt = h.0 in omega arith, deep_less n m made le h.1)

deep_key : (within : Bool) (by p : Place) (ns : List (List ℕ)) (v : Value)
    → AreDeep (length p) (of_key within by p ns v)
deep_key within by p [] v = tt
deep_key within by p (n ∷ []) v = (let l = length_push p (key n) in omega arith, tt)
deep_key within by p (n ∷ m ∷ ns) v =
    let l = length_push p (key n) in (
      omega arith,
      deep_less (length p) (length (at p (key n))) (of_key within by (at p (key n)) (m ∷ ns) v)
          (omega arith) (deep_key within by (at p (key n)) (m ∷ ns) v),
    )

mutual
  pub deep_value : (p : Place) (v : Value) → AreDeep (length p) (of_value p v)
  deep_value p (basic ps) = tt
  deep_value p (literal text) = tt
  deep_value p (multi_basic ps) = tt
  deep_value p (multi_literal ps) = tt
  deep_value p (boolean b) = tt
  deep_value p (integer n) = tt
  deep_value p (float f) = tt
  deep_value p (datetime d) = tt
  deep_value p (array g es) = deep_elements p 0 es
  deep_value p (inline g ms) = deep_members p ms

  deep_elements : (p : Place) (i : ℕ) (es : Elements) → AreDeep (length p) (of_elements p i es)
  deep_elements p i no_elements = tt
  deep_elements p i (last_element v g) =
      let l = length_push p (index i) in (
        omega arith,
        deep_less (length p) (length (at p (index i))) (of_value (at p (index i)) v) (omega arith)
            (deep_value (at p (index i)) v),
      )
  deep_elements p i (element v g h es) =
      let l = length_push p (index i) in
      let inner = deep_less (length p) (length (at p (index i))) (of_value (at p (index i)) v) (omega arith)
      (deep_value (at p (index i)) v) in (
        omega arith,
        deep_both (length p) (of_value (at p (index i)) v) (of_elements p (suc i) es) inner
            (deep_elements p (suc i) es),
      )

  deep_members : (p : Place) (ms : Members) → AreDeep (length p) (of_members p ms)
  deep_members p no_members = tt
  deep_members p (last_member k a b v c) =
      let q = named p (names k) in
      let inner = deep_less (length p) (length q) (of_value q v)
      (omega (arith, length-append p (map key (names k)))) (deep_value q v) in
      deep_both (length p) (of_key true q p (names k) v) (of_value q v) (deep_key true q p (names k) v) inner
  deep_members p (member k a b v c d ms) =
      let q = named p (names k) in
      let inner = deep_less (length p) (length q) (of_value q v)
      (omega (arith, length-append p (map key (names k)))) (deep_value q v) in
      deep_both (length p) (of_key true q p (names k) v ++ of_value q v) (of_members p ms)
      (deep_both (length p) (of_key true q p (names k) v) (of_value q v)
      (deep_key true q p (names k) v) inner) (deep_members p ms)

pub kind_deep : (n : ℕ) (made : List Assertion) (p : Place) → AreDeep n made → length p ≤ n
    → kind_at made p ≡ None
kind_deep n [] p h le = refl
kind_deep n (a ∷ made) p h le = go (same_place a.place p) refl (kind_deep n made p h.1 le)
  where
    go : (b : Bool) → same_place a.place p ≡ b → kind_at made p ≡ None
        → cond b (Some a.kind) (kind_at made p) ≡ None
    go true t ih = absurd (let same : length a.place ≡ length p = ap length (same_place_is a.place p t) in
        let lt = h.0 in omega arith)
    go false t ih = ih

pub kind_append : (xs ys : List Assertion) (p : Place) → kind_at xs p ≡ None
    → kind_at (xs ++ ys) p ≡ kind_at ys p
kind_append [] ys p e = refl
kind_append (x ∷ xs) ys p e = go (same_place x.place p) e (kind_append xs ys p)
  where
    go : (b : Bool) → cond b (Some x.kind) (kind_at xs p) ≡ None
        → (kind_at xs p ≡ None → kind_at (xs ++ ys) p ≡ kind_at ys p)
        → cond b (Some x.kind) (kind_at (xs ++ ys) p) ≡ kind_at ys p
    go true h ih = absurd cc
    go false h ih = ih h

-- ---- the elements of an array stand

-- some assertion is of this place
abbrev pub AnyAt : Place → List Assertion → Type 0
AnyAt p [] = ⊥
AnyAt p (a ∷ made) = (a.place ≡ p) ⊎ AnyAt p made

any_left : (p : Place) (xs ys : List Assertion) → AnyAt p xs → AnyAt p (xs ++ ys)
any_left p [] ys h = absurd h
any_left p (x ∷ xs) ys (inl e) = inl e
any_left p (x ∷ xs) ys (inr m) = inr (any_left p xs ys m)

any_right : (p : Place) (xs ys : List Assertion) → AnyAt p ys → AnyAt p (xs ++ ys)
any_right p [] ys h = h
any_right p (x ∷ xs) ys h = inr (any_right p xs ys h)

pub any_stands : (p : Place) (made : List Assertion) → AnyAt p made → kind_at made p ≡ None → ⊥
any_stands p [] h e = h
any_stands p (a ∷ made) (inl same) e = let t : same_place a.place p ≡ true =
    ap (λ (q : Place). same_place q p) same ∙ same_place_self p in
    let some : Some a.kind ≡ None = rw t at e in cc
any_stands p (a ∷ made) (inr m) e = go (same_place a.place p) e (any_stands p made m)
  where
    go : (b : Bool) → cond b (Some a.kind) (kind_at made p) ≡ None → (kind_at made p ≡ None → ⊥) → ⊥
    go true h ih = cc
    go false h ih = ih h

has_parts : (p : Place) (v : Value) (xs ys : List Assertion) → HasLeaf p v (xs ++ ys) → HasLeaf p v xs
    ⊎ HasLeaf p v ys
has_parts p v [] ys h = inr h
has_parts p v (x ∷ xs) ys (inl e) = inl (inl e)
has_parts p v (x ∷ xs) ys (inr m) = elim (has_parts p v xs ys m) [ inl a ↦ inl (inr a) | inr b ↦ inr b ]

pub has_kind : (p : Place) (v : Value) (made : List Assertion) → kind_at made p ≡ Some (leaf v)
    → HasLeaf p v made
has_kind p v [] e = absurd cc
has_kind p v (a ∷ made) e = go (same_place a.place p) refl e (has_kind p v made)
  where
    go : (b : Bool) → same_place a.place p ≡ b → cond b (Some a.kind) (kind_at made p) ≡ Some (leaf v)
        → (kind_at made p ≡ Some (leaf v) → HasLeaf p v made) → HasLeaf p v (a ∷ made)
    go true t h ih = inl (same_place_is a.place p t, let same : a.kind ≡ leaf v = cc in same)
    go false t h ih = inr (ih h)

-- the place of each element is asserted where the array is
abbrev pub AreWhole : List Assertion → Type 0
AreWhole made = (p : Place) (g : List Between) (es : Elements) (i : ℕ) → HasLeaf p (array g es) made
    → i < count_elements es → AnyAt (at p (index i)) made

whole_none : (made : List Assertion) → ((p : Place) (v : Value) → HasLeaf p v made → ⊥) → AreWhole made
whole_none made free p g es i h lt = absurd (free p (array g es) h)

whole_both : (xs ys : List Assertion) → AreWhole xs → AreWhole ys → AreWhole (xs ++ ys)
whole_both xs ys h k p g es i has lt = elim (has_parts p (array g es) xs ys has) [
  | inl a ↦ any_left (at p (index i)) xs ys (h p g es i a lt)
  | inr b ↦ any_right (at p (index i)) xs ys (k p g es i b lt)
]

elements_any : (p : Place) (j : ℕ) (es : Elements) (i : ℕ) → i < count_elements es
    → AnyAt (at p (index (j + i))) (of_elements p j es)
elements_any p j no_elements i lt = absurd (omega arith)
elements_any p j (last_element v g) i lt =
    inl (ap (λ (n : ℕ). at p (index n)) (let same : j ≡ j + i = omega arith in same))
elements_any p j (element v g h es) zero lt =
    inl (ap (λ (n : ℕ). at p (index n)) (let same : j ≡ j + zero = omega arith in same))
elements_any p j (element v g h es) (suc i) lt =
    let same : suc j + i ≡ j + suc i = omega arith in
    inr (any_right (at p (index (j + suc i))) (of_value (at p (index j)) v) (of_elements p (suc j) es)
    (subst (λ (n : ℕ). AnyAt (at p (index n)) (of_elements p (suc j) es)) same
    (elements_any p (suc j) es i (omega arith))))

-- a value at a place, and all that it asserts
abbrev whole_at : Place → Value → List Assertion → List Assertion
whole_at p v front = front ++ of_value p v

-- the front asserts this value at this place, and no other
abbrev OnlyValue : Place → Value → List Assertion → Type 0
OnlyValue p v front = (q : Place) (w : Value) → HasLeaf q w front → (p ≡ q) × (v ≡ w)

whole_value_at : (p : Place) (v : Value) (front : List Assertion) → OnlyValue p v front
    → AreWhole (of_value p v) → AreWhole (front ++ of_value p v)
whole_value_at p v front only inner q g es i has lt =
    elim (has_parts q (array g es) front (of_value p v) has) [
      | inl a ↦
          let o = only q (array g es) a in
          let here : AnyAt (at p (index (0 + i))) (of_value p (array g es)) = elements_any p 0 es i lt in
          let zero : 0 + i ≡ i = omega arith in
          any_right (at q (index i)) front (of_value p v)
          (subst (λ (w : Value). AnyAt (at q (index i)) (of_value p w)) (sym o.1)
          (subst (λ (r : Place). AnyAt (at r (index i)) (of_value p (array g es))) o.0
          (subst (λ (n : ℕ). AnyAt (at p (index n)) (of_value p (array g es))) zero here)))
      | inr b ↦ any_right (at q (index i)) front (of_value p v) (inner q g es i b lt)
    ]

only_leaf : (p : Place) (v : Value) (by : Place) → OnlyValue p v (asserts by p (leaf v) ∷ [])
only_leaf p v by q w (inl h) = (h.0, let same : v ≡ w = cc in same)
only_leaf p v by q w (inr h) = absurd h

only_key : (within : Bool) (by p : Place) (n : List ℕ) (ns : List (List ℕ)) (v : Value)
    → OnlyValue (named p (n ∷ ns)) v (of_key within by p (n ∷ ns) v)
only_key within by p n [] v q w h = only_leaf (at p (key n)) v by q w h
only_key within by p n (m ∷ ns) v q w (inl h) = absurd cc
only_key within by p n (m ∷ ns) v q w (inr h) =
    let o = only_key within by (at p (key n)) m ns v q w h in
    (sym (append_assoc p (key n ∷ []) (map key (m ∷ ns))) ∙ o.0, o.1)

mutual
  pub whole_value : (p : Place) (v : Value) → AreWhole (of_value p v)
  whole_value p (basic ps) = whole_none [] (λ q w h. h)
  whole_value p (literal text) = whole_none [] (λ q w h. h)
  whole_value p (multi_basic ps) = whole_none [] (λ q w h. h)
  whole_value p (multi_literal ps) = whole_none [] (λ q w h. h)
  whole_value p (boolean b) = whole_none [] (λ q w h. h)
  whole_value p (integer n) = whole_none [] (λ q w h. h)
  whole_value p (float f) = whole_none [] (λ q w h. h)
  whole_value p (datetime d) = whole_none [] (λ q w h. h)
  whole_value p (array g es) = whole_elements p 0 es
  whole_value p (inline g ms) = whole_members p ms

  whole_elements : (p : Place) (i : ℕ) (es : Elements) → AreWhole (of_elements p i es)
  whole_elements p i no_elements = whole_none [] (λ q w h. h)
  whole_elements p i (last_element v g) =
      let q = at p (index i) in
      whole_value_at q v (asserts q q (leaf v) ∷ []) (only_leaf q v q) (whole_value q v)
  whole_elements p i (element v g h es) =
      let q = at p (index i) in
      whole_both (asserts q q (leaf v) ∷ of_value q v) (of_elements p (suc i) es)
      (whole_value_at q v (asserts q q (leaf v) ∷ []) (only_leaf q v q) (whole_value q v))
      (whole_elements p (suc i) es)

  whole_members : (p : Place) (ms : Members) → AreWhole (of_members p ms)
  whole_members p no_members = whole_none [] (λ q w h. h)
  whole_members p (last_member k a b v c) =
      let q = named p (names k) in
      whole_value_at q v (of_key true q p (names k) v)
      (only_key true q p (name k.first) (map (λ (d : DottedPart). name d.part) k.others) v) (whole_value q v)
  whole_members p (member k a b v c d ms) =
      let q = named p (names k) in
      whole_both (of_key true q p (names k) v ++ of_value q v) (of_members p ms)
      (whole_value_at q v (of_key true q p (names k) v)
      (only_key true q p (name k.first) (map (λ (d : DottedPart). name d.part) k.others) v) (whole_value q v))
      (whole_members p ms)

-- ---- statements

front_values : (earlier : List Assertion) (by p : Place) (ns : List (List ℕ)) (q : Place) (v : Value)
    → HasLeaf q v (fronts earlier by p ns) → ⊥
front_values earlier by p [] q v h = h
front_values earlier by p (n ∷ []) q v h = h
front_values earlier by p (n ∷ m ∷ ns) q v (inl h) = cc
front_values earlier by p (n ∷ m ∷ ns) q v (inr h) = front_values earlier by (last_element_or_self earlier (at p (key n)))
    (m ∷ ns) q v h

whole_statement : (earlier : List Assertion) (prefix : Place) (s : Statement)
    → AreWhole (of_statement earlier prefix s)
whole_statement earlier prefix (pair k a b v) =
    let q = named prefix (names k) in
    whole_value_at q v (of_key false q prefix (names k) v)
    (only_key false q prefix (name k.first) (map (λ (d : DottedPart). name d.part) k.others) v)
    (whole_value q v)
whole_statement earlier prefix (header a k b) =
    let p = header_place earlier [] (names k) in
    whole_both (fronts earlier p [] (names k)) (asserts p p header_kind ∷ [])
    (whole_none (fronts earlier p [] (names k)) (front_values earlier p [] (names k)))
    (whole_none (asserts p p header_kind ∷ []) no_header)
  where
    no_header : (q : Place) (v : Value)
        → HasLeaf q v (asserts (header_place earlier [] (names k))
        (header_place earlier [] (names k)) header_kind ∷ []) → ⊥
    no_header q v (inl h) = cc
    no_header q v (inr h) = h
whole_statement earlier prefix (element_header a k b) =
    let by = prefix_after earlier prefix (element_header a k b) in
    let p = header_place earlier [] (names k) in
    whole_both (fronts earlier by [] (names k)) (asserts by p array_kind ∷ asserts by by element_kind ∷ [])
    (whole_none (fronts earlier by [] (names k)) (front_values earlier by [] (names k)))
    (whole_none (asserts by p array_kind ∷ asserts by by element_kind ∷ []) (no_element by p))
  where
    no_element : (by p q : Place) (v : Value)
        → HasLeaf q v (asserts by p array_kind ∷ asserts by by element_kind ∷ []) → ⊥
    no_element by p q v (inl h) = cc
    no_element by p q v (inr (inl h)) = cc
    no_element by p q v (inr (inr h)) = h

whole_lines : (ls : Lines) (made : List Assertion) (p : Place) → AreWhole made → AreWhole (of_lines made p ls)
whole_lines (one_line (empty_line a c)) made p w = w
whole_lines (one_line (full_line a s b c)) made p w = whole_both made (of_statement made p s) w
    (whole_statement made p s)
whole_lines (more_lines (empty_line a c) e ls) made p w = whole_lines ls made p w
whole_lines (more_lines (full_line a s b c) e ls) made p w =
    whole_lines ls (made ++ of_statement made p s) (prefix_after made p s)
    (whole_both made (of_statement made p s) w (whole_statement made p s))

pub text_whole : (t : Text) → AreWhole (assertions t)
text_whole t = whole_lines t.lines [] [] (whole_none [] (λ q w h. h))
