-- After each statement, every array of tables has as many elements as were defined.
use Rattle.std.proofs.Common.{◌≡◌, ℕ, suc, Bool, true, false, cond, ◌&&◌, List, [], ◌∷◌, ◌++◌, Some, refl, sym, ap, ◌∙◌, ◌⊎◌, inl, inr, append_assoc, subst}
use Rattle.std.specs.List.{AllByRecursion}
use Rattle.edit_syntax.specs.Grammar.{Value, basic, literal, multi_basic, multi_literal, boolean, integer, float, datetime, array, inline, Elements, no_elements, last_element, element, Members, no_members, last_member, member, Statement, pair, header, element_header}
use Rattle.edit_tree.specs.Assertions.{key, index, Place, at, same_place, Kind, dotted, leaf, super, header_kind, array_kind, element_kind, Assertion, asserts, are_compatible, AreCompatible, names, named, of_key, of_value, of_elements, of_members, is_array, is_array_at, elements_at, last_element_or_self, fronts, header_place, of_statement}
use Rattle.edit_tree.specs.Tree.{kind_at}
use Rattle.edit_tree.proofs.SamePlace.{same_place_is, last_same, other_place, same_place_self, place_or}
use Rattle.edit_tree.proofs.MoreMembers.{is_element, elements_below, elements_stay, elements_grow, elements_else}

-- as many arrays as elements are asserted
abbrev pub IsEven : List Assertion → Type 0
IsEven made = (p : Place) → elements_at made p ≡ elements_below made p

-- ---- one assertion more

pub arrays_more : (made : List Assertion) (a : Assertion) (p : Place) (b : Bool) → is_array_at p a ≡ b
    → elements_at (made ++ a ∷ []) p ≡ cond b (suc (elements_at made p)) (elements_at made p)
arrays_more [] a p b e = ap (λ (x : Bool). cond x 1 0) e
arrays_more (c ∷ made) a p b e = go (is_array_at p c) b (arrays_more made a p b e)
  where
    go : (x y : Bool) → elements_at (made ++ a ∷ []) p ≡ cond y (suc (elements_at made p))
        (elements_at made p)
        → cond x (suc (elements_at (made ++ a ∷ []) p)) (elements_at (made ++ a ∷ []) p)
        ≡ cond y (suc (cond x (suc (elements_at made p)) (elements_at made p)))
        (cond x (suc (elements_at made p)) (elements_at made p))
    go true true ih = ap suc ih
    go true false ih = ap suc ih
    go false true ih = ih
    go false false ih = ih

pub arrays_stay : (made : List Assertion) (a : Assertion) (p : Place) → is_array a.kind ≡ false
    → elements_at (made ++ a ∷ []) p ≡ elements_at made p
arrays_stay made a p e = arrays_more made a p false (ap (λ (b : Bool). b && same_place a.place p) e)

-- neither an array nor an element
abbrev pub is_plain : Kind → Bool
is_plain array_kind = false
is_plain element_kind = false
is_plain _ = true

pub plain_array : (k : Kind) → is_plain k ≡ true → is_array k ≡ false
plain_array (dotted b) e = refl
plain_array (leaf v) e = refl
plain_array super e = refl
plain_array header_kind e = refl
plain_array array_kind e = absurd cc
plain_array element_kind e = absurd cc

plain_element : (k : Kind) → is_plain k ≡ true → is_element k ≡ false
plain_element (dotted b) e = refl
plain_element (leaf v) e = refl
plain_element super e = refl
plain_element header_kind e = refl
plain_element array_kind e = absurd cc
plain_element element_kind e = absurd cc

abbrev pub ArePlain : List Assertion → Type 0
ArePlain made = AllByRecursion (λ a. is_plain a.kind ≡ true) made

pub even_plain : (made more : List Assertion) → IsEven made → ArePlain more → IsEven (made ++ more)
even_plain made [] e h = subst IsEven (sym (nil made)) e
  where
    nil : (xs : List Assertion) → xs ++ [] ≡ xs
    nil [] = refl
    nil (x ∷ xs) = ap (λ (ys : List Assertion). x ∷ ys) (nil xs)
even_plain made (a ∷ more) e h =
    let one : IsEven (made ++ a ∷ []) = λ p. arrays_stay made a p (plain_array a.kind h.0) ∙ e p ∙
    sym (elements_stay made a p (plain_element a.kind h.0)) in
    subst IsEven (append_assoc made (a ∷ []) more) (even_plain (made ++ a ∷ []) more one h.1)

pub plain_both : (xs ys : List Assertion) → ArePlain xs → ArePlain ys → ArePlain (xs ++ ys)
plain_both [] ys h g = g
plain_both (x ∷ xs) ys h g = (h.0, plain_both xs ys h.1 g)

-- ---- an array stands alone

no_arrays : (p : Place) (k : Kind) (made : List Assertion)
    → AllByRecursion (λ b. p ≡ b.place → are_compatible k b.kind ≡ true) made → is_array k ≡ false
    → elements_at made p ≡ 0
no_arrays p k [] h ne = refl
no_arrays p k (b ∷ made) h ne = go (same_place b.place p) refl (no_arrays p k made h.1 ne)
  where
    other : (j : Kind) → are_compatible k j ≡ true → is_array j ≡ false
    other (dotted w) t = refl
    other (leaf v) t = refl
    other super t = refl
    other header_kind t = refl
    other element_kind t = refl
    other array_kind t = pick k t ne
      where
        pick : (x : Kind) → are_compatible x array_kind ≡ true → is_array x ≡ false → true ≡ false
        pick (dotted w) t ne = absurd cc
        pick (leaf v) t ne = absurd cc
        pick super t ne = absurd cc
        pick header_kind t ne = absurd cc
        pick array_kind t ne = ne
        pick element_kind t ne = absurd cc

    go : (t : Bool) → same_place b.place p ≡ t → elements_at made p ≡ 0 → elements_at (b ∷ made) p ≡ 0
    go true t ih = let plain = other b.kind (h.0 (sym (same_place_is b.place p t))) in rw plain ih
    go false t ih = rw (t, nothing (is_array b.kind)) ih
      where
        nothing : (x : Bool) → (x && false) ≡ false
        nothing true = refl
        nothing false = refl

-- where an array of tables is asserted, it is the first
pub arrays_alone : (made : List Assertion) (p : Place) → AreCompatible made → (elements_at made p ≡ 0)
    ⊎ (kind_at made p ≡ Some array_kind)
arrays_alone [] p h = inl refl
arrays_alone (a ∷ made) p h = go (same_place a.place p) refl (arrays_alone made p h.1)
  where
    here : (k : Kind) → a.kind ≡ k → same_place a.place p ≡ true
        → AllByRecursion (λ b. p ≡ b.place → are_compatible k b.kind ≡ true) made
    here k e t = subst (λ (x : Kind). AllByRecursion (λ b. p ≡ b.place → are_compatible x b.kind ≡ true) made) e
        (subst (λ (q : Place). AllByRecursion (λ b. q ≡ b.place → are_compatible a.kind b.kind ≡ true) made)
        (same_place_is a.place p t) h.0)

    first : (k : Kind) → a.kind ≡ k → same_place a.place p ≡ true → (elements_at (a ∷ made) p ≡ 0)
        ⊎ (kind_at (a ∷ made) p ≡ Some array_kind)
    first array_kind e t = inr (rw (t, e) refl)
    first (dotted w) e t = inl (rw e (no_arrays p (dotted w) made (here (dotted w) e t) refl))
    first (leaf v) e t = inl (rw e (no_arrays p (leaf v) made (here (leaf v) e t) refl))
    first super e t = inl (rw e (no_arrays p super made (here super e t) refl))
    first header_kind e t = inl (rw e (no_arrays p header_kind made (here header_kind e t) refl))
    first element_kind e t = inl (rw e (no_arrays p element_kind made (here element_kind e t) refl))

    go : (t : Bool) → same_place a.place p ≡ t → (elements_at made p ≡ 0) ⊎ (kind_at made p ≡ Some array_kind)
        → (elements_at (a ∷ made) p ≡ 0) ⊎ (kind_at (a ∷ made) p ≡ Some array_kind)
    go true t ih = first a.kind refl t
    go false t (inl e) = inl (rw (t, nothing (is_array a.kind)) e)
      where
        nothing : (x : Bool) → (x && false) ≡ false
        nothing true = refl
        nothing false = refl
    go false t (inr e) = inr (rw t e)

-- ---- what values and headers assert

pub plain_key : (within : Bool) (by p : Place) (ns : List (List ℕ)) (v : Value)
    → ArePlain (of_key within by p ns v)
plain_key within by p [] v = tt
plain_key within by p (n ∷ []) v = (refl, tt)
plain_key within by p (n ∷ m ∷ ns) v = (refl, plain_key within by (at p (key n)) (m ∷ ns) v)

mutual
  pub plain_value : (p : Place) (v : Value) → ArePlain (of_value p v)
  plain_value p (basic ps) = tt
  plain_value p (literal t) = tt
  plain_value p (multi_basic ps) = tt
  plain_value p (multi_literal ps) = tt
  plain_value p (boolean b) = tt
  plain_value p (integer n) = tt
  plain_value p (float f) = tt
  plain_value p (datetime d) = tt
  plain_value p (array g es) = plain_elements p 0 es
  plain_value p (inline g ms) = plain_members p ms

  plain_elements : (p : Place) (i : ℕ) (es : Elements) → ArePlain (of_elements p i es)
  plain_elements p i no_elements = tt
  plain_elements p i (last_element v g) = (refl, plain_value (at p (index i)) v)
  plain_elements p i (element v g h es) = (
    refl,
    plain_both (of_value (at p (index i)) v) (of_elements p (suc i) es)
        (plain_value (at p (index i)) v) (plain_elements p (suc i) es),
  )

  plain_members : (p : Place) (ms : Members) → ArePlain (of_members p ms)
  plain_members p no_members = tt
  plain_members p (last_member k a b v c) =
      let q = named p (names k) in
      plain_both (of_key true q p (names k) v) (of_value q v) (plain_key true q p (names k) v)
      (plain_value q v)
  plain_members p (member k a b v c d ms) =
      let q = named p (names k) in
      plain_both (of_key true q p (names k) v ++ of_value q v) (of_members p ms)
      (plain_both (of_key true q p (names k) v) (of_value q v) (plain_key true q p (names k) v)
      (plain_value q v)) (plain_members p ms)

pub plain_fronts : (earlier : List Assertion) (by p : Place) (ns : List (List ℕ))
    → ArePlain (fronts earlier by p ns)
plain_fronts earlier by p [] = tt
plain_fronts earlier by p (n ∷ []) = tt
plain_fronts earlier by p (n ∷ m ∷ ns) =
    (refl, plain_fronts earlier by (last_element_or_self earlier (at p (key n))) (m ∷ ns))

-- ---- statements

-- an array and its element
even_element : (made : List Assertion) (by q : Place) (i : ℕ) → IsEven made
    → IsEven ((made ++ asserts by q array_kind ∷ []) ++ asserts by (at q (index i)) element_kind ∷ [])
even_element made by q i e p = elim (place_or q p) [
  | inl same ↦
      let a : Assertion = asserts by q array_kind in
      let b : Assertion = asserts by (at q (index i)) element_kind in
      let here : is_array_at p a ≡ true = ap (λ (r : Place). same_place r p) same ∙ same_place_self p in
      arrays_stay (made ++ a ∷ []) b p refl ∙ arrays_more made a p true here ∙ ap suc (e p)
      ∙ sym (elements_grow (made ++ a ∷ []) b p i refl (ap (λ (r : Place). at r (index i)) same) ∙
      ap suc (elements_stay made a p refl))
  | inr ne ↦
      let a : Assertion = asserts by q array_kind in
      let b : Assertion = asserts by (at q (index i)) element_kind in
      arrays_stay (made ++ a ∷ []) b p refl ∙ arrays_more made a p false (other_place q p ne) ∙ e p
      ∙ sym (elements_else (made ++ a ∷ []) b p (λ j place. ne (last_same q p (index i) (index j) place).0) ∙
      elements_stay made a p refl)
]

pub even_statement : (earlier : List Assertion) (prefix : Place) (s : Statement) → IsEven earlier
    → IsEven (earlier ++ of_statement earlier prefix s)
even_statement earlier prefix (pair k a b v) e =
    let q = named prefix (names k) in
    even_plain earlier (of_key false q prefix (names k) v ++ of_value q v) e
    (plain_both (of_key false q prefix (names k) v) (of_value q v) (plain_key false q prefix (names k) v)
    (plain_value q v))
even_statement earlier prefix (header a k b) e =
    let q = header_place earlier [] (names k) in
    even_plain earlier (fronts earlier q [] (names k) ++ asserts q q header_kind ∷ []) e
    (plain_both (fronts earlier q [] (names k)) (asserts q q header_kind ∷ [])
    (plain_fronts earlier q [] (names k)) (refl, tt))
even_statement earlier prefix (element_header a k b) e =
    let q = header_place earlier [] (names k) in
    let i = elements_at earlier q in
    let by = at q (index i) in
    let supers = fronts earlier by [] (names k) in
    let first = even_plain earlier supers e (plain_fronts earlier by [] (names k)) in
    let all = even_element (earlier ++ supers) by q i first in
    subst IsEven (append_assoc (earlier ++ supers) (asserts by q array_kind ∷ [])
    (asserts by by element_kind ∷ []) ∙
    append_assoc earlier supers (asserts by q array_kind ∷ asserts by by element_kind ∷ [])) all
