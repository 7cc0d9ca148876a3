-- Keys are below tables only: each defined place that ends with a key is below the root or a table.
use Rattle.std.proofs.Common.{◌≡◌, ℕ, suc, Bool, true, false, nat_lt, ◌-◌, cond, List, [], ◌∷◌, ◌++◌, Some, refl, sym, ap, ◌∙◌, subst, ◌⊎◌, inl, inr, append_assoc}
use Rattle.std.specs.List.{AllByRecursion}
use Rattle.std.specs.Prelude.{map}
use Rattle.std.proofs.lemmas.Option.{same_Some}
use Rattle.edit_syntax.specs.Strings.{Key}
use Rattle.edit_syntax.specs.Grammar.{Value, basic, literal, multi_basic, multi_literal, boolean, integer, float, datetime, array, inline, Elements, no_elements, last_element, element, Members, no_members, last_member, member, Statement, pair, header, element_header, empty_line, full_line, Lines, one_line, more_lines, Text}
use Rattle.edit_tree.specs.Assertions.{Place, key, index, at, same_place, Kind, dotted, leaf, super, header_kind, array_kind, element_kind, Assertion, asserts, names, named, of_key, of_value, of_elements, of_members, elements_at, last_element_or_self, fronts, header_place, of_statement, prefix_after, of_lines, assertions, are_compatible, AreCompatible}
use Rattle.edit_tree.specs.Tree.{kind_at}
use Rattle.edit_syntax.proofs.Cases.{by_test}
use Rattle.edit_tree.proofs.SamePlace.{same_place_is, same_place_self, last_same}

-- a table
abbrev pub tabular : Kind → Bool
tabular (leaf (inline g ms)) = true
tabular (leaf v) = false
tabular array_kind = false
tabular _ = true

abbrev pub HasTable : List Assertion → Place → Type 0
HasTable [] p = ⊥
HasTable (y ∷ ys) p = ((y.place ≡ p) × (tabular y.kind ≡ true)) ⊎ HasTable ys p

-- the root, or a table
abbrev pub Tabled : List Assertion → Place → Type 0
Tabled made p = (p ≡ []) ⊎ HasTable made p

abbrev Under : List Assertion → Place → Type 0
Under made place = (p : Place) (n : List ℕ) → place ≡ at p (key n) → Tabled made p

-- all of these whose places end with a name lie below tables
abbrev pub AreUnder : List Assertion → List Assertion → Type 0
AreUnder made xs = AllByRecursion (λ (a : Assertion). Under made a.place) xs

abbrev Part : List Assertion → List Assertion → Type 0
Part xs made = (p : Place) → HasTable xs p → HasTable made p

left_table : (xs ys : List Assertion) (p : Place) → HasTable xs p → HasTable (xs ++ ys) p
left_table [] ys p h = absurd h
left_table (x ∷ xs) ys p (inl h) = inl h
left_table (x ∷ xs) ys p (inr h) = inr (left_table xs ys p h)

right_table : (xs ys : List Assertion) (p : Place) → HasTable ys p → HasTable (xs ++ ys) p
right_table [] ys p h = h
right_table (x ∷ xs) ys p h = inr (right_table xs ys p h)

left_part : (xs ys made : List Assertion) → Part (xs ++ ys) made → Part xs made
left_part xs ys made h p t = h p (left_table xs ys p t)

right_part : (xs ys made : List Assertion) → Part (xs ++ ys) made → Part ys made
right_part xs ys made h p t = h p (right_table xs ys p t)

both_under : (made xs ys : List Assertion) → AreUnder made xs → AreUnder made ys → AreUnder made (xs ++ ys)
both_under made [] ys a b = b
both_under made (x ∷ xs) ys a b = (a.0, both_under made xs ys a.1 b)

-- a name below a table
name_under : (made : List Assertion) (p : Place) (n : List ℕ) → Tabled made p → Under made (at p (key n))
name_under made p n t q m e = subst (Tabled made) (last_same p q (key n) (key m) e).0 t

-- an element has no name
index_under : (made : List Assertion) (p : Place) (i : ℕ) → Under made (at p (index i))
index_under made p i q m e = let clash : index i ≡ key m = (last_same p q (index i) (key m) e).1 in absurd cc

key_under : (made : List Assertion) (w : Bool) (by p : Place) (ns : List (List ℕ)) (v : Value) → Tabled made p
    → Part (of_key w by p ns v) made → AreUnder made (of_key w by p ns v)
key_under made w by p [] v t h = tt
key_under made w by p (n ∷ []) v t h = (name_under made p n t, tt)
key_under made w by p (n ∷ m ∷ ns) v t h = (
  name_under made p n t,
  key_under made w by (at p (key n)) (m ∷ ns) v
      (inr (h (at p (key n)) (inl (refl, refl)))) (λ q x. h q (inr x)),
)

-- the last part of a key has its value
key_table : (w : Bool) (by p : Place) (n : List ℕ) (ns : List (List ℕ)) (v : Value) → tabular (leaf v) ≡ true
    → HasTable (of_key w by p (n ∷ ns) v) (named p (n ∷ ns))
key_table w by p n [] v e = inl (refl, e)
key_table w by p n (m ∷ ns) v e =
    inr (subst (HasTable (of_key w by (at p (key n)) (m ∷ ns) v))
    (append_assoc p (key n ∷ []) (map key (m ∷ ns))) (key_table w by (at p (key n)) m ns v e))

-- a pair, with what stands below its value
pair_under : (made : List Assertion) (w : Bool) (by p : Place) (k : Key) (v : Value)
    → ((tabular (leaf v) ≡ true → HasTable made (named p (names k)))
    → Part (of_value (named p (names k)) v) made → AreUnder made (of_value (named p (names k)) v))
    → Tabled made p → Part (of_key w by p (names k) v ++ of_value (named p (names k)) v) made
    → AreUnder made (of_key w by p (names k) v ++ of_value (named p (names k)) v)
pair_under made w by p k v inside t h =
    let q = named p (names k) in
    both_under made (of_key w by p (names k) v) (of_value q v)
    (key_under made w by p (names k) v t (left_part (of_key w by p (names k) v) (of_value q v) made h))
    (inside (λ e. h q (left_table (of_key w by p (names k) v) (of_value q v) q (key_table w by p _ _ v e)))
    (right_part (of_key w by p (names k) v) (of_value q v) made h))

mutual
  value_under : (made : List Assertion) (p : Place) (v : Value) → (tabular (leaf v) ≡ true → HasTable made p)
      → Part (of_value p v) made → AreUnder made (of_value p v)
  value_under made p (basic ps) t h = tt
  value_under made p (literal x) t h = tt
  value_under made p (multi_basic ps) t h = tt
  value_under made p (multi_literal ps) t h = tt
  value_under made p (boolean b) t h = tt
  value_under made p (integer n) t h = tt
  value_under made p (float f) t h = tt
  value_under made p (datetime d) t h = tt
  value_under made p (array g es) t h = elements_under made p 0 es h
  value_under made p (inline g ms) t h = members_under made p ms (inr (t refl)) h

  elements_under : (made : List Assertion) (p : Place) (i : ℕ) (es : Elements)
      → Part (of_elements p i es) made → AreUnder made (of_elements p i es)
  elements_under made p i no_elements h = tt
  elements_under made p i (last_element v g) h = (
    index_under made p i,
    value_under made (at p (index i)) v (λ e. h (at p (index i)) (inl (refl, e)))
        (λ q x. h q (inr x)),
  )
  elements_under made p i (element v g x es) h =
      let rest : Part (of_value (at p (index i)) v ++ of_elements p (suc i) es) made = λ q y. h q (inr y) in (
        index_under made p i,
        both_under made (of_value (at p (index i)) v) (of_elements p (suc i) es)
            (value_under made (at p (index i)) v (λ e. h (at p (index i)) (inl (refl, e)))
            (left_part (of_value (at p (index i)) v) (of_elements p (suc i) es) made rest))
            (elements_under made p (suc i) es
            (right_part (of_value (at p (index i)) v) (of_elements p (suc i) es) made rest)),
      )

  members_under : (made : List Assertion) (p : Place) (ms : Members) → Tabled made p
      → Part (of_members p ms) made → AreUnder made (of_members p ms)
  members_under made p no_members t h = tt
  members_under made p (last_member k a b v c) t h = pair_under made true (named p (names k)) p k v
      (λ x y. value_under made (named p (names k)) v x y) t h
  members_under made p (member k a b v c d ms) t h =
      let one = of_key true (named p (names k)) p (names k) v ++ of_value (named p (names k)) v in
      both_under made one (of_members p ms)
      (pair_under made true (named p (names k)) p k v (λ x y. value_under made (named p (names k)) v x y) t
      (left_part one (of_members p ms) made h))
      (members_under made p ms t (right_part one (of_members p ms) made h))

-- ---- headers

resolved_under : (made earlier : List Assertion) (p : Place) (n : List ℕ) → Tabled made p
    → Under made (last_element_or_self earlier (at p (key n)))
resolved_under made earlier p n t =
    by_test (nat_lt 0 (elements_at earlier (at p (key n))))
    (λ e. subst (Under made)
    (sym (ap (λ b. cond b (at (at p (key n)) (index (elements_at earlier (at p (key n)) - 1))) (at p (key n)))
    e)) (index_under made (at p (key n)) (elements_at earlier (at p (key n)) - 1)))
    (λ e. subst (Under made)
    (sym (ap (λ b. cond b (at (at p (key n)) (index (elements_at earlier (at p (key n)) - 1))) (at p (key n)))
    e)) (name_under made p n t))

fronts_under : (made earlier : List Assertion) (by p : Place) (n : List ℕ) (ns : List (List ℕ))
    → Tabled made p → Part (fronts earlier by p (n ∷ ns)) made
    → AreUnder made (fronts earlier by p (n ∷ ns)) × Under made (header_place earlier p (n ∷ ns))
fronts_under made earlier by p n [] t h = (tt, name_under made p n t)
fronts_under made earlier by p n (m ∷ ns) t h =
    let q = last_element_or_self earlier (at p (key n)) in
    let r = fronts_under made earlier by q m ns (inr (h q (inl (refl, refl)))) (λ x y. h x (inr y)) in
    ((resolved_under made earlier p n t, r.0), r.1)

statement_under : (made earlier : List Assertion) (prefix : Place) (s : Statement) → Tabled made prefix
    → Part (of_statement earlier prefix s) made → AreUnder made (of_statement earlier prefix s)
statement_under made earlier prefix (pair k a b v) t h =
    pair_under made false (named prefix (names k)) prefix k v
    (λ x y. value_under made (named prefix (names k)) v x y) t h
statement_under made earlier prefix (header a k b) t h =
    let place = header_place earlier [] (names k) in
    let f = fronts_under made earlier place [] _ _ (inl refl)
    (left_part (fronts earlier place [] (names k)) (asserts place place header_kind ∷ []) made h) in
    both_under made (fronts earlier place [] (names k)) (asserts place place header_kind ∷ []) f.0 (f.1, tt)
statement_under made earlier prefix (element_header a k b) t h =
    let place = header_place earlier [] (names k) in
    let own = at place (index (elements_at earlier place)) in
    let f = fronts_under made earlier own [] _ _ (inl refl)
    (left_part (fronts earlier own [] (names k))
    (asserts own place array_kind ∷ asserts own own element_kind ∷ []) made h) in
    both_under made (fronts earlier own [] (names k))
    (asserts own place array_kind ∷ asserts own own element_kind ∷ []) f.0
    (f.1, (index_under made place (elements_at earlier place), tt))

after_table : (made earlier : List Assertion) (prefix : Place) (s : Statement) → Tabled made prefix
    → Part (of_statement earlier prefix s) made → Tabled made (prefix_after earlier prefix s)
after_table made earlier prefix (pair k a b v) t h = t
after_table made earlier prefix (header a k b) t h =
    let place = header_place earlier [] (names k) in
    inr (h place (right_table (fronts earlier place [] (names k)) (asserts place place header_kind ∷ []) place
    (inl (refl, refl))))
after_table made earlier prefix (element_header a k b) t h =
    let place = header_place earlier [] (names k) in
    let own = at place (index (elements_at earlier place)) in
    inr (h own (right_table (fronts earlier own [] (names k))
    (asserts own place array_kind ∷ asserts own own element_kind ∷ []) own (inr (inl (refl, refl)))))

-- ---- lines

earlier_table : (earlier : List Assertion) (prefix : Place) (ls : Lines) (p : Place) → HasTable earlier p
    → HasTable (of_lines earlier prefix ls) p
earlier_table earlier prefix (one_line (empty_line a c)) p h = h
earlier_table earlier prefix (one_line (full_line a s b c)) p h =
    left_table earlier (of_statement earlier prefix s) p h
earlier_table earlier prefix (more_lines (empty_line a c) e ls) p h = earlier_table earlier prefix ls p h
earlier_table earlier prefix (more_lines (full_line a s b c) e ls) p h =
    earlier_table (earlier ++ of_statement earlier prefix s) (prefix_after earlier prefix s) ls p
    (left_table earlier (of_statement earlier prefix s) p h)

lines_under : (made earlier : List Assertion) (prefix : Place) (ls : Lines) → Tabled made prefix
    → AreUnder made earlier → Part (of_lines earlier prefix ls) made
    → AreUnder made (of_lines earlier prefix ls)
lines_under made earlier prefix (one_line (empty_line a c)) t u h = u
lines_under made earlier prefix (one_line (full_line a s b c)) t u h =
    both_under made earlier (of_statement earlier prefix s) u
    (statement_under made earlier prefix s t (right_part earlier (of_statement earlier prefix s) made h))
lines_under made earlier prefix (more_lines (empty_line a c) e ls) t u h =
    lines_under made earlier prefix ls t u h
lines_under made earlier prefix (more_lines (full_line a s b c) e ls) t u h =
    let next = earlier ++ of_statement earlier prefix s in
    let here : Part (of_statement earlier prefix s) made =
    λ p x. h p (earlier_table next (prefix_after earlier prefix s) ls p
    (right_table earlier (of_statement earlier prefix s) p x)) in
    lines_under made next (prefix_after earlier prefix s) ls (after_table made earlier prefix s t here)
    (both_under made earlier (of_statement earlier prefix s) u (statement_under made earlier prefix s t here))
    h

pub under_tables : (t : Text) → AreUnder (assertions t) (assertions t)
under_tables t = lines_under (assertions t) [] [] t.lines (inl refl) tt (λ p h. h)

-- ---- the first assertion of a table's place

joined_table : (k l : Kind) → are_compatible k l ≡ true → tabular l ≡ true → tabular k ≡ true
joined_table (dotted a) l e t = refl
joined_table super l e t = refl
joined_table header_kind l e t = refl
joined_table element_kind l e t = refl
joined_table (leaf v) l e t = absurd cc
joined_table array_kind array_kind e t = absurd cc
joined_table array_kind (dotted a) e t = absurd cc
joined_table array_kind super e t = absurd cc
joined_table array_kind header_kind e t = absurd cc
joined_table array_kind element_kind e t = absurd cc
joined_table array_kind (leaf v) e t = absurd cc

later_table : (k : Kind) (p q : Place) (ys : List Assertion) → p ≡ q
    → AllByRecursion (λ (b : Assertion). p ≡ b.place → are_compatible k b.kind ≡ true) ys → HasTable ys q
    → tabular k ≡ true
later_table k p q [] same all h = absurd h
later_table k p q (y ∷ ys) same all (inl h) = joined_table k y.kind (all.0 (same ∙ sym h.0)) h.1
later_table k p q (y ∷ ys) same all (inr h) = later_table k p q ys same all.1 h

pub first_table : (made : List Assertion) (p : Place) (k : Kind) → AreCompatible made → HasTable made p
    → kind_at made p ≡ Some k → tabular k ≡ true
first_table [] p k clash h e = absurd h
first_table (y ∷ ys) p k clash h e = go (same_place y.place p) refl h e (first_table ys p k clash.1)
  where
    go : (b : Bool) → same_place y.place p ≡ b → HasTable (y ∷ ys) p
        → cond b (Some y.kind) (kind_at ys p) ≡ Some k
        → (HasTable ys p → kind_at ys p ≡ Some k → tabular k ≡ true) → tabular k ≡ true
    go true s (inl x) f ih = let same : y.kind ≡ k = same_Some y.kind k f in ap tabular (sym same) ∙ x.1
    go true s (inr x) f ih = let same : y.kind ≡ k = same_Some y.kind k f in
        ap tabular (sym same) ∙ later_table y.kind y.place p ys (same_place_is y.place p s) clash.0 x
    go false s (inl x) f ih = let clash2 : true ≡ false = sym (same_place_self p) ∙
        ap (λ (q : Place). same_place q p) (sym x.0) ∙ s in absurd cc
    go false s (inr x) f ih = ih x f

pub found_under : (made xs : List Assertion) (p : Place) (n : List ℕ) (l : Kind) → AreUnder made xs
    → kind_at xs (at p (key n)) ≡ Some l → Tabled made p
found_under made [] p n l all e = absurd cc
found_under made (x ∷ xs) p n l all e = go (same_place x.place (at p (key n))) refl e
    (found_under made xs p n l all.1)
  where
    go : (b : Bool) → same_place x.place (at p (key n)) ≡ b
        → cond b (Some x.kind) (kind_at xs (at p (key n))) ≡ Some l
        → (kind_at xs (at p (key n)) ≡ Some l → Tabled made p) → Tabled made p
    go true s f ih = all.0 p n (same_place_is x.place (at p (key n)) s)
    go false s f ih = ih f
