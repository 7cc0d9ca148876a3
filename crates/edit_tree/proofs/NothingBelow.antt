-- Each defined place is below the root or a place that an earlier assertion opens; so nothing is defined
-- below a plain value.
use Rattle.std.proofs.Common.{◌≡◌, ℕ, suc, Bool, true, false, ◌-◌, nat_lt, if◌then◌else◌, cond, List, [], ◌∷◌, ◌++◌, map, refl, sym, ap, ◌∙◌, subst, ◌⊎◌, inl, inr, append_assoc}
use Rattle.std.proofs.lemmas.Bool.{and_parts}
use Rattle.edit_syntax.specs.Strings.{Key, name}
use Rattle.edit_syntax.specs.Grammar.{Value, basic, literal, multi_basic, multi_literal, boolean, integer, float, datetime, array, inline, Elements, no_elements, last_element, element, Members, no_members, last_member, member, Statement, pair, header, element_header, empty_line, full_line, Lines, one_line, more_lines, Text}
use Rattle.edit_tree.specs.Assertions.{Place, Step, key, index, at, same_place, Kind, dotted, leaf, super, header_kind, array_kind, element_kind, Assertion, asserts, names, named, of_key, of_value, of_elements, of_members, of_pair, is_array, is_array_at, elements_at, last_element_or_self, fronts, header_place, of_statement, prefix_after, of_lines, assertions}
use Rattle.edit_syntax.proofs.Cases.{by_test}
use Rattle.edit_tree.proofs.SamePlace.{same_place_is}

-- places may lie below one of this kind
abbrev pub opens : Kind → Bool
opens (leaf (array g es)) = true
opens (leaf (inline g ms)) = true
opens (leaf v) = false
opens _ = true

abbrev pub Opened : List Assertion → Place → Type 0
Opened [] p = ⊥
Opened (y ∷ ys) p = ((y.place ≡ p) × (opens y.kind ≡ true)) ⊎ Opened ys p

-- the root, or opened
abbrev pub Stands : List Assertion → Place → Type 0
Stands made p = (p ≡ []) ⊎ Opened made p

-- the assertions of a list put onto others, one after the other
abbrev pub onto : List Assertion → List Assertion → List Assertion
onto [] base = base
onto (x ∷ xs) base = onto xs (x ∷ base)

pub data Rooted : List Assertion → List Assertion → Type 0 where
  done : (base : List Assertion) → Rooted base []
  next : (base : List Assertion) (x : Assertion) (xs : List Assertion) (p : Place) (s : Step)
      → x.place ≡ at p s → Stands base p → Rooted (x ∷ base) xs → Rooted base (x ∷ xs)

rooted_append : (base xs ys : List Assertion) → Rooted base xs → Rooted (onto xs base) ys
    → Rooted base (xs ++ ys)
rooted_append base xs ys (done b) more = more
rooted_append base xs ys (next b x zs p s e st r) more =
    next b x (zs ++ ys) p s e st (rooted_append (x ∷ b) zs ys r more)

onto_append : (xs ys base : List Assertion) → onto (xs ++ ys) base ≡ onto ys (onto xs base)
onto_append [] ys base = refl
onto_append (x ∷ xs) ys base = onto_append xs ys (x ∷ base)

opened_onto : (xs base : List Assertion) (p : Place) → Opened base p → Opened (onto xs base) p
opened_onto [] base p o = o
opened_onto (x ∷ xs) base p o = opened_onto xs (x ∷ base) p (inr o)

opened_in : (xs base : List Assertion) (p : Place) → Opened xs p → Opened (onto xs base) p
opened_in [] base p o = absurd o
opened_in (x ∷ xs) base p (inl h) = opened_onto xs (x ∷ base) p (inl h)
opened_in (x ∷ xs) base p (inr o) = opened_in xs (x ∷ base) p o

opened_right : (xs ys : List Assertion) (p : Place) → Opened ys p → Opened (xs ++ ys) p
opened_right [] ys p o = o
opened_right (x ∷ xs) ys p o = inr (opened_right xs ys p o)

-- ---- pairs and values

rooted_key : (base : List Assertion) (w : Bool) (by p : Place) (ns : List (List ℕ)) (v : Value)
    → Stands base p → Rooted base (of_key w by p ns v)
rooted_key base w by p [] v st = done base
rooted_key base w by p (n ∷ []) v st = next base _ [] p (key n) refl st (done _)
rooted_key base w by p (n ∷ m ∷ ns) v st = next base _ _ p (key n) refl st
    (rooted_key _ w by (at p (key n)) (m ∷ ns) v (inr (inl (refl, refl))))

opened_key : (base : List Assertion) (w : Bool) (by p : Place) (n : List ℕ) (ns : List (List ℕ)) (v : Value)
    → opens (leaf v) ≡ true → Opened (onto (of_key w by p (n ∷ ns) v) base) (named p (n ∷ ns))
opened_key base w by p n [] v o = inl (refl, o)
opened_key base w by p n (m ∷ ns) v o =
    subst (λ q. Opened (onto (of_key w by (at p (key n)) (m ∷ ns) v)
    (asserts by (at p (key n)) (dotted w) ∷ base)) q) (append_assoc p (key n ∷ []) (map key (m ∷ ns)))
    (opened_key (asserts by (at p (key n)) (dotted w) ∷ base) w by (at p (key n)) m ns v o)

opened_named : (base : List Assertion) (w : Bool) (by p : Place) (k : Key) (v : Value) → opens (leaf v) ≡ true
    → Opened (onto (of_key w by p (names k) v) base) (named p (names k))
opened_named base w by p k v o = opened_key base w by p (name k.first) (map (λ d. name d.part) k.others) v o

mutual
  rooted_value : (base : List Assertion) (p : Place) (v : Value) → (opens (leaf v) ≡ true → Opened base p)
      → Rooted base (of_value p v)
  rooted_value base p (basic ps) o = done base
  rooted_value base p (literal t) o = done base
  rooted_value base p (multi_basic ps) o = done base
  rooted_value base p (multi_literal ps) o = done base
  rooted_value base p (boolean b) o = done base
  rooted_value base p (integer n) o = done base
  rooted_value base p (float f) o = done base
  rooted_value base p (datetime d) o = done base
  rooted_value base p (array g es) o = rooted_elements base p 0 es (o refl)
  rooted_value base p (inline g ms) o = rooted_members base p ms (o refl)

  rooted_elements : (base : List Assertion) (p : Place) (i : ℕ) (es : Elements) → Opened base p
      → Rooted base (of_elements p i es)
  rooted_elements base p i no_elements o = done base
  rooted_elements base p i (last_element v g) o = next base _ _ p (index i) refl (inr o)
      (rooted_value _ (at p (index i)) v (λ c. inl (refl, c)))
  rooted_elements base p i (element v g h es) o =
      let x = asserts (at p (index i)) (at p (index i)) (leaf v) in
      next base _ _ p (index i) refl (inr o)
      (rooted_append (x ∷ base) (of_value (at p (index i)) v) _
      (rooted_value (x ∷ base) (at p (index i)) v (λ c. inl (refl, c)))
      (rooted_elements _ p (suc i) es (opened_onto (of_value (at p (index i)) v) (x ∷ base) p (inr o))))

  rooted_members : (base : List Assertion) (p : Place) (ms : Members) → Opened base p
      → Rooted base (of_members p ms)
  rooted_members base p no_members o = done base
  rooted_members base p (last_member k a b v c) o =
      rooted_append base (of_key true (named p (names k)) p (names k) v) _
      (rooted_key base true _ p (names k) v (inr o))
      (rooted_value _ (named p (names k)) v (opened_named base true _ p k v))
  rooted_members base p (member k a b v c d ms) o =
      let l = of_key true (named p (names k)) p (names k) v in
      let m = of_value (named p (names k)) v in
      rooted_append base (l ++ m) _
      (rooted_append base l m (rooted_key base true _ p (names k) v (inr o))
      (rooted_value _ (named p (names k)) v (opened_named base true _ p k v)))
      (subst (λ z. Rooted z (of_members p ms)) (sym (onto_append l m base))
      (rooted_members _ p ms (opened_onto m (onto l base) p (opened_onto l base p o))))

rooted_pair : (base : List Assertion) (p : Place) (k : Key) (v : Value) → Stands base p
    → Rooted base (of_pair p k v)
rooted_pair base p k v st =
    rooted_append base (of_key false (named p (names k)) p (names k) v) _
    (rooted_key base false _ p (names k) v st)
    (rooted_value _ (named p (names k)) v (opened_named base false _ p k v))

-- ---- headers

array_opens : (k : Kind) → is_array k ≡ true → opens k ≡ true
array_opens (dotted w) e = refl
array_opens (leaf v) e = absurd cc
array_opens super e = refl
array_opens header_kind e = refl
array_opens array_kind e = refl
array_opens element_kind e = refl

counted : (earlier : List Assertion) (q : Place) → nat_lt 0 (elements_at earlier q) ≡ true → Opened earlier q
counted [] q e = absurd cc
counted (a ∷ earlier) q e =
    by_test (is_array_at q a)
    (λ h. let b = and_parts (is_array a.kind) (same_place a.place q) h in
    inl (same_place_is a.place q b.1, array_opens a.kind b.0))
    (λ h. inr (counted earlier q
    (sym (ap (λ c. nat_lt 0 (cond c (suc (elements_at earlier q)) (elements_at earlier q))) h) ∙ e)))

-- what is to be shown of what follows the fronts
abbrev Ending : List Assertion → Place → List (List ℕ) → List Assertion → Type 0
Ending earlier p ns tail = (more : List Assertion) (q : Place) (n : List ℕ)
    → header_place earlier p ns ≡ at q (key n) → Stands more q → Rooted more tail

rooted_fronts : (earlier base : List Assertion) → ((r : Place) → Opened earlier r → Opened base r)
    → (by p : Place) (n : List ℕ) (ns : List (List ℕ)) (tail : List Assertion)
    → Stands base p → Ending earlier p (n ∷ ns) tail → Rooted base (fronts earlier by p (n ∷ ns) ++ tail)
rooted_fronts earlier base knows by p n [] tail st end = end base p n refl st
rooted_fronts earlier base knows by p n (m ∷ ns) tail st end =
    let q = at p (key n) in
    let r = last_element_or_self earlier q in
    let more : Rooted (asserts by r super ∷ base) (fronts earlier by r (m ∷ ns) ++ tail) =
    rooted_fronts earlier (asserts by r super ∷ base) (λ z o. inr (knows z o)) by r m ns tail
    (inr (inl (refl, refl))) end in
    by_test (nat_lt 0 (elements_at earlier q))
    (λ h. next base _ _ q (index (elements_at earlier q - 1))
    (ap (λ c. if c then at q (index (elements_at earlier q - 1)) else q) h)
    (inr (knows q (counted earlier q h))) more)
    (λ h. next base _ _ p (key n) (ap (λ c. if c then at q (index (elements_at earlier q - 1)) else q) h) st
    more)

rooted_statement : (earlier : List Assertion) (prefix : Place) (s : Statement)
    → Stands (onto earlier []) prefix → Rooted (onto earlier []) (of_statement earlier prefix s)
rooted_statement earlier prefix (pair k a b v) st = rooted_pair (onto earlier []) prefix k v st
rooted_statement earlier prefix (header a k b) st =
    rooted_fronts earlier (onto earlier []) (λ r o. opened_in earlier [] r o) _ [] _ _ _ (inl refl)
    (λ more q n e stands. next more _ [] q (key n) e stands (done _))
rooted_statement earlier prefix (element_header a k b) st =
    rooted_fronts earlier (onto earlier []) (λ r o. opened_in earlier [] r o) _ [] _ _ _ (inl refl)
    (λ more q n e stands. next more _ _ q (key n) e stands
    (next _ _ [] (header_place earlier [] (names k))
    (index (elements_at earlier (header_place earlier [] (names k)))) refl (inr (inl (refl, refl))) (done _)))

stands_after : (earlier : List Assertion) (prefix : Place) (s : Statement) → Stands (onto earlier []) prefix
    → Stands (onto (of_statement earlier prefix s) (onto earlier [])) (prefix_after earlier prefix s)
stands_after earlier prefix (pair k a b v) (inl e) = inl e
stands_after earlier prefix (pair k a b v) (inr o) =
    inr (opened_onto (of_pair prefix k v) (onto earlier []) prefix o)
stands_after earlier prefix (header a k b) st =
    inr (opened_in (of_statement earlier prefix (header a k b)) (onto earlier []) _
    (opened_right (fronts earlier _ [] (names k)) _ _ (inl (refl, refl))))
stands_after earlier prefix (element_header a k b) st =
    inr (opened_in (of_statement earlier prefix (element_header a k b)) (onto earlier []) _
    (opened_right (fronts earlier _ [] (names k)) _ _ (inr (inl (refl, refl)))))

rooted_lines : (earlier : List Assertion) (prefix : Place) (ls : Lines) → Rooted [] earlier
    → Stands (onto earlier []) prefix → Rooted [] (of_lines earlier prefix ls)
rooted_lines earlier prefix (one_line (empty_line a c)) r st = r
rooted_lines earlier prefix (one_line (full_line a s b c)) r st =
    rooted_append [] earlier _ r (rooted_statement earlier prefix s st)
rooted_lines earlier prefix (more_lines (empty_line a c) e ls) r st = rooted_lines earlier prefix ls r st
rooted_lines earlier prefix (more_lines (full_line a s b c) e ls) r st =
    rooted_lines (earlier ++ of_statement earlier prefix s) (prefix_after earlier prefix s) ls
    (rooted_append [] earlier _ r (rooted_statement earlier prefix s st))
    (subst (λ z. Stands z (prefix_after earlier prefix s))
    (sym (onto_append earlier (of_statement earlier prefix s) [])) (stands_after earlier prefix s st))

pub rooted : (t : Text) → Rooted [] (assertions t)
rooted t = rooted_lines [] [] t.lines (done []) (inl refl)
