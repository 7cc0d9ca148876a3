-- How each assertion of a document relates to the place that its statement names.
use Rattle.std.proofs.Common.{◌≡◌, ℕ, suc, ◌+◌, ◌-◌, ◌<◌, Bool, true, false, ◌&&◌, nat_lt, cond, List, [], ◌∷◌, ◌++◌, refl, sym, ap, subst, ◌∙◌, inl, inr, true≢false, arith}
use Rattle.std.proofs.lemmas.Bool.{ltb-true}
use Rattle.edit_syntax.specs.Grammar.{Statement, pair, header, element_header}
use Rattle.edit_syntax.proofs.Cases.{by_test}
use Rattle.edit_syntax.proofs.Members.{Among}
use Rattle.edit_tree.specs.Assertions.{Place, key, index, at, same_place, Kind, dotted, super, header_kind, array_kind, element_kind, Assertion, asserts, names, named, is_array, is_array_at, elements_at, last_element_or_self, fronts, header_place, of_statement, prefix_after}
use Rattle.edit_tree.specs.EditBytes.{is_within}
use Rattle.edit_tree.proofs.ArrayCounts.{ArePlain, plain_array}
use Rattle.edit_tree.proofs.Asserters.{Paved, Made, AreMade, Part, left_part, right_part, both_made, paved_root, paved_at, paved_any, key_ground, index_ground}
use Rattle.edit_tree.proofs.ValueAsserters.{value_made, pair_made}
use Rattle.edit_tree.proofs.HeadedPlaces.{inside_self, inside_more, inside_trans, inside_header}
use Rattle.edit_tree.proofs.PairedPlaces.{owns}

-- the array and the element of each element that was asserted so far
abbrev pub Elemented : List Assertion → List Assertion → Type 0
Elemented made earlier =
    (p : Place) (i : ℕ) → i < elements_at earlier p
    → Among (asserts (at p (index i)) p array_kind) made
    × Among (asserts (at p (index i)) (at p (index i)) element_kind) made

-- ---- counts of elements

pub elements_append : (xs ys : List Assertion) (p : Place)
    → elements_at (xs ++ ys) p ≡ elements_at xs p + elements_at ys p
elements_append [] ys p = omega arith
elements_append (x ∷ xs) ys p = go (is_array_at p x) (elements_append xs ys p)
  where
    go : (b : Bool) → elements_at (xs ++ ys) p ≡ elements_at xs p + elements_at ys p
        → cond b (suc (elements_at (xs ++ ys) p)) (elements_at (xs ++ ys) p)
        ≡ cond b (suc (elements_at xs p)) (elements_at xs p) + elements_at ys p
    go true e = omega (arith, e)
    go false e = e

pub elements_plain : (xs : List Assertion) (p : Place) → ArePlain xs → elements_at xs p ≡ 0
elements_plain [] p h = refl
elements_plain (x ∷ xs) p h =
    ap (λ b. cond (b && same_place x.place p) (suc (elements_at xs p)) (elements_at xs p))
    (plain_array x.kind h.0) ∙ elements_plain xs p h.1

pub elementless : (made earlier more : List Assertion) → ArePlain more → Elemented made earlier
    → Elemented made (earlier ++ more)
elementless made earlier more h all p i lt =
    let sum = elements_append earlier more p in
    let none = elements_plain more p h in
    all p i (omega (arith, lt, sum, none))

-- ---- headers

module _ (made earlier : List Assertion) (by : Place) (all : Elemented made earlier) where
  resolved_way : (p : Place) (n : List ℕ) → Paved made by true p
      → Among (asserts by (last_element_or_self earlier (at p (key n))) super) made
      → is_within (last_element_or_self earlier (at p (key n))) by ≡ true
      → Paved made by true (last_element_or_self earlier (at p (key n)))
  resolved_way p n way m low = by_test (nat_lt 0 (elements_at earlier (at p (key n)))) some none
    where
      q : Place
      q = at p (key n)

      i : ℕ
      i = elements_at earlier (at p (key n)) - 1

      to : (b : Bool) → nat_lt 0 (elements_at earlier (at p (key n))) ≡ b
          → last_element_or_self earlier (at p (key n))
          ≡ cond b (at (at p (key n)) (index (elements_at earlier (at p (key n)) - 1))) (at p (key n))
      to b e = ap (λ b. cond b (at (at p (key n)) (index (elements_at earlier (at p (key n)) - 1)))
          (at p (key n))) e

      none : nat_lt 0 (elements_at earlier (at p (key n))) ≡ false
          → Paved made by true (last_element_or_self earlier (at p (key n)))
      none e =
          subst (Paved made by true) (sym (to false e))
          (paved_at made by true p (key n) way
          (key_ground made by true p n (asserts by (last_element_or_self earlier (at p (key n))) super) m (to false e)
          (inside_self by) (λ f. refl)))

      some : nat_lt 0 (elements_at earlier (at p (key n))) ≡ true
          → Paved made by true (last_element_or_self earlier (at p (key n)))
      some e =
          let lt = ltb-true 0 (elements_at earlier q) e in
          let two = all q i (omega (arith, lt)) in
          let near : is_within (at q (index i)) by ≡ true = ap (λ z. is_within z by) (sym (to true e)) ∙
          low in
          subst (Paved made by true) (sym (to true e))
          (paved_at made by true q (index i)
          (paved_at made by true p (key n) way
          (key_ground made by true p n (asserts (at q (index i)) q array_kind) two.0 refl near (λ f. refl)))
          (index_ground made by true q i element_kind two.1 near (λ f. refl)))

  -- the place above the last part
  pub fronts_way : (p : Place) (n : List ℕ) (ns : List (List ℕ)) → Paved made by true p
      → Part (fronts earlier by p (n ∷ ns)) made
      → is_within (header_place earlier p (n ∷ ns)) by ≡ true
      → (u : Place) × (l : List ℕ) × (header_place earlier p (n ∷ ns) ≡ at u (key l)) × Paved made by true u
  fronts_way p n [] way h low = (p, n, refl, way)
  fronts_way p n (m ∷ ns) way h low =
      let r = last_element_or_self earlier (at p (key n)) in
      let near = inside_trans r (header_place earlier r (m ∷ ns)) by (inside_header earlier r m ns) low in
      fronts_way r m ns (resolved_way p n way (h _ (inl refl)) near) (λ b x. h b (inr x)) low

  -- the next part of a header is on its way
  next_part : (r : Place) (m : List ℕ) (ns : List (List ℕ))
      → is_within (at r (key m)) (header_place earlier r (m ∷ ns)) ≡ true
  next_part r m [] = inside_self (at r (key m))
  next_part r m (l ∷ ns) =
      inside_trans (at r (key m)) (last_element_or_self earlier (at r (key m))) _
      (go (nat_lt 0 (elements_at earlier (at r (key m)))))
      (inside_header earlier (last_element_or_self earlier (at r (key m))) l ns)
    where
      go : (b : Bool) → is_within (at r (key m))
          (cond b (at (at r (key m)) (index (elements_at earlier (at r (key m)) - 1))) (at r (key m))) ≡ true
      go true = inside_more (at r (key m)) (at r (key m)) _ (inside_self (at r (key m)))
      go false = inside_self (at r (key m))

  pub fronts_made : (p : Place) (n : List ℕ) (ns : List (List ℕ)) → Paved made by true p
      → Part (fronts earlier by p (n ∷ ns)) made
      → is_within (header_place earlier p (n ∷ ns)) by ≡ true → Paved made by false by
      → AreMade made (fronts earlier by p (n ∷ ns))
  fronts_made p n [] way h low whole = tt
  fronts_made p n (m ∷ ns) way h low whole =
      let r = last_element_or_self earlier (at p (key n)) in
      let near = inside_trans r (header_place earlier r (m ∷ ns)) by (inside_header earlier r m ns) low in
      let on = resolved_way p n way (h _ (inl refl)) near in (
        record {
          upto = near;
          owner = λ f. absurd (true≢false (sym f));
          goes = λ f. (
            key m,
            inside_trans (at r (key m)) (header_place earlier r (m ∷ ns)) by
                (next_part r m ns) low,
          );
          array = λ f. absurd (true≢false (sym f));
          paved = whole;
          inner = λ f. absurd cc;
          outer = λ f. on;
        },
        fronts_made r m ns on (λ b x. h b (inr x)) low whole,
      )

-- ---- statements

-- an assertion by a header or an element of its own place
own_made : (made : List Assertion) (p : Place) (k : Kind) → owns k ≡ true → is_array k ≡ false
    → (k ≡ dotted true → ⊥)
    → Paved made p true p → Made made (asserts p p k)
own_made made p k own array plain way = record {
  upto = inside_self p;
  owner = λ f. refl;
  goes = λ f. absurd (true≢false (sym own ∙ f));
  array = λ f. absurd (true≢false (sym f ∙ array));
  paved = paved_any made p true p way;
  inner = λ f. absurd (plain f);
  outer = λ f. way;
}

-- a statement under a header to which the way is asserted, and the way to the header that holds then
pub statement_made : (made earlier : List Assertion) (prefix : Place) (s : Statement) → Elemented made earlier
    → Paved made prefix true prefix
    → Part (of_statement earlier prefix s) made
    → AreMade made (of_statement earlier prefix s)
    × Paved made (prefix_after earlier prefix s) true (prefix_after earlier prefix s)
statement_made made earlier prefix (pair k a b v) all way h = (
  pair_made made false prefix k v (λ x y z. value_made made (named prefix (names k)) v x y z) way
      (λ e. absurd (true≢false (sym e))) h,
  way,
)
statement_made made earlier prefix (header a k b) all way h =
    let place = header_place earlier [] (names k) in
    let supers = fronts earlier place [] (names k) in
    let front = left_part supers (asserts place place header_kind ∷ []) made h in
    let last = right_part supers (asserts place place header_kind ∷ []) made h in
    let root = paved_root made place true in
    let u = fronts_way made earlier place all [] _ _ root front (inside_self place) in
    let whole : Paved made place true place =
    subst (Paved made place true) (sym u.2)
    (paved_at made place true u.0 (key u.1) u.3
    (key_ground made place true u.0 u.1 (asserts place place header_kind) (last _ (inl refl)) u.2
    (inside_self place) (λ f. refl))) in (
      both_made made supers (asserts place place header_kind ∷ [])
          (fronts_made made earlier place all [] _ _ root front (inside_self place)
          (paved_any made place true place whole))
          (own_made made place header_kind refl refl (λ f. cc) whole, tt),
      whole,
    )
statement_made made earlier prefix (element_header a k b) all way h =
    let place = header_place earlier [] (names k) in
    let i = elements_at earlier place in
    let own = at place (index i) in
    let supers = fronts earlier own [] (names k) in
    let both = asserts own place array_kind ∷ asserts own own element_kind ∷ [] in
    let front = left_part supers both made h in
    let last = right_part supers both made h in
    let root = paved_root made own true in
    let low = inside_more place place (index i ∷ []) (inside_self place) in
    let u = fronts_way made earlier own all [] _ _ root front low in
    let upper : Paved made own true place =
    subst (Paved made own true) (sym u.2)
    (paved_at made own true u.0 (key u.1) u.3
    (key_ground made own true u.0 u.1 (asserts own place array_kind) (last _ (inl refl)) u.2 (inside_self own)
    (λ f. refl))) in
    let whole : Paved made own true own =
    paved_at made own true place (index i) upper
    (index_ground made own true place i element_kind (last _ (inr (inl refl))) (inside_self own) (λ f. refl))
    in (
      both_made made supers both
          (fronts_made made earlier own all [] _ _ root front low (paved_any made own true own whole)) (
            record {
              upto = low;
              owner = λ f. absurd (true≢false (sym f));
              goes = λ f. (index i, inside_self own);
              array = λ f. (i, refl);
              paved = paved_any made own true own whole;
              inner = λ f. absurd cc;
              outer = λ f. upper;
            },
            (own_made made own element_kind refl refl (λ f. cc) whole, tt),
          ),
      whole,
    )
