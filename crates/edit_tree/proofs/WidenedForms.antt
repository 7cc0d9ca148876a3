-- Assertions after a literal is replaced by another value, with those of that value below the place.
use Rattle.std.proofs.Common.{◌≡◌, ℕ, suc, Bool, true, false, ◌&&◌, cond, List, [], ◌∷◌, ◌++◌, map, Some, None, refl, sym, ap, ◌∙◌, subst, append_assoc, append-nil}
use Rattle.std.specs.List.{AllByRecursion}
use Rattle.edit_syntax.specs.Grammar.{Value, basic, literal, multi_basic, multi_literal, boolean, integer, float, datetime, array, inline, Elements, no_elements, last_element, element, Members, no_members, last_member, member, Statement, pair, header, element_header, empty_line, full_line, Lines, one_line, more_lines, Text}
use Rattle.edit_tree.specs.Assertions.{Place, key, index, at, same_place, Kind, dotted, leaf, Assertion, asserts, names, named, of_key, of_value, of_elements, of_members, is_array, is_array_at, elements_at, fronts, of_statement, prefix_after, of_lines, assertions}
use Rattle.edit_tree.specs.Tree.{count_elements, static_array}
use Rattle.edit_tree.specs.Literals.{literal_of}
use Rattle.edit_tree.specs.Replaces.{Edits, Writer, written_or, put, replaced_inside, replaced_elements, replaced_members, replaced_statement, replaced_lines, replaced_by, replaced}
use Rattle.edit_tree.proofs.SamePlace.{same_place_is}
use Rattle.edit_tree.proofs.ThinnedForms.{is_leaf, SameView, HasNoLeaf, Thin, thin_append}
use Rattle.edit_tree.proofs.ThinnedForms.{none as thin_none}
use Rattle.edit_tree.proofs.ThinnedLines.{Counts, thin_count, same_prefix, same_statement, thin_statement, fronts_no_leaf, no_leaf_append}

-- no leaf, or leaves at another place of values that show the same
pub data Alike (p q : Place) : Kind → Kind → Type 0 where
  equal : (k : Kind) → is_leaf k ≡ false → Alike p q k k
  leaves : (v w : Value) → same_place p q ≡ false → SameView q v w → Alike p q (leaf v) (leaf w)

-- the empty literal at the place gives way to the value, and what the value asserts below it is added
pub data Widened (p : Place) (w : Value) : List Assertion → List Assertion → Type 0 where
  none : Widened p w [] []
  same : (by q : Place) (j k : Kind) (xs ys : List Assertion) → Alike p q j k → Widened p w xs ys
      → Widened p w (asserts by q j ∷ xs) (asserts by q k ∷ ys)
  here : (by : Place) (xs ys : List Assertion) → Widened p w xs ys
      → Widened p w (asserts by p (leaf (literal_of [])) ∷ xs)
      (asserts by p (leaf w) ∷ (of_value p w ++ ys))

-- the one place
abbrev pub one : Place → Edits
one p = (p, []) ∷ []

-- the one value
abbrev pub turned : Value → Writer
turned w said = w

pub widened_same : (p : Place) (w : Value) (xs : List Assertion) → HasNoLeaf xs → Widened p w xs xs
widened_same p w [] h = none
widened_same p w (x ∷ xs) h = same x.by x.place x.kind x.kind xs xs (equal x.kind h.0)
    (widened_same p w xs h.1)

pub widened_append : (p : Place) (w : Value) (xs ys us vs : List Assertion) → Widened p w xs ys
    → Widened p w us vs → Widened p w (xs ++ us) (ys ++ vs)
widened_append p w xs ys us vs none more = more
widened_append p w xs ys us vs (same by q j k cs bs e t) more =
    same by q j k _ _ e (widened_append p w cs bs us vs t more)
widened_append p w xs ys us vs (here by cs bs t) more =
    subst (λ l. Widened p w (asserts by p (leaf (literal_of [])) ∷ (cs ++ us)) (asserts by p (leaf w) ∷ l))
    (sym (append_assoc (of_value p w) bs vs))
    (here by _ _ (widened_append p w cs bs us vs t more))

-- ---- values

same_counts : (a b : Writer) (edits : Edits) (q : Place) (i : ℕ) (es : Elements)
    → count_elements (replaced_elements a edits q i es) ≡ count_elements (replaced_elements b edits q i es)
same_counts a b edits q i no_elements = refl
same_counts a b edits q i (last_element v g) = refl
same_counts a b edits q i (element v g h es) = ap suc (same_counts a b edits q (suc i) es)

same_views : (a b : Writer) (edits : Edits) (q : Place) (v : Value)
    → SameView q (replaced_inside a edits q v) (replaced_inside b edits q v)
same_views a b edits q (basic ps) made = refl
same_views a b edits q (literal text) made = refl
same_views a b edits q (multi_basic ps) made = refl
same_views a b edits q (multi_literal ps) made = refl
same_views a b edits q (boolean t) made = refl
same_views a b edits q (integer n) made = refl
same_views a b edits q (float f) made = refl
same_views a b edits q (datetime d) made = refl
same_views a b edits q (array g es) made = ap static_array (same_counts a b edits q 0 es)
same_views a b edits q (inline g ms) made = refl

-- a leaf and what its value asserts
abbrev leafed : Place → Place → Value → List Assertion
leafed by q v = asserts by q (leaf v) ∷ of_value q v

abbrev old_value : Place → Place → Value → Value
old_value p q v = put literal_of (one p) q (replaced_inside literal_of (one p) q v)

abbrev new_value : Place → Value → Place → Value → Value
new_value p w q v = put (turned w) (one p) q (replaced_inside (turned w) (one p) q v)

widened_leaf : (p : Place) (w : Value) (by q : Place) (v : Value)
    → Widened p w (of_value q (replaced_inside literal_of (one p) q v))
    (of_value q (replaced_inside (turned w) (one p) q v))
    → Widened p w (leafed by q (old_value p q v)) (leafed by q (new_value p w q v))
widened_leaf p w by q v inner = go (same_place p q) refl
  where
    go : (b : Bool) → same_place p q ≡ b
        → Widened p w
        (leafed by q
        (written_or literal_of (cond b (Some []) None) (replaced_inside literal_of (one p) q v)))
        (leafed by q
        (written_or (turned w) (cond b (Some []) None) (replaced_inside (turned w) (one p) q v)))
    go false h = same by q _ _ _ _ (leaves _ _ h (same_views literal_of (turned w) (one p) q v)) inner
    go true h =
        subst (λ r. Widened p w (leafed by r (literal_of [])) (leafed by r w)) (same_place_is p q h)
        (subst (λ l. Widened p w (leafed by p (literal_of [])) (asserts by p (leaf w) ∷ l))
        (append-nil (of_value p w)) (here by [] [] none))

widened_key : (p : Place) (w : Value) (d : Bool) (by q r : Place) (n : List ℕ) (ns : List (List ℕ))
    (u v : Value) → named r (n ∷ ns) ≡ q
    → Widened p w (leafed by q u) (leafed by q v)
    → Widened p w (of_key d by r (n ∷ ns) u ++ of_value q u) (of_key d by r (n ∷ ns) v ++ of_value q v)
widened_key p w d by q r n [] u v e t =
    subst (λ z. Widened p w (asserts by z (leaf u) ∷ of_value q u) (asserts by z (leaf v) ∷ of_value q v))
    (sym e) t
widened_key p w d by q r n (m ∷ ns) u v e t =
    same by (at r (key n)) (dotted d) (dotted d) _ _ (equal (dotted d) refl)
    (widened_key p w d by q (at r (key n)) m ns u v (append_assoc r (key n ∷ []) (map key (m ∷ ns)) ∙ e) t)

mutual
  widened_inside : (p : Place) (w : Value) (q : Place) (v : Value)
      → Widened p w (of_value q (replaced_inside literal_of (one p) q v))
      (of_value q (replaced_inside (turned w) (one p) q v))
  widened_inside p w q (basic ps) = none
  widened_inside p w q (literal text) = none
  widened_inside p w q (multi_basic ps) = none
  widened_inside p w q (multi_literal ps) = none
  widened_inside p w q (boolean b) = none
  widened_inside p w q (integer n) = none
  widened_inside p w q (float f) = none
  widened_inside p w q (datetime d) = none
  widened_inside p w q (array g es) = widened_elements p w q 0 es
  widened_inside p w q (inline g ms) = widened_members p w q ms

  widened_elements : (p : Place) (w : Value) (q : Place) (i : ℕ) (es : Elements)
      → Widened p w (of_elements q i (replaced_elements literal_of (one p) q i es))
      (of_elements q i (replaced_elements (turned w) (one p) q i es))
  widened_elements p w q i no_elements = none
  widened_elements p w q i (last_element v g) =
      let r = at q (index i) in widened_leaf p w r r v (widened_inside p w r v)
  widened_elements p w q i (element v g h es) =
      let r = at q (index i) in
      widened_append p w (leafed r r (old_value p r v)) (leafed r r (new_value p w r v)) _ _
      (widened_leaf p w r r v (widened_inside p w r v)) (widened_elements p w q (suc i) es)

  widened_members : (p : Place) (w : Value) (q : Place) (ms : Members)
      → Widened p w (of_members q (replaced_members literal_of (one p) q ms))
      (of_members q (replaced_members (turned w) (one p) q ms))
  widened_members p w q no_members = none
  widened_members p w q (last_member k a b v c) =
      let r = named q (names k) in
      widened_key p w true r r q _ _ (old_value p r v) (new_value p w r v) refl
      (widened_leaf p w r r v (widened_inside p w r v))
  widened_members p w q (member k a b v c d ms) =
      let r = named q (names k) in
      widened_append p w _ _ _ _
      (widened_key p w true r r q _ _ (old_value p r v) (new_value p w r v) refl
      (widened_leaf p w r r v (widened_inside p w r v)))
      (widened_members p w q ms)

-- ---- lines

-- what a value asserts below its place is no array of tables
abbrev pub HasNoArray : List Assertion → Type 0
HasNoArray xs = AllByRecursion (λ x. is_array x.kind ≡ false) xs

no_more : (xs ys : List Assertion) (q : Place) → HasNoArray xs → elements_at (xs ++ ys) q ≡ elements_at ys q
no_more [] ys q h = refl
no_more (x ∷ xs) ys q h =
    ap (λ c. cond (c && same_place x.place q) (suc (elements_at (xs ++ ys) q))
    (elements_at (xs ++ ys) q)) h.0 ∙ no_more xs ys q h.1

pub widened_count : (p : Place) (w : Value) (xs ys : List Assertion) → HasNoArray (of_value p w)
    → Widened p w xs ys → Counts xs ys
widened_count p w xs ys flat none q = refl
widened_count p w xs ys flat (same by r j k cs bs (equal l e) t) q =
    ap (λ n. cond (is_array_at q (asserts by r l)) (suc n) n) (widened_count p w cs bs flat t q)
widened_count p w xs ys flat (same by r j k cs bs (leaves u v e s) t) q = widened_count p w cs bs flat t q
widened_count p w xs ys flat (here by cs bs t) q = widened_count p w cs bs flat t q
    ∙ sym (no_more (of_value p w) bs q flat)

after : (write : Writer) (edits : Edits) (xs ys : List Assertion) (prefix : Place) (s : Statement)
    → Counts xs ys
    → prefix_after xs prefix s ≡ prefix_after ys prefix (replaced_statement write edits prefix s)
after write edits xs ys prefix (pair k a b v) t = refl
after write edits xs ys prefix (header a k b) t = same_prefix xs ys prefix (header a k b) t
after write edits xs ys prefix (element_header a k b) t = same_prefix xs ys prefix (element_header a k b) t

widened_statement : (p : Place) (w : Value) (xs ys : List Assertion) (prefix : Place) (s : Statement)
    → Counts xs ys
    → Widened p w (of_statement xs prefix (replaced_statement literal_of (one p) prefix s))
    (of_statement ys prefix (replaced_statement (turned w) (one p) prefix s))
widened_statement p w xs ys prefix (pair k a b v) t =
    let r = named prefix (names k) in
    widened_key p w false r r prefix _ _ (old_value p r v) (new_value p w r v) refl
    (widened_leaf p w r r v (widened_inside p w r v))
widened_statement p w xs ys prefix (header a k b) t =
    subst (λ l. Widened p w (of_statement xs prefix (header a k b)) l)
    (same_statement xs ys prefix (header a k b) t)
    (widened_same p w _
    (no_leaf_append (fronts xs _ [] (names k)) _ (fronts_no_leaf xs _ [] (names k)) (refl, tt)))
widened_statement p w xs ys prefix (element_header a k b) t =
    subst (λ l. Widened p w (of_statement xs prefix (element_header a k b)) l)
    (same_statement xs ys prefix (element_header a k b) t)
    (widened_same p w _
    (no_leaf_append (fronts xs _ [] (names k)) _ (fronts_no_leaf xs _ [] (names k)) (refl, (refl, tt))))

widened_lines : (p : Place) (w : Value) → HasNoArray (of_value p w)
    → (zs xs ys : List Assertion) (prefix : Place) (ls : Lines) → Thin (one p) zs xs → Widened p w xs ys
    → Widened p w (of_lines xs prefix (replaced_lines literal_of (one p) zs prefix ls))
    (of_lines ys prefix (replaced_lines (turned w) (one p) zs prefix ls))
widened_lines p w flat zs xs ys prefix (one_line (empty_line a c)) thin t = t
widened_lines p w flat zs xs ys prefix (one_line (full_line a s b c)) thin t =
    widened_append p w xs ys _ _ t (widened_statement p w xs ys prefix s (widened_count p w xs ys flat t))
widened_lines p w flat zs xs ys prefix (more_lines (empty_line a c) e ls) thin t =
    widened_lines p w flat zs xs ys prefix ls thin t
widened_lines p w flat zs xs ys prefix (more_lines (full_line a s b c) e ls) thin t =
    let edits = one p in
    let lost : Counts zs xs = λ q. thin_count edits zs xs q thin in
    let gained : Counts xs ys = widened_count p w xs ys flat t in
    let more = widened_append p w xs ys _ _ t (widened_statement p w xs ys prefix s gained) in
    let thinner = thin_append edits zs xs _ _ thin (thin_statement edits zs xs prefix s lost) in
    let us = zs ++ of_statement zs prefix s in
    let q = prefix_after zs prefix s in
    let vs = xs ++ of_statement xs prefix (replaced_statement literal_of edits prefix s) in
    let ws = ys ++ of_statement ys prefix (replaced_statement (turned w) edits prefix s) in
    let olds = replaced_lines literal_of edits us q ls in
    let news = replaced_lines (turned w) edits us q ls in
    subst (λ r. Widened p w (of_lines vs r olds)
    (of_lines ws (prefix_after ys prefix (replaced_statement (turned w) edits prefix s)) news))
    (after literal_of edits zs xs prefix s lost)
    (subst (λ r. Widened p w (of_lines vs q olds) (of_lines ws r news))
    (after (turned w) edits zs ys prefix s (λ r. lost r ∙ gained r))
    (widened_lines p w flat us vs ws q ls thinner more))

-- the assertions of a form with a value at a place, against those of the form with the empty literal there
pub widened : (p : Place) (w : Value) (form : Text) → HasNoArray (of_value p w)
    → Widened p w (assertions (replaced (one p) form)) (assertions (replaced_by (turned w) (one p) form))
widened p w form flat = widened_lines p w flat [] [] [] [] form.lines thin_none none
