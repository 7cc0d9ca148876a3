-- The assertions of the values of a text are among those of the text.
use Rattle.std.proofs.Common.{◌≡◌, ℕ, suc, Bool, true, false, List, [], ◌∷◌, ◌++◌, map, Option, None, Some, option_map, refl, sym, ap, ◌∙◌, subst, inl, inr, ⊎_elim, true≢false, append_assoc}
use Rattle.edit_syntax.specs.Characters.{comma, right_bracket, right_brace}
use Rattle.edit_syntax.specs.Strings.{Key, name, line_end}
use Rattle.edit_syntax.specs.Grammar.{gap, Value, basic, literal, multi_basic, multi_literal, boolean, integer, float, datetime, array, inline, Elements, no_elements, last_element, element, elements, Members, no_members, last_member, member, members, Statement, pair, header, element_header, comment, empty_line, full_line, Lines, one_line, more_lines, lines, Text}
use Rattle.edit_syntax.proofs.Members.{Among, among_append, among_all}
use Rattle.edit_tree.specs.Assertions.{Place, key, index, at, Kind, leaf, Assertion, asserts, names, named, of_key, of_value, of_elements, of_members, of_statement, prefix_after, of_lines, assertions, are_compatible, AreCompatible}
use Rattle.edit_document.specs.Items.{is_inline}
use Rattle.edit_document.specs.Ranges.{is_table_value}
use Rattle.edit_tree.specs.Tree.{kind_at, view_of_kind, view_at}
use Rattle.edit_tree.proofs.NothingBelow.{rooted}
use Rattle.edit_tree.proofs.PlainValues.{HasLeaf, leaf_there}
use Rattle.edit_tree.proofs.ReplacedTree.{no_root}
use Rattle.edit_tree.proofs.ThinnedLines.{leaf_alone}
use Rattle.edit_tree.specs.Written.{PlacedValue, placed_value, inside, in_elements, in_members, in_statement, in_lines, values}

-- ---- lists

pub among_left : {X : Type 0} (x : X) (xs ys : List X) → Among x xs → Among x (xs ++ ys)
among_left x [] ys m = absurd m
among_left x (y ∷ xs) ys (inl e) = inl e
among_left x (y ∷ xs) ys (inr m) = inr (among_left x xs ys m)

pub among_right : {X : Type 0} (x : X) (xs ys : List X) → Among x ys → Among x (xs ++ ys)
among_right x [] ys m = m
among_right x (y ∷ xs) ys m = inr (among_right x xs ys m)

-- ---- what a value asserts

-- of its own place, and of those below
abbrev pub asserted_by : PlacedValue → List Assertion
asserted_by w = asserts w.place w.place (leaf w.value) ∷ of_value w.place w.value

key_leaf : (d : Bool) (by p : Place) (n : List ℕ) (ns : List (List ℕ)) (v : Value)
    → Among (asserts by (named p (n ∷ ns)) (leaf v)) (of_key d by p (n ∷ ns) v)
key_leaf d by p n [] v = inl refl
key_leaf d by p n (m ∷ ns) v =
    inr (subst (λ (q : Place). Among (asserts by q (leaf v)) (of_key d by (at p (key n)) (m ∷ ns) v))
    (append_assoc p (key n ∷ []) (map key (m ∷ ns))) (key_leaf d by (at p (key n)) m ns v))

module _ (w : PlacedValue) (a : Assertion) (own : Among a (asserted_by w)) where
  abbrev Inside : Place → Value → List ℕ → Type 0
  Inside q v after = Among w (placed_value q v after ∷ inside q v after)

  value_here : (q : Place) (v : Value) (after : List ℕ)
      → (Among w (inside q v after) → Among a (of_value q v))
      → Inside q v after → Among a (asserts q q (leaf v) ∷ of_value q v)
  value_here q v after below (inl e) = subst (λ (z : PlacedValue). Among a (asserted_by z)) e own
  value_here q v after below (inr m) = inr (below m)

  pair_here : (d : Bool) (p : Place) (k : Key) (v : Value) (after : List ℕ)
      → (Among w (inside (named p (names k)) v after) → Among a (of_value (named p (names k)) v))
      → Inside (named p (names k)) v after
      → Among a (of_key d (named p (names k)) p (names k) v ++ of_value (named p (names k)) v)
  pair_here d p k v after below m =
      let q = named p (names k) in
      let made = of_key d q p (names k) v in
      ⊎_elim (λ e. among_left a made (of_value q v) (subst (λ (z : Assertion). Among z made) (sym e)
      (key_leaf d q p (name k.first) _ v)))
      (λ r. among_right a made (of_value q v) r) (value_here q v after below m)

  mutual
    value_in : (p : Place) (v : Value) (after : List ℕ) → Among w (inside p v after) → Among a (of_value p v)
    value_in p (basic ps) after m = absurd m
    value_in p (literal text) after m = absurd m
    value_in p (multi_basic ps) after m = absurd m
    value_in p (multi_literal ps) after m = absurd m
    value_in p (boolean b) after m = absurd m
    value_in p (integer n) after m = absurd m
    value_in p (float f) after m = absurd m
    value_in p (datetime d) after m = absurd m
    value_in p (array g es) after m = elements_in p 0 es (right_bracket ∷ after) m
    value_in p (inline g ms) after m = members_in p ms (right_brace ∷ after) m

    elements_in : (p : Place) (i : ℕ) (es : Elements) (rest : List ℕ) → Among w (in_elements p i es rest)
        → Among a (of_elements p i es)
    elements_in p i no_elements rest m = absurd m
    elements_in p i (last_element v g) rest m =
        let q = at p (index i) in
        value_here q v (gap g rest) (λ n. value_in q v (gap g rest) n) m
    elements_in p i (element v g h es) rest m =
        let q = at p (index i) in
        let after = gap g (comma ∷ gap h (elements es rest)) in
        ⊎_elim (λ l. among_left a (asserts q q (leaf v) ∷ of_value q v) (of_elements p (suc i) es)
        (value_here q v after (λ n. value_in q v after n) l))
        (λ r. among_right a (asserts q q (leaf v) ∷ of_value q v) (of_elements p (suc i) es)
        (elements_in p (suc i) es rest r))
        (among_append w (placed_value q v after ∷ inside q v after) (in_elements p (suc i) es rest) m)

    members_in : (p : Place) (ms : Members) (rest : List ℕ) → Among w (in_members p ms rest)
        → Among a (of_members p ms)
    members_in p no_members rest m = absurd m
    members_in p (last_member k x y v c) rest m =
        pair_here true p k v (gap c rest) (λ n. value_in (named p (names k)) v (gap c rest) n) m
    members_in p (member k x y v c d ms) rest m =
        let q = named p (names k) in
        let after = gap c (comma ∷ gap d (members ms rest)) in
        let made = of_key true q p (names k) v ++ of_value q v in
        ⊎_elim (λ l. among_left a made (of_members p ms)
        (pair_here true p k v after (λ n. value_in q v after n) l))
        (λ r. among_right a made (of_members p ms) (members_in p ms rest r))
        (among_append w (placed_value q v after ∷ inside q v after) (in_members p ms rest) m)

  statement_in : (earlier : List Assertion) (prefix : Place) (s : Statement) (after : List ℕ)
      → Among w (in_statement prefix s after) → Among a (of_statement earlier prefix s)
  statement_in earlier prefix (pair k x y v) after m =
      pair_here false prefix k v after (λ n. value_in (named prefix (names k)) v after n) m
  statement_in earlier prefix (header x k y) after m = absurd m
  statement_in earlier prefix (element_header x k y) after m = absurd m

  lines_keep : (earlier : List Assertion) (prefix : Place) (ls : Lines) → Among a earlier
      → Among a (of_lines earlier prefix ls)
  lines_keep earlier prefix (one_line (empty_line x c)) m = m
  lines_keep earlier prefix (one_line (full_line x s y c)) m =
      among_left a earlier (of_statement earlier prefix s) m
  lines_keep earlier prefix (more_lines (empty_line x c) e ls) m = lines_keep earlier prefix ls m
  lines_keep earlier prefix (more_lines (full_line x s y c) e ls) m =
      let made = of_statement earlier prefix s in
      lines_keep (earlier ++ made) (prefix_after earlier prefix s) ls (among_left a earlier made m)

  lines_in : (earlier : List Assertion) (prefix : Place) (ls : Lines) → Among w (in_lines earlier prefix ls)
      → Among a (of_lines earlier prefix ls)
  lines_in earlier prefix (one_line (empty_line x c)) m = absurd m
  lines_in earlier prefix (one_line (full_line x s y c)) m =
      among_right a earlier (of_statement earlier prefix s)
      (statement_in earlier prefix s (y ++ comment c []) m)
  lines_in earlier prefix (more_lines (empty_line x c) e ls) m = lines_in earlier prefix ls m
  lines_in earlier prefix (more_lines (full_line x s y c) e ls) m =
      let made = of_statement earlier prefix s in
      let after = y ++ comment c (line_end e (lines ls)) in
      let next = prefix_after earlier prefix s in
      ⊎_elim (λ l. lines_keep (earlier ++ made) next ls
      (among_right a earlier made (statement_in earlier prefix s after l)))
      (λ r. lines_in (earlier ++ made) next ls r)
      (among_append w (in_statement prefix s after) (in_lines (earlier ++ made) next ls) m)

pub value_assertion : (form : Text) (w : PlacedValue) (a : Assertion) → Among w (values form)
    → Among a (asserted_by w)
    → Among a (assertions form)
value_assertion form w a m own = lines_in w a own [] [] form.lines m

-- ---- a place with a value has no other assertion

one_leaf : (made : List Assertion) (v : Value) (a b : Assertion) → AreCompatible made → Among a made
    → Among b made
    → a.place ≡ b.place → b.kind ≡ leaf v → a.kind ≡ leaf v
one_leaf [] v a b clash m n e k = absurd m
one_leaf (x ∷ made) v a b clash (inl p) (inl q) e k =
    ap (λ (z : Assertion). z.kind) (p ∙ sym q) ∙ k
one_leaf (x ∷ made) v a b clash (inl p) (inr n) e k =
    let met = among_all (λ (z : Assertion). x.place ≡ z.place
    → are_compatible x.kind z.kind ≡ true) b made clash.0 n in
    absurd (true≢false (sym (met (ap (λ (z : Assertion). z.place) (sym p) ∙ e)) ∙ ap (are_compatible x.kind) k ∙
    leaf_alone x.kind v))
one_leaf (x ∷ made) v a b clash (inr m) (inl q) e k =
    let met = among_all (λ (z : Assertion). x.place ≡ z.place
    → are_compatible x.kind z.kind ≡ true) a made clash.0 m in
    let kind : x.kind ≡ leaf v = ap (λ (z : Assertion). z.kind) (sym q) ∙ k in
    absurd (true≢false (sym (met (ap (λ (z : Assertion). z.place) (sym q) ∙ sym e)) ∙
    ap (λ (z : Kind). are_compatible z a.kind) kind))
one_leaf (x ∷ made) v a b clash (inr m) (inr n) e k = one_leaf made v a b clash.1 m n e k

-- what is asserted of the place of a value is that value
pub value_alone : (form : Text) (w : PlacedValue) (a : Assertion) → AreCompatible (assertions form)
    → Among w (values form)
    → Among a (assertions form) → a.place ≡ w.place → a.kind ≡ leaf w.value
value_alone form w a clash m n e =
    let own = asserts w.place w.place (leaf w.value) in
    one_leaf (assertions form) w.value a own clash n (value_assertion form w own m (inl refl)) e refl

-- ---- what a value shows

leaf_has : (p : Place) (v : Value) (made : List Assertion) → Among (asserts p p (leaf v)) made
    → HasLeaf p v made
leaf_has p v [] m = absurd m
leaf_has p v (x ∷ made) (inl e) =
    inl (ap (λ (z : Assertion). z.place) (sym e), ap (λ (z : Assertion). z.kind) (sym e))
leaf_has p v (x ∷ made) (inr m) = inr (leaf_has p v made m)

pub value_kind : (form : Text) (w : PlacedValue) → AreCompatible (assertions form) → Among w (values form)
    → kind_at (assertions form) w.place ≡ Some (leaf w.value)
value_kind form w clash m =
    let own = asserts w.place w.place (leaf w.value) in
    leaf_there w.place w.value (assertions form) clash
    (leaf_has w.place w.value (assertions form) (value_assertion form w own m (inl refl)))

kind_inline : (made : List Assertion) (p : Place) (v : Value)
    → is_inline (view_of_kind made p (leaf v)) ≡ is_table_value v
kind_inline made p (inline g ms) = refl
kind_inline made p (basic ps) = refl
kind_inline made p (literal text) = refl
kind_inline made p (multi_basic ps) = refl
kind_inline made p (multi_literal ps) = refl
kind_inline made p (boolean b) = refl
kind_inline made p (integer n) = refl
kind_inline made p (float f) = refl
kind_inline made p (datetime d) = refl
kind_inline made p (array g es) = refl

-- its place shows whether it is an inline table
pub value_shows : (form : Text) (w : PlacedValue) → AreCompatible (assertions form) → Among w (values form)
    → option_map is_inline (view_at form w.place) ≡ Some (is_table_value w.value)
value_shows form w clash m = go w.place (value_kind form w clash m)
  where
    go : (p : Place) → kind_at (assertions form) p ≡ Some (leaf w.value)
        → option_map is_inline (view_at form p) ≡ Some (is_table_value w.value)
    go [] k = absurd (never (sym (no_root [] _ (rooted form)) ∙ k))
      where
        never : None ≡ Some (leaf w.value) → ⊥
        never x = cc
    go (s ∷ ss) k =
        ap (λ (o : Option Kind). option_map is_inline
        (option_map (view_of_kind (assertions form) (s ∷ ss)) o)) k
        ∙ ap (λ (b : _). Some b) (kind_inline (assertions form) (s ∷ ss) w.value)
