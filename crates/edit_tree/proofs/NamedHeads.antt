-- The headers that name a place, by the assertions of a text; places that exactly one pair names.
use Rattle.std.proofs.Common.{◌≡◌, ℕ, suc, ◌==◌, Bool, true, false, not, ◌&&◌, ◌||◌, List, [], ◌∷◌, ◌++◌, refl, sym, ap, ap₂, ◌∙◌, true≢false}
use Rattle.std.specs.List.{AllByRecursion, list_any}
use Rattle.edit_syntax.specs.Strings.{◌·◌, Key, line_end}
use Rattle.edit_syntax.specs.Grammar.{Value, basic, literal, multi_basic, multi_literal, boolean, integer, float, datetime, array, inline, Elements, no_elements, last_element, element, Members, no_members, last_member, member, Statement, pair, header, element_header, comment, empty_line, full_line, Lines, one_line, more_lines, lines, Text}
use Rattle.edit_tree.specs.Assertions.{Place, key, index, at, Kind, dotted, leaf, super, header_kind, array_kind, element_kind, Assertion, asserts, names, named, elements_at, of_key, of_value, of_elements, of_members, last_element_or_self, fronts, header_place, of_statement, prefix_after, of_lines, assertions}
use Rattle.edit_tree.specs.EditBytes.{is_within as is_inside, is_header_of, is_one_statement}
use Rattle.edit_tree.specs.Statements.{PlacedStatement, stated_line, stated_in}
use Rattle.edit_tree.proofs.NamedPairs.{is_paired, pairs_at, IsKeyed, pairs_named}

-- headers assert these kinds on the place that they name
abbrev pub is_head : Kind → Bool
is_head header_kind = true
is_head element_kind = true
is_head _ = false

-- a header names a place by some part of its key
abbrev pub has_head : List Assertion → Place → Bool
has_head made t = list_any (λ a. is_head a.kind && is_inside t a.place) made

pub head_append : (xs ys : List Assertion) (t : Place) → has_head (xs ++ ys) t
    ≡ (has_head xs t || has_head ys t)
head_append [] ys t = refl
head_append (x ∷ xs) ys t = go (is_head x.kind && is_inside t x.place) (head_append xs ys t)
  where
    go : (b : Bool) → has_head (xs ++ ys) t ≡ (has_head xs t || has_head ys t)
        → (b || has_head (xs ++ ys) t) ≡ ((b || has_head xs t) || has_head ys t)
    go true ih = refl
    go false ih = ih

-- pairs assert alone
abbrev pub ArePaired : List Assertion → Type 0
ArePaired xs = AllByRecursion (λ x. is_paired x.kind ≡ true) xs

paired_append : (xs ys : List Assertion) → ArePaired xs → ArePaired ys → ArePaired (xs ++ ys)
paired_append [] ys h more = more
paired_append (x ∷ xs) ys h more = (h.0, paired_append xs ys h.1 more)

key_pairs : (d : Bool) (by q : Place) (ns : List (List ℕ)) (v : Value) → ArePaired (of_key d by q ns v)
key_pairs d by q [] v = tt
key_pairs d by q (n ∷ []) v = (refl, tt)
key_pairs d by q (n ∷ m ∷ ns) v = (refl, key_pairs d by (at q (key n)) (m ∷ ns) v)

mutual
  value_pairs : (q : Place) (v : Value) → ArePaired (of_value q v)
  value_pairs q (basic ps) = tt
  value_pairs q (literal text) = tt
  value_pairs q (multi_basic ps) = tt
  value_pairs q (multi_literal ps) = tt
  value_pairs q (boolean b) = tt
  value_pairs q (integer n) = tt
  value_pairs q (float f) = tt
  value_pairs q (datetime d) = tt
  value_pairs q (array g es) = elements_pairs q 0 es
  value_pairs q (inline g ms) = members_pairs q ms

  elements_pairs : (q : Place) (i : ℕ) (es : Elements) → ArePaired (of_elements q i es)
  elements_pairs q i no_elements = tt
  elements_pairs q i (last_element v g) = (refl, value_pairs (at q (index i)) v)
  elements_pairs q i (element v g h es) = (
    refl,
    paired_append (of_value (at q (index i)) v) _ (value_pairs (at q (index i)) v)
        (elements_pairs q (suc i) es),
  )

  members_pairs : (q : Place) (ms : Members) → ArePaired (of_members q ms)
  members_pairs q no_members = tt
  members_pairs q (last_member k a b v c) =
      let r = named q (names k) in
      paired_append (of_key true r q (names k) v) _ (key_pairs true r q (names k) v) (value_pairs r v)
  members_pairs q (member k a b v c d ms) =
      let r = named q (names k) in
      paired_append (of_key true r q (names k) v ++ of_value r v) _
      (paired_append (of_key true r q (names k) v) _ (key_pairs true r q (names k) v) (value_pairs r v))
      (members_pairs q ms)

-- what a pair asserts
pub pair_pairs : (d : Bool) (q : Place) (k : Key) (v : Value)
    → ArePaired (of_key d (named q (names k)) q (names k) v ++ of_value (named q (names k)) v)
pair_pairs d q k v =
    let r = named q (names k) in
    paired_append (of_key d r q (names k) v) _ (key_pairs d r q (names k) v) (value_pairs r v)

paired_no_head : (xs : List Assertion) (t : Place) → ArePaired xs → has_head xs t ≡ false
paired_no_head [] t h = refl
paired_no_head (x ∷ xs) t h =
    ap (λ b. (b && is_inside t x.place) || has_head xs t) (no_head x.kind h.0) ∙ paired_no_head xs t h.1
  where
    no_head : (k : Kind) → is_paired k ≡ true → is_head k ≡ false
    no_head (dotted b) e = refl
    no_head (leaf v) e = refl
    no_head super e = refl
    no_head array_kind e = refl
    no_head header_kind e = absurd (true≢false (sym e))
    no_head element_kind e = absurd (true≢false (sym e))

fronts_no_head : (earlier : List Assertion) (by q : Place) (ns : List (List ℕ)) (t : Place)
    → has_head (fronts earlier by q ns) t ≡ false
fronts_no_head earlier by q [] t = refl
fronts_no_head earlier by q (n ∷ []) t = refl
fronts_no_head earlier by q (n ∷ m ∷ ns) t = fronts_no_head earlier by (last_element_or_self earlier (at q (key n)))
    (m ∷ ns) t

or_none : (b : Bool) → (b || false) ≡ b
or_none true = refl
or_none false = refl

pub statement_heads : (t : Place) (s : PlacedStatement)
    → has_head (of_statement s.earlier s.prefix s.statement) t
    ≡ is_header_of t s
statement_heads t s = go s.statement
  where
    go : (x : Statement) → has_head (of_statement s.earlier s.prefix x) t
        ≡ is_header_of t (record s { statement = x })
    go (pair k a b v) = paired_no_head _ t (pair_pairs false s.prefix k v)
    go (header a k b) =
        let place = header_place s.earlier [] (names k) in
        head_append (fronts s.earlier place [] (names k)) (asserts place place header_kind ∷ []) t
        ∙ ap (λ b. b || (is_inside t place || false)) (fronts_no_head s.earlier place [] (names k) t) ∙
        or_none (is_inside t place)
    go (element_header a k b) =
        let place = header_place s.earlier [] (names k) in
        let last = at place (index (elements_at s.earlier place)) in
        head_append (fronts s.earlier last [] (names k))
        (asserts last place array_kind ∷ asserts last last element_kind ∷ []) t
        ∙ ap (λ b. b || (is_inside t last || false)) (fronts_no_head s.earlier last [] (names k) t) ∙
        or_none (is_inside t last)

or_assoc : (a b c : Bool) → ((a || b) || c) ≡ (a || (b || c))
or_assoc true b c = refl
or_assoc false b c = refl

lines_heads : (t : Place) (earlier : List Assertion) (prefix : Place) (ls : Lines)
    → has_head (of_lines earlier prefix ls) t
    ≡ (has_head earlier t || list_any (is_header_of t) (stated_in earlier prefix ls))
lines_heads t earlier prefix (one_line (empty_line a c)) = sym (or_none (has_head earlier t))
lines_heads t earlier prefix (one_line (full_line a s b c)) =
    head_append earlier (of_statement earlier prefix s) t
    ∙ ap (λ b. has_head earlier t || b)
    (statement_heads t (stated_line earlier prefix a s (b · comment c []) [] []) ∙ sym (or_none _))
lines_heads t earlier prefix (more_lines (empty_line a c) e ls) = lines_heads t earlier prefix ls
lines_heads t earlier prefix (more_lines (full_line a s b c) e ls) =
    let us = earlier ++ of_statement earlier prefix s in
    let q = prefix_after earlier prefix s in
    let after = line_end e (lines ls) in
    let x = stated_line earlier prefix a s (b · comment c after) after (lines ls) in
    lines_heads t us q ls
    ∙ ap (λ b. b || list_any (is_header_of t) (stated_in us q ls))
    (head_append earlier (of_statement earlier prefix s) t ∙
    ap (λ b. has_head earlier t || b) (statement_heads t x))
    ∙ or_assoc (has_head earlier t) (is_header_of t x) (list_any (is_header_of t) (stated_in us q ls))

-- one pair names the place and no header does, by the assertions
abbrev pub is_alone : List Assertion → Place → Bool
is_alone made t = (pairs_at made t == 1) && not (has_head made t)

pub one_statement_is : (t : Place) → IsKeyed t → (form : Text)
    → is_one_statement form t ≡ is_alone (assertions form) t
one_statement_is t keyed form = ap₂ (λ n b. (n == 1) && not b) (pairs_named t keyed form)
    (sym (lines_heads t [] [] form.lines))
