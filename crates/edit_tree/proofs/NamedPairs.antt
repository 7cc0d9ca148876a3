-- The pairs and headers that name a place, by the assertions of a text.
use Rattle.std.proofs.Common.{◌≡◌, ℕ, suc, ◌+◌, Bool, true, false, ◌&&◌, cond, List, [], ◌∷◌, ◌++◌, map, length, Some, None, is_some, refl, sym, ap, ◌∙◌, true≢false, arith}
use Rattle.std.specs.List.{AllByRecursion, filter, flat_map}
use Rattle.edit_syntax.specs.Characters.{comma, right_bracket, right_brace}
use Rattle.edit_syntax.specs.Strings.{◌·◌, Dotted, Key, name, line_end}
use Rattle.edit_syntax.specs.Grammar.{gap, Value, basic, literal, multi_basic, multi_literal, boolean, integer, float, datetime, array, inline, Elements, no_elements, last_element, element, elements, Members, no_members, last_member, member, members, Statement, pair, header, element_header, comment, empty_line, full_line, Lines, one_line, more_lines, lines, Text}
use Rattle.edit_syntax.proofs.Cases.{by_test}
use Rattle.edit_tree.specs.Assertions.{Place, key, index, at, same_place, Kind, dotted, leaf, header_kind, array_kind, element_kind, Assertion, asserts, names, named, elements_at, of_key, of_value, of_elements, of_members, last_element_or_self, fronts, header_place, of_statement, prefix_after, of_lines, assertions}
use Rattle.edit_tree.specs.EditBytes.{unresolved, part_to, is_within}
use Rattle.edit_tree.specs.Statements.{dotted_parts, behind_part, PlacedPair, placed_pair, paired_members, paired_value, paired_statement, PlacedStatement, stated_line, stated_in, line_pairs, inner_pairs}
use Rattle.edit_tree.specs.Replaces.{is_below}
use Rattle.edit_tree.specs.Written.{placed_value, inside, in_elements, in_members, in_statement, in_lines}
use Rattle.edit_tree.proofs.SamePlace.{same_place_is, other_place}
use Rattle.edit_tree.proofs.SamePlaces.{within_same, within_at, below_at, not_below_itself}

-- ---- counts

-- pairs assert these kinds
abbrev pub is_paired : Kind → Bool
is_paired (dotted b) = true
is_paired (leaf v) = true
is_paired _ = false

-- how often pairs assert a place
abbrev pub pairs_at : List Assertion → Place → ℕ
pairs_at [] t = 0
pairs_at (a ∷ made) t = cond (is_paired a.kind && same_place a.place t) (suc (pairs_at made t))
    (pairs_at made t)

-- how many of these pairs name a place by some part of their keys
abbrev pub named_in : Place → List PlacedPair → ℕ
named_in t ps = length (filter (λ p. is_some (part_to t p)) ps)

-- the place is no element of an array
abbrev pub IsKeyed : Place → Type 0
IsKeyed t = (q : Place) (i : ℕ) → at q (index i) ≡ t → ⊥

pairs_append : (xs ys : List Assertion) (t : Place) → pairs_at (xs ++ ys) t ≡ pairs_at xs t + pairs_at ys t
pairs_append [] ys t = omega arith
pairs_append (x ∷ xs) ys t = go (is_paired x.kind && same_place x.place t) (pairs_append xs ys t)
  where
    go : (b : Bool) → pairs_at (xs ++ ys) t ≡ pairs_at xs t + pairs_at ys t
        → cond b (suc (pairs_at (xs ++ ys) t)) (pairs_at (xs ++ ys) t)
        ≡ cond b (suc (pairs_at xs t)) (pairs_at xs t) + pairs_at ys t
    go true e = omega (arith, e)
    go false e = e

named_more : (t : Place) (p : PlacedPair) (ps : List PlacedPair)
    → named_in t (p ∷ ps) ≡ cond (is_some (part_to t p)) 1 0 + named_in t ps
named_more t p ps = go (is_some (part_to t p))
  where
    go : (b : Bool) → length
        (cond b (p ∷ filter (λ p. is_some (part_to t p)) ps) (filter (λ p. is_some (part_to t p)) ps))
        ≡ cond b 1 0 + named_in t ps
    go true = omega arith
    go false = omega arith

named_append : (t : Place) (xs ys : List PlacedPair) → named_in t (xs ++ ys) ≡ named_in t xs + named_in t ys
named_append t [] ys = omega arith
named_append t (x ∷ xs) ys = omega (arith, named_more t x (xs ++ ys), named_more t x xs, named_append t xs ys)

flat_append : {X : Type 0} (f : X → List PlacedPair) (xs ys : List X) (t : Place)
    → named_in t (flat_map f (xs ++ ys)) ≡ named_in t (flat_map f xs) + named_in t (flat_map f ys)
flat_append f [] ys t = omega arith
flat_append f (x ∷ xs) ys t =
    omega (
      arith,
      named_append t (f x) (flat_map f (xs ++ ys)),
      named_append t (f x) (flat_map f xs),
      flat_append f xs ys t,
    )

-- ---- keys

-- nothing of what is below the place is at it
none_under : (t : Place) (xs : List Assertion) → AllByRecursion (λ x. is_below t x.place ≡ true) xs
    → pairs_at xs t ≡ 0
none_under t [] h = refl
none_under t (x ∷ xs) h = ap (λ b. cond b (suc (pairs_at xs t)) (pairs_at xs t))
    (no_pair (is_paired x.kind) (same_place x.place t) other) ∙ none_under t xs h.1
  where
    other : same_place x.place t ≡ false
    other = by_test (same_place x.place t)
        (λ e. absurd (true≢false (sym h.0 ∙ ap (λ q. is_below t q) (same_place_is x.place t e) ∙
        not_below_itself t))) (λ e. e)

    no_pair : (a b : Bool) → b ≡ false → (a && b) ≡ false
    no_pair true b e = e
    no_pair false b e = refl

key_under : (t : Place) (d : Bool) (by q : Place) (ns : List (List ℕ)) (v : Value) → is_within t q ≡ true
    → AllByRecursion (λ x. is_below t x.place ≡ true) (of_key d by q ns v)
key_under t d by q [] v e = tt
key_under t d by q (n ∷ []) v e = (below_at t q (key n) e, tt)
key_under t d by q (n ∷ m ∷ ns) v e =
    (below_at t q (key n) e, key_under t d by (at q (key n)) (m ∷ ns) v (within_at t q (key n) e))

abbrev part_names : List Dotted → List (List ℕ)
part_names ds = map (λ d. name d.part) ds

key_named : (t : Place) (d : Bool) (by q : Place) (n x : List ℕ) (ds : List Dotted) (rest : List ℕ)
    (v : Value)
    → pairs_at (of_key d by q (n ∷ part_names ds) v) t ≡ cond
    (is_some (behind_part unresolved t q ((n, x) ∷ dotted_parts ds rest))) 1 0
key_named t d by q n x [] rest v = go (same_place (at q (key n)) t)
  where
    go : (b : Bool) → cond b (suc 0) 0 ≡ cond (is_some (cond b (Some x) None)) 1 0
    go true = refl
    go false = refl
key_named t d by q n x (e ∷ ds) rest v = go (same_place (at q (key n)) t) refl
    (key_named t d by (at q (key n)) (name e.part) _ ds rest v)
  where
    go : (b : Bool) → same_place (at q (key n)) t ≡ b
        → pairs_at (of_key d by (at q (key n)) (name e.part ∷ part_names ds) v) t
        ≡ cond (is_some (behind_part unresolved t (at q (key n)) (dotted_parts (e ∷ ds) rest))) 1 0
        → cond b (suc (pairs_at (of_key d by (at q (key n)) (name e.part ∷ part_names ds) v) t))
        (pairs_at (of_key d by (at q (key n)) (name e.part ∷ part_names ds) v) t)
        ≡ cond (is_some (cond b (Some x)
        (behind_part unresolved t (at q (key n)) (dotted_parts (e ∷ ds) rest)))) 1 0
    go true h ih =
        let here : is_within t (at q (key n)) ≡ true = ap (λ r. is_within r (at q (key n)))
        (sym (same_place_is (at q (key n)) t h)) ∙ within_same (at q (key n)) in
        ap suc (none_under t _ (key_under t d by (at q (key n)) (name e.part ∷ part_names ds) v here))
    go false h ih = ih

pair_named : (t : Place) (d : Bool) (by q : Place) (k : Key) (a b : List ℕ) (v : Value) (behind : List ℕ)
    → pairs_at (of_key d by q (names k) v) t ≡ cond (is_some (part_to t (placed_pair q k a b v behind))) 1 0
pair_named t d by q k a b v behind = key_named t d by q (name k.first) _ k.others _ v

-- ---- values

element_else : (t p : Place) (i : ℕ) → IsKeyed t → same_place (at p (index i)) t ≡ false
element_else t p i keyed = other_place (at p (index i)) t (keyed p i)

mutual
  value_named : (t : Place) → IsKeyed t → (p : Place) (v : Value) (after : List ℕ)
      → pairs_at (of_value p v) t ≡ named_in t (flat_map paired_value (placed_value p v after ∷ inside p v after))
  value_named t keyed p (basic ps) after = refl
  value_named t keyed p (literal text) after = refl
  value_named t keyed p (multi_basic ps) after = refl
  value_named t keyed p (multi_literal ps) after = refl
  value_named t keyed p (boolean b) after = refl
  value_named t keyed p (integer n) after = refl
  value_named t keyed p (float f) after = refl
  value_named t keyed p (datetime d) after = refl
  value_named t keyed p (array g es) after = elements_named t keyed p 0 es (right_bracket ∷ after)
  value_named t keyed p (inline g ms) after =
      members_named t keyed p ms (right_brace ∷ after) ∙
      sym (named_append t (paired_members p ms (right_brace ∷ after))
      (flat_map paired_value (in_members p ms (right_brace ∷ after))))

  elements_named : (t : Place) → IsKeyed t → (p : Place) (i : ℕ) (es : Elements) (rest : List ℕ)
      → pairs_at (of_elements p i es) t ≡ named_in t (flat_map paired_value (in_elements p i es rest))
  elements_named t keyed p i no_elements rest = refl
  elements_named t keyed p i (last_element v g) rest =
      let q = at p (index i) in
      ap (λ b. cond b (suc (pairs_at (of_value q v) t)) (pairs_at (of_value q v) t))
      (element_else t p i keyed) ∙ value_named t keyed q v (gap g rest)
  elements_named t keyed p i (element v g h es) rest =
      let q = at p (index i) in
      let more = of_value q v ++ of_elements p (suc i) es in
      let after = gap g (comma ∷ gap h (elements es rest)) in
      let skip : cond (same_place q t) (suc (pairs_at more t)) (pairs_at more t) ≡ pairs_at more t =
      ap (λ b. cond b (suc (pairs_at more t)) (pairs_at more t)) (element_else t p i keyed) in
      omega (
        arith,
        skip,
        pairs_append (of_value q v) (of_elements p (suc i) es) t,
        value_named t keyed q v after,
        elements_named t keyed p (suc i) es rest,
        flat_append paired_value (placed_value q v after ∷ inside q v after) (in_elements p (suc i) es rest) t,
      )

  members_named : (t : Place) → IsKeyed t → (p : Place) (ms : Members) (rest : List ℕ)
      → pairs_at (of_members p ms) t ≡ named_in t (paired_members p ms rest) + named_in t
      (flat_map paired_value (in_members p ms rest))
  members_named t keyed p no_members rest = refl
  members_named t keyed p (last_member k a b v c) rest =
      let q = named p (names k) in
      omega (
        arith,
        pairs_append (of_key true q p (names k) v) (of_value q v) t,
        pair_named t true q p k a b v (gap c rest),
        value_named t keyed q v (gap c rest),
        named_more t (placed_pair p k a b v (gap c rest)) [],
      )
  members_named t keyed p (member k a b v c d ms) rest =
      let q = named p (names k) in
      let after = gap c (comma ∷ gap d (members ms rest)) in
      omega (
        arith,
        pairs_append (of_key true q p (names k) v ++ of_value q v) (of_members p ms) t,
        pairs_append (of_key true q p (names k) v) (of_value q v) t,
        pair_named t true q p k a b v after,
        value_named t keyed q v after,
        members_named t keyed p ms rest,
        named_more t (placed_pair p k a b v after) (paired_members p ms rest),
        flat_append paired_value (placed_value q v after ∷ inside q v after) (in_members p ms rest) t,
      )

-- ---- lines

fronts_none : (earlier : List Assertion) (by q : Place) (ns : List (List ℕ)) (t : Place)
    → pairs_at (fronts earlier by q ns) t ≡ 0
fronts_none earlier by q [] t = refl
fronts_none earlier by q (n ∷ []) t = refl
fronts_none earlier by q (n ∷ m ∷ ns) t = fronts_none earlier by (last_element_or_self earlier (at q (key n))) (m ∷ ns) t

-- what a statement asserts, with this text behind it
statement_named : (t : Place) → IsKeyed t → (s : PlacedStatement)
    → pairs_at (of_statement s.earlier s.prefix s.statement) t
    ≡ named_in t (paired_statement s) + named_in t
    (flat_map paired_value (in_statement s.prefix s.statement s.behind))
statement_named t keyed s = go s.statement
  where
    go : (x : Statement) → pairs_at (of_statement s.earlier s.prefix x) t
        ≡ named_in t (paired_statement (record s { statement = x })) + named_in t
        (flat_map paired_value (in_statement s.prefix x s.behind))
    go (pair k a b v) =
        let q = named s.prefix (names k) in
        omega (
          arith,
          pairs_append (of_key false q s.prefix (names k) v) (of_value q v) t,
          pair_named t false q s.prefix k a b v s.behind,
          value_named t keyed q v s.behind,
          named_more t (placed_pair s.prefix k a b v s.behind) [],
        )
    go (header a k b) =
        let place = header_place s.earlier [] (names k) in
        omega (
          arith,
          pairs_append (fronts s.earlier place [] (names k))
              (asserts place place header_kind ∷ []) t,
          fronts_none s.earlier place [] (names k) t,
        )
    go (element_header a k b) =
        let place = header_place s.earlier [] (names k) in
        let last = at place (index (elements_at s.earlier place)) in
        omega (
          arith,
          pairs_append (fronts s.earlier last [] (names k))
              (asserts last place array_kind ∷ asserts last last element_kind ∷ []) t,
          fronts_none s.earlier last [] (names k) t,
        )

lines_named : (t : Place) → IsKeyed t → (earlier : List Assertion) (prefix : Place) (ls : Lines)
    → pairs_at (of_lines earlier prefix ls) t
    ≡ pairs_at earlier t + (named_in t (flat_map paired_statement (stated_in earlier prefix ls)) + named_in t
    (flat_map paired_value (in_lines earlier prefix ls)))
lines_named t keyed earlier prefix (one_line (empty_line a c)) = omega arith
lines_named t keyed earlier prefix (one_line (full_line a s b c)) =
    let x = stated_line earlier prefix a s (b · comment c []) [] [] in
    omega (
      arith,
      pairs_append earlier (of_statement earlier prefix s) t,
      statement_named t keyed x,
      named_append t (paired_statement x) [],
    )
lines_named t keyed earlier prefix (more_lines (empty_line a c) e ls) = lines_named t keyed earlier prefix ls
lines_named t keyed earlier prefix (more_lines (full_line a s b c) e ls) =
    let after = line_end e (lines ls) in
    let x = stated_line earlier prefix a s (b · comment c after) after (lines ls) in
    let us = earlier ++ of_statement earlier prefix s in
    let q = prefix_after earlier prefix s in
    omega (
      arith,
      pairs_append earlier (of_statement earlier prefix s) t,
      statement_named t keyed x,
      lines_named t keyed us q ls,
      named_append t (paired_statement x) (flat_map paired_statement (stated_in us q ls)),
      flat_append paired_value (in_statement prefix s (b · comment c after)) (in_lines us q ls) t,
    )

-- the pairs that name a place, as the definition counts them
pub pairs_named : (t : Place) → IsKeyed t → (form : Text)
    → named_in t (line_pairs form ++ inner_pairs form) ≡ pairs_at (assertions form) t
pairs_named t keyed form =
    omega (arith, named_append t (line_pairs form) (inner_pairs form), lines_named t keyed [] [] form.lines)
