-- Assertions of elements of arrays and of lines have an assertion for each place above them.
use Rattle.std.proofs.Common.{◌≡◌, ◌+◌, true, false, cond, List, [], ◌∷◌, ◌++◌, refl, sym, ap, subst, ◌∙◌, inl, inr, arith}
use Rattle.std.proofs.lemmas.Bool.{cases_lt}
use Rattle.edit_syntax.specs.Grammar.{Statement, pair, header, element_header, empty_line, full_line, Lines, one_line, more_lines, Text}
use Rattle.edit_syntax.proofs.Members.{Among}
use Rattle.edit_tree.specs.Assertions.{Place, index, at, same_place, header_kind, array_kind, element_kind, Assertion, asserts, names, named, of_key, of_value, elements_at, fronts, header_place, of_statement, prefix_after, of_lines, assertions}
use Rattle.edit_tree.proofs.ArrayCounts.{ArePlain, plain_both, plain_key, plain_value, plain_fronts}
use Rattle.edit_tree.proofs.Asserters.{Paved, AreMade, Part, among_left, among_right, right_part, both_made, paved_root}
use Rattle.edit_tree.proofs.SamePlace.{place_or, same_place_self, other_place}
use Rattle.edit_tree.proofs.AssertedWays.{Elemented, elements_append, elements_plain, elementless, statement_made}

-- ---- elements

element_more : (made earlier supers : List Assertion) (q : Place) → ArePlain supers → Elemented made earlier
    → Part (asserts (at q (index (elements_at earlier q))) q array_kind ∷ asserts
    (at q (index (elements_at earlier q))) (at q (index (elements_at earlier q))) element_kind ∷ []) made
    → Elemented made (earlier ++
    (supers ++ asserts (at q (index (elements_at earlier q))) q array_kind ∷ asserts
    (at q (index (elements_at earlier q))) (at q (index (elements_at earlier q))) element_kind ∷ []))
element_more made earlier supers q plain all h p i lt = elim (place_or q p) [
  | inl same ↦
      let one : elements_at both p ≡ 1 = ap (λ b. cond b 1 0) (ap (λ z. same_place z p) same ∙
      same_place_self p) in
      elim (cases_lt i (elements_at earlier p)) [
        | inl less ↦ all p i less
        | inr ge ↦
            let is : i ≡ elements_at earlier p = omega (arith, lt, ge, sum, inner, none, one) in
            let here : i ≡ elements_at earlier q = is ∙ ap (elements_at earlier) (sym same) in
            subst (λ z. Among (asserts (at z (index i)) z array_kind) made
            × Among (asserts (at z (index i)) (at z (index i)) element_kind) made) same
            (subst (λ j. Among (asserts (at q (index j)) q array_kind) made
            × Among (asserts (at q (index j)) (at q (index j)) element_kind) made) (sym here)
            (h _ (inl refl), h _ (inr (inl refl))))
      ]
  | inr ne ↦
      let zero : elements_at both p ≡ 0 = ap (λ b. cond b 1 0) (other_place q p ne) in
      all p i (omega (arith, lt, sum, inner, none, zero))
]
  where
    both : List Assertion
    both = asserts (at q (index (elements_at earlier q))) q array_kind ∷ asserts
        (at q (index (elements_at earlier q))) (at q (index (elements_at earlier q))) element_kind ∷ []

    sum : elements_at (earlier ++ (supers ++ both)) p ≡ elements_at earlier p + elements_at (supers ++ both) p
    sum = elements_append earlier (supers ++ both) p

    inner : elements_at (supers ++ both) p ≡ elements_at supers p + elements_at both p
    inner = elements_append supers both p

    none : elements_at supers p ≡ 0
    none = elements_plain supers p plain

pub statement_elements : (made earlier : List Assertion) (prefix : Place) (s : Statement)
    → Elemented made earlier
    → Part (of_statement earlier prefix s) made → Elemented made (earlier ++ of_statement earlier prefix s)
statement_elements made earlier prefix (pair k a b v) all h =
    let q = named prefix (names k) in
    elementless made earlier (of_key false q prefix (names k) v ++ of_value q v)
    (plain_both (of_key false q prefix (names k) v) (of_value q v) (plain_key false q prefix (names k) v)
    (plain_value q v)) all
statement_elements made earlier prefix (header a k b) all h =
    let q = header_place earlier [] (names k) in
    elementless made earlier (fronts earlier q [] (names k) ++ asserts q q header_kind ∷ [])
    (plain_both (fronts earlier q [] (names k)) (asserts q q header_kind ∷ [])
    (plain_fronts earlier q [] (names k)) (refl, tt)) all
statement_elements made earlier prefix (element_header a k b) all h =
    let q = header_place earlier [] (names k) in
    let own = at q (index (elements_at earlier q)) in
    element_more made earlier (fronts earlier own [] (names k)) q (plain_fronts earlier own [] (names k)) all
    (right_part (fronts earlier own [] (names k)) _ made h)

-- ---- lines

earlier_part : (earlier : List Assertion) (prefix : Place) (ls : Lines)
    → Part earlier (of_lines earlier prefix ls)
earlier_part earlier prefix (one_line (empty_line a c)) b m = m
earlier_part earlier prefix (one_line (full_line a s x c)) b m =
    among_left earlier (of_statement earlier prefix s) b m
earlier_part earlier prefix (more_lines (empty_line a c) e ls) b m = earlier_part earlier prefix ls b m
earlier_part earlier prefix (more_lines (full_line a s x c) e ls) b m =
    earlier_part (earlier ++ of_statement earlier prefix s) (prefix_after earlier prefix s) ls b
    (among_left earlier (of_statement earlier prefix s) b m)

lines_made : (made earlier : List Assertion) (prefix : Place) (ls : Lines) → Elemented made earlier
    → Paved made prefix true prefix
    → AreMade made earlier → Part (of_lines earlier prefix ls) made
    → AreMade made (of_lines earlier prefix ls)
lines_made made earlier prefix (one_line (empty_line a c)) all way so h = so
lines_made made earlier prefix (one_line (full_line a s b c)) all way so h =
    both_made made earlier (of_statement earlier prefix s) so
    (statement_made made earlier prefix s all way
    (right_part earlier (of_statement earlier prefix s) made h)).0
lines_made made earlier prefix (more_lines (empty_line a c) e ls) all way so h =
    lines_made made earlier prefix ls all way so h
lines_made made earlier prefix (more_lines (full_line a s b c) e ls) all way so h =
    let us = of_statement earlier prefix s in
    let here : Part us made =
    λ x m. h x (earlier_part (earlier ++ us) (prefix_after earlier prefix s) ls x
    (among_right earlier us x m)) in
    let r = statement_made made earlier prefix s all way here in
    lines_made made (earlier ++ us) (prefix_after earlier prefix s) ls
    (statement_elements made earlier prefix s all here) r.1
    (both_made made earlier us so r.0) h

pub are_made : (form : Text) → AreMade (assertions form) (assertions form)
are_made form = lines_made (assertions form) [] [] form.lines (λ p i lt. absurd (omega (arith, lt)))
    (paved_root (assertions form) [] true) tt (λ b m. m)
