-- The walk over the tokens of values and of their members.
use Rattle.std.proofs.Common.{◌≡◌, ℕ, suc, ◌+◌, true, false, List, [], ◌∷◌, ◌++◌, length, map, refl, sym, ap, subst, ◌∙◌, append_assoc, arith}
use Rattle.std.specs.Prelude.{IsUtf8}
use Rattle.std.proofs.lemmas.List.{append-nil, map-append}
use Rattle.edit_syntax.specs.declared.read.syntax_tokens.TokenKind.TheVariants as kinds
use Rattle.edit_syntax.specs.declared.span.Span.{Span}
use Rattle.edit_tree.specs.declared.nodes.DefinedBy.TheVariants.{Dotted}
use Rattle.edit_syntax.specs.Characters.{comma, equals, right_bracket, right_brace}
use Rattle.edit_syntax.specs.Strings.{name, basic_text, literal_text, Dotted as DottedPart, Key}
use Rattle.edit_syntax.specs.Grammar.{gap, Value, basic, literal, multi_basic, multi_literal, boolean, integer, float, datetime, array, inline, Elements, no_elements, last_element, element, Members, no_members, last_member, member, value, elements, members, IsValue, AreElements, AreMembers}
use Rattle.edit_tree.specs.Assertions.{index, Place, at, leaf, Assertion, asserts, names, named, of_key, of_value, of_elements, of_members}
use Rattle.edit_tree.specs.Tree.{count_elements}
use Rattle.edit_tree.specs.Written.{placed_value, inside, in_elements, in_members}
use Rattle.edit_document.specs.DocumentLayout.{Placed, placed}
use Rattle.edit_tree.specs.Nodes.{ModelNode, StandsAt}
use Rattle.edit_tree.specs.Walk.{without_pending, is_dotted_within, state_after}
use Rattle.edit_syntax.specs.SyntaxTokens.{token_between, tokens_of_key, tokens_of_value, tokens_of_elements, tokens_of_members}
use Rattle.edit_tree.proofs.Ends.{Ends, ends_one, ends_pair, ends_gap, ends_value}
use Rattle.edit_tree.proofs.Trees.{grows_same}
use Rattle.edit_document.proofs.AssertedModels.{Stands}
use Rattle.edit_tree.proofs.Walks.{walked_none}
use Rattle.edit_tree.proofs.WalkedTokens.{walked_key}
use Rattle.edit_document.proofs.NumberTokens.{number_step}
use Rattle.edit_document.proofs.MultiTokens.{multi_basic_step, multi_literal_step}
use Rattle.edit_document.proofs.KeyWalks.{Leads, leads, leads_along, leads_then}
use Rattle.edit_document.proofs.WalkedHolders.{holder_leads, spans, basic_step, literal_step, true_step, false_step, Before, IsBefore, LeadsBy, scalar_leads, open_array, close_array, open_table, close_table}
use Rattle.edit_document.proofs.BeforeValues.{pair_before, pair_is_before, element_before, IsArrayAt, element_is_before, array_more, array_new}

-- ---- values and members

-- before the value of a key in an inline table
abbrev member_before : List ModelNode → List Assertion → List Placed → List ℕ → ℕ → Place → Key → Before
member_before models made written base t p k = pair_before models made written base t p true (name k.first)
    (map (λ (d : DottedPart). name d.part) k.others)

member_is_before : (models : List ModelNode) (made : List Assertion) (written : List Placed) (base : List ℕ) (t : ℕ)
    (p : Place) (k : Key) → Stands made written models → StandsAt models t p
    → is_dotted_within (length (base ++ t ∷ [])) Dotted ≡ true
    → IsBefore (member_before models made written base t p k)
member_is_before models made written base t p k st there deep =
    pair_is_before models made written base t p true (name k.first)
    (map (λ (d : DottedPart). name d.part) k.others) st there deep

mutual
  pub value_leads : (bytes : List ℕ) (v : Value) (rest : List ℕ) (b : Before) → IsValue v → IsUtf8 bytes
      → Ends bytes (value v rest) → IsBefore b
      → LeadsBy b v rest (state_after bytes (tokens_of_value v rest) b.waiting)
  value_leads bytes (basic ps) rest b h u ends at_value =
      scalar_leads bytes (token_between kinds.BasicString (basic_text ps rest) rest) b (basic ps) rest
      (basic_step bytes ps rest h u ends) refl refl at_value
  value_leads bytes (literal text) rest b h u ends at_value =
      scalar_leads bytes (token_between kinds.LiteralString (literal_text text rest) rest) b (literal text) rest
      (literal_step bytes text rest h u ends) refl refl at_value
  value_leads bytes (multi_basic ps) rest b h u ends at_value =
      scalar_leads bytes (token_between kinds.MultiBasicString (value (multi_basic ps) rest) rest) b
      (multi_basic ps) rest (multi_basic_step bytes ps rest h u ends) refl refl at_value
  value_leads bytes (multi_literal ps) rest b h u ends at_value =
      scalar_leads bytes (token_between kinds.MultiLiteralString (value (multi_literal ps) rest) rest) b
      (multi_literal ps) rest (multi_literal_step bytes ps rest h u ends) refl refl at_value
  value_leads bytes (boolean true) rest b h u ends at_value =
      scalar_leads bytes (token_between kinds.True (value (boolean true) rest) rest) b (boolean true) rest
      (true_step bytes rest) refl refl at_value
  value_leads bytes (boolean false) rest b h u ends at_value =
      scalar_leads bytes (token_between kinds.False (value (boolean false) rest) rest) b (boolean false) rest
      (false_step bytes rest) refl refl at_value
  value_leads bytes (integer i) rest b h u ends at_value =
      scalar_leads bytes (token_between kinds.Integer (value (integer i) rest) rest) b (integer i) rest
      (number_step bytes (integer i) rest h tt ends) refl refl at_value
  value_leads bytes (float f) rest b h u ends at_value =
      scalar_leads bytes (token_between kinds.Float (value (float f) rest) rest) b (float f) rest
      (number_step bytes (float f) rest h tt ends) refl refl at_value
  value_leads bytes (datetime d) rest b h u ends at_value =
      scalar_leads bytes (token_between kinds.DateTime (value (datetime d) rest) rest) b (datetime d) rest
      (number_step bytes (datetime d) rest h tt ends) refl refl at_value
  value_leads bytes (array g es) rest b h u ends at_value =
      let end = right_bracket ∷ rest in
      let in_brackets : Ends bytes (elements es (right_bracket ∷ rest)) =
      ends_gap bytes g (elements es (right_bracket ∷ rest))
      (ends_one bytes 91 (gap g (elements es (right_bracket ∷ rest))) ends) in
      let open_span : Span =
      record {
        from = length (value (array g es) rest);
        to = length (gap g (elements es (right_bracket ∷ rest)));
      } in
      holder_leads bytes (array g es) rest (gap g (elements es (right_bracket ∷ rest)))
      (token_between kinds.OpenArray (value (array g es) rest) (gap g (elements es (right_bracket ∷ rest))))
      (token_between kinds.CloseArray (right_bracket ∷ rest) rest)
      (tokens_of_elements es (right_bracket ∷ rest)) b at_value
      (open_array bytes (value (array g es) rest) (gap g (elements es (right_bracket ∷ rest))))
      (close_array bytes (right_bracket ∷ rest) rest)
      (λ now j st there grows. elements_lead bytes es (right_bracket ∷ rest) now
      (b.made ++ b.keyed (array g es)) (b.written ++ (b.place, open_span) ∷ []) b.tables j b.place 0
      (count_elements es) h.1 u in_brackets st
      (array_new b now (b.written ++ (b.place, open_span) ∷ []) j g es at_value st there) (omega arith))
  value_leads bytes (inline g ms) rest b h u ends at_value =
      let in_braces : Ends bytes (members ms (right_brace ∷ rest)) =
      ends_gap bytes g (members ms (right_brace ∷ rest))
      (ends_one bytes 123 (gap g (members ms (right_brace ∷ rest))) ends) in
      let open_span : Span =
      record {
        from = length (value (inline g ms) rest);
        to = length (gap g (members ms (right_brace ∷ rest)));
      } in
      holder_leads bytes (inline g ms) rest (gap g (members ms (right_brace ∷ rest)))
      (token_between kinds.OpenTable (value (inline g ms) rest) (gap g (members ms (right_brace ∷ rest))))
      (token_between kinds.CloseTable (right_brace ∷ rest) rest) (tokens_of_members ms (right_brace ∷ rest)) b at_value
      (open_table bytes (value (inline g ms) rest) (gap g (members ms (right_brace ∷ rest))))
      (close_table bytes (right_brace ∷ rest) rest)
      (λ now j st there grows. members_lead bytes ms (right_brace ∷ rest) now
      (b.made ++ b.keyed (inline g ms)) (b.written ++ (b.place, open_span) ∷ []) b.tables j b.place h.1 u
      in_braces st there (at_value.deep j))

  pub elements_lead : (bytes : List ℕ) (es : Elements) (rest : List ℕ) (models : List ModelNode)
      (made : List Assertion) (written : List Placed) (base : List ℕ) (t : ℕ) (p : Place) (i total : ℕ)
      → AreElements es → IsUtf8 bytes → Ends bytes (elements es rest)
      → Stands made written models → IsArrayAt models made t p i total → i + count_elements es ≡ total
      → Leads models (made ++ of_elements p i es) (written ++ spans (in_elements p i es rest)) (base ++ t ∷ [])
      (state_after bytes (tokens_of_elements es rest) (without_pending models (base ++ t ∷ [])))
  elements_lead bytes no_elements rest models made written base t p i total h u ends st a count =
      leads models (walked_none bytes (without_pending models (base ++ t ∷ [])))
      (subst (λ (xs : List Assertion). Stands xs (written ++ []) models) (sym (append-nil made))
      (subst (λ (w : List Placed). Stands made w models) (sym (append-nil written)) st)) (grows_same models)
  elements_lead bytes (last_element v g) rest models made written base t p i total h u ends st a count =
      value_leads bytes v (gap g rest) (element_before models made written base t p i) h.0 u ends
      (element_is_before models made written base t p i total st a (omega arith))
  elements_lead bytes (element v g h2 es) rest models made written base t p i total h u ends st a count =
      let after = gap g (comma ∷ gap h2 (elements es rest)) in
      let before = element_before models made written base t p i in
      let one = placed_value (at p (index i)) v after ∷ inside (at p (index i)) v after in
      let asserted_one = asserts (at p (index i)) (at p (index i)) (leaf v) ∷ of_value (at p (index i)) v in
      let more_ends : Ends bytes (elements es rest) = ends_gap bytes h2 (elements es rest)
      (ends_one bytes comma (gap h2 (elements es rest))
      (ends_gap bytes g (comma ∷ gap h2 (elements es rest)) (ends_value bytes v after ends))) in
      let first : Leads models (made ++ asserted_one) (written ++ spans one) (base ++ t ∷ [])
      (state_after bytes (tokens_of_value v after) (without_pending models (base ++ t ∷ []))) =
      value_leads bytes v after before h.0 u ends
      (element_is_before models made written base t p i total st a (omega arith)) in
      let all = leads_then bytes (tokens_of_value v after) (tokens_of_elements es rest)
      (without_pending models (base ++ t ∷ [])) models (made ++ asserted_one) (of_elements p (suc i) es)
      (written ++ spans one) (spans (in_elements p (suc i) es rest)) (base ++ t ∷ []) (base ++ t ∷ []) first
      (λ now st2 grows. elements_lead bytes es rest now (made ++ asserted_one) (written ++ spans one) base t p
      (suc i) total h.3 u more_ends st2
      (array_more models now made written (written ++ spans one) t p i total v st a st2 grows)
      (let c = count in omega arith)) in
      let same_made : (made ++ asserted_one) ++ of_elements p (suc i) es
      ≡ made ++ (asserted_one ++ of_elements p (suc i) es) =
      append_assoc made asserted_one (of_elements p (suc i) es) in
      let same_spans : (written ++ spans one) ++ spans (in_elements p (suc i) es rest)
      ≡ written ++ spans (one ++ in_elements p (suc i) es rest) =
      append_assoc written (spans one) (spans (in_elements p (suc i) es rest)) ∙
      ap (λ (w : List Placed). written ++ w) (sym (map-append placed one (in_elements p (suc i) es rest))) in
      subst (λ (xs : List Assertion). Leads models xs (written ++ spans (one ++ in_elements p (suc i) es rest))
      (base ++ t ∷ []) (state_after bytes (tokens_of_elements (element v g h2 es) rest)
      (without_pending models (base ++ t ∷ [])))) same_made
      (subst (λ (w : List Placed). Leads models ((made ++ asserted_one) ++ of_elements p (suc i) es) w
      (base ++ t ∷ []) (state_after bytes (tokens_of_elements (element v g h2 es) rest)
      (without_pending models (base ++ t ∷ [])))) same_spans all)

  pub members_lead : (bytes : List ℕ) (ms : Members) (rest : List ℕ) (models : List ModelNode)
      (made : List Assertion) (written : List Placed) (base : List ℕ) (t : ℕ) (p : Place) → AreMembers ms
      → IsUtf8 bytes → Ends bytes (members ms rest)
      → Stands made written models → StandsAt models t p → is_dotted_within (length (base ++ t ∷ [])) Dotted
      ≡ true
      → Leads models (made ++ of_members p ms) (written ++ spans (in_members p ms rest)) (base ++ t ∷ [])
      (state_after bytes (tokens_of_members ms rest) (without_pending models (base ++ t ∷ [])))
  members_lead bytes no_members rest models made written base t p h u ends st there deep =
      leads models (walked_none bytes (without_pending models (base ++ t ∷ [])))
      (subst (λ (xs : List Assertion). Stands xs (written ++ []) models) (sym (append-nil made))
      (subst (λ (w : List Placed). Stands made w models) (sym (append-nil written)) st)) (grows_same models)
  members_lead bytes (last_member k a b v c) rest models made written base t p h u ends st there deep =
      let after = gap c rest in
      leads_along (walked_key bytes k (a ++ (equals ∷ (b ++ value v after))) (tokens_of_value v after)
      (without_pending models (base ++ t ∷ [])) h.0 u ends)
      (value_leads bytes v after (member_before models made written base t p k) h.3 u
      (ends_pair bytes k a b (value v after) ends)
      (member_is_before models made written base t p k st there deep))
  members_lead bytes (member k a b v c d ms) rest models made written base t p h u ends st there deep =
      let after = gap c (comma ∷ gap d (members ms rest)) in
      let before = member_before models made written base t p k in
      let one = placed_value (named p (names k)) v after ∷ inside (named p (names k)) v after in
      let asserted_one = of_key true (named p (names k)) p (names k) v ++ of_value (named p (names k)) v in
      let value_ends : Ends bytes (value v after) = ends_pair bytes k a b (value v after) ends in
      let more_ends : Ends bytes (members ms rest) = ends_gap bytes d (members ms rest)
      (ends_one bytes comma (gap d (members ms rest))
      (ends_gap bytes c (comma ∷ gap d (members ms rest)) (ends_value bytes v after value_ends))) in
      let first : Leads models (made ++ asserted_one) (written ++ spans one) (base ++ t ∷ [])
      (state_after bytes (tokens_of_key k (a ++ (equals ∷ (b ++ value v after))) ++ tokens_of_value v after)
      (without_pending models (base ++ t ∷ []))) =
      leads_along (walked_key bytes k (a ++ (equals ∷ (b ++ value v after))) (tokens_of_value v after)
      (without_pending models (base ++ t ∷ [])) h.0 u ends)
      (value_leads bytes v after before h.3 u value_ends
      (member_is_before models made written base t p k st there deep)) in
      let all = leads_then bytes (tokens_of_key k (a ++ (equals ∷ (b ++ value v after))) ++ tokens_of_value v after)
      (tokens_of_members ms rest) (without_pending models (base ++ t ∷ [])) models (made ++ asserted_one)
      (of_members p ms) (written ++ spans one) (spans (in_members p ms rest)) (base ++ t ∷ [])
      (base ++ t ∷ []) first
      (λ now st2 grows. members_lead bytes ms rest now (made ++ asserted_one)
      (written ++ spans one) base t p h.6 u more_ends st2 (grows t p there) deep) in
      let same_made : (made ++ asserted_one) ++ of_members p ms ≡ made ++ (asserted_one ++ of_members p ms) =
      append_assoc made asserted_one (of_members p ms) in
      let same_spans : (written ++ spans one) ++ spans (in_members p ms rest)
      ≡ written ++ spans (one ++ in_members p ms rest) =
      append_assoc written (spans one) (spans (in_members p ms rest)) ∙
      ap (λ (w : List Placed). written ++ w) (sym (map-append placed one (in_members p ms rest))) in
      subst (λ (xs : List Assertion). Leads models xs (written ++ spans (one ++ in_members p ms rest))
      (base ++ t ∷ []) (state_after bytes (tokens_of_members (member k a b v c d ms) rest)
      (without_pending models (base ++ t ∷ [])))) same_made
      (subst (λ (w : List Placed). Leads models ((made ++ asserted_one) ++ of_members p ms) w (base ++ t ∷ [])
      (state_after bytes (tokens_of_members (member k a b v c d ms) rest) (without_pending models (base ++ t ∷ []))))
      same_spans all)
