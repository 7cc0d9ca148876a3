-- The walk over tokens: closing an array or inline table, one token, and all tokens.
use Rattle.std.proofs.Common.{◌≡◌, ℕ, ◌+◌, ◌-◌, ◌<◌, Bool, true, false, List, [], ◌∷◌, ◌++◌, length, take, drop, get_or, Option, Some, None, refl, sym, ap, subst, ◌∙◌, ◌⊎◌, inl, inr, length-append, arith}
use Rattle.std.specs.Prelude.{option_map, map, slice_get, slice_set}
use Rattle.std.specs.List.{AllByRecursion}
use Rattle.std.proofs.lemmas.Option.{slice_get_read, slice_get-get_or, slice_get_within}
use Rattle.edit_tree.specs.declared.nodes.Node.{Node}
use Rattle.edit_syntax.specs.declared.span.Span.{Span}
use Rattle.edit_tree.specs.declared.nodes.DecodedText.{DecodedText}
use Rattle.edit_tree.specs.declared.walk.Walk.{Walk}
use Rattle.edit_syntax.specs.declared.read.syntax_tokens.SyntaxToken.{SyntaxToken}
use Rattle.edit_syntax.specs.declared.read.syntax_tokens.TokenKind.{TokenKind}
use Rattle.edit_syntax.specs.declared.read.syntax_tokens.TokenKind.TheVariants as kinds
use Rattle.edit_syntax.specs.Reading.{◌>>=◌}
use Rattle.edit_tree.specs.Nodes.{Shape, scalar_shape, ModelNode, bytes_of, RepresentsNodes}
use Rattle.edit_tree.specs.Walk.{State, token_value, last_of, without_last, with_key_part, value_added, value_closed, span_of_token, scalar_added, act, step, start, state_after}
use Rattle.edit_tree.specs.WalkState.{Walks, HasNextState, IsDecodedAt, has_token_value, IsToken, KeepsState}
use Rattle.edit_tree.proofs.Below.{all_at}
use Rattle.edit_tree.proofs.Ends.{take_length}
use Rattle.edit_syntax.proofs.ListElements.{drop_from}
use Rattle.edit_tree.proofs.ModelNodes.{model_of_node, holds_set}
use Rattle.edit_tree.proofs.Walks.{walked_first, walked_stops, walked_none}
use Rattle.edit_tree.proofs.WalkSteps.{turns}

-- ---- spans

abbrev pub spanned : ModelNode → Option Span → ModelNode
spanned s span = record s { span = span }

pub holds_spanned : {text : List ℕ} (nodes : List Node) (models : List ModelNode) (t : ℕ) (old : Node) (s : ModelNode)
    (span : Option Span) → RepresentsNodes text nodes models → slice_get nodes t ≡ Some old → slice_get models t ≡ Some s
    → RepresentsNodes text (slice_set nodes t (record old { span = span })) (slice_set models t (spanned s span))
holds_spanned nodes models t old s span holds a b =
    let k = holds.each t old s a b in
    holds_set nodes models t (record old { span = span }) (spanned s span) holds
    (slice_get_within nodes t old a)
    (record {
      shape = k.shape;
      taken = k.taken;
      steps = k.steps;
      members = k.members;
      indexed = k.indexed;
      elements = k.elements;
      span = refl;
    })

closed_is : (st : State) (to number : ℕ) (s : ModelNode) → last_of st.tables ≡ Some number
    → slice_get st.models number ≡ Some s
    → value_closed st to ≡ (s.span >>= λ span. let next : State = record {
      models = slice_set st.models number (spanned s (Some (record { from = span.from; to = to })));
      tables = without_last st.tables;
      fronts = st.fronts;
      name = st.name;
    } in Some next)
closed_is st to number s t e =
    ap (λ (o : Option ℕ). o >>= λ k. slice_get st.models k >>= λ x. x.span >>= λ span.
    let next : State = record {
      models = slice_set st.models k (spanned x (Some (record { from = span.from; to = to })));
      tables = without_last st.tables;
      fronts = st.fronts;
      name = st.name;
    } in Some next) t
    ∙ ap (λ (o : Option ModelNode). o >>= λ x. x.span >>= λ span.
    let next : State = record {
      models = slice_set st.models number (spanned x (Some (record { from = span.from; to = to })));
      tables = without_last st.tables;
      fronts = st.fronts;
      name = st.name;
    } in Some next) e

-- the innermost table has a span, and ends
pub goes_closed : {text : List ℕ} (old walk : Walk) (st : State) (to number : ℕ) (node : Node) (span : Span)
    → Walks text old st → last_of old.tables.items ≡ Some number → number < length old.nodes.items
    → node ≡ get_or old.nodes.items number node → node.span ≡ Some span
    → walk.nodes.items ≡ slice_set old.nodes.items number
    (record node { span = Some (record { from = span.from; to = to }) })
    → walk.tables.items ≡ without_last old.tables.items → walk.fronts.items ≡ old.fronts.items
    → walk.name ≡ old.name → HasNextState text walk (value_closed st to) true
goes_closed {text} old walk st to number node span w top lt is has ns ts fs n =
    let there = slice_get_read old.nodes.items (length old.nodes.items) number node refl lt is in
    let s = model_of_node old.nodes.items st.models number node w.holds.len there in
    let k = w.holds.each number node s.0 there s.1 in
    let top2 : last_of st.tables ≡ Some number = ap last_of (sym w.tables) ∙ top in
    let has2 : s.0.span ≡ Some span = sym k.span ∙ has in
    let span2 : Option Span = Some (record { from = span.from; to = to }) in
    let next : State = record {
      models = slice_set st.models number (spanned s.0 span2);
      tables = without_last st.tables;
      fronts = st.fronts;
      name = st.name;
    } in (
      next,
      closed_is st to number s.0 top2 s.1 ∙
          ap (λ (o : Option Span). o >>= λ sp. let next2 : State = record {
            models = slice_set st.models number (spanned s.0 (Some (record { from = sp.from; to = to })));
            tables = without_last st.tables;
            fronts = st.fronts;
            name = st.name;
          } in Some next2) has2,
      record {
        holds = subst (λ (xs : List Node). RepresentsNodes text xs (slice_set st.models number (spanned s.0 span2)))
            (sym ns) (holds_spanned old.nodes.items st.models number node s.0 span2 w.holds there s.1);
        tables = ts ∙ ap without_last w.tables;
        fronts = ap (map (bytes_of text)) fs ∙ w.fronts;
        name = ap (option_map (bytes_of text)) n ∙ w.name;
      },
    )

pub closed_bare : {text : List ℕ} (old : Walk) (st : State) (to number : ℕ) (node : Node) → Walks text old st
    → last_of old.tables.items ≡ Some number → number < length old.nodes.items
    → node ≡ get_or old.nodes.items number node → node.span ≡ None → value_closed st to ≡ None
closed_bare old st to number node w top lt is has =
    let there = slice_get_read old.nodes.items (length old.nodes.items) number node refl lt is in
    let s = model_of_node old.nodes.items st.models number node w.holds.len there in
    let k = w.holds.each number node s.0 there s.1 in
    closed_is st to number s.0 (ap last_of (sym w.tables) ∙ top) s.1 ∙
    ap (λ (o : Option Span). o >>= λ sp. let next2 : State = record {
      models = slice_set st.models number (spanned s.0 (Some (record { from = sp.from; to = to })));
      tables = without_last st.tables;
      fronts = st.fronts;
      name = st.name;
    } in Some next2) (sym k.span ∙ has)

pub without_push : (base : List ℕ) (t : ℕ) → without_last (base ++ t ∷ []) ≡ base
without_push base t =
    let size : length (base ++ t ∷ []) ≡ length base + 1 = length-append base (t ∷ []) in
    let n : length (base ++ t ∷ []) - 1 ≡ length base = omega arith in
    ap (λ (k : ℕ). take k (base ++ t ∷ [])) n ∙ take_length base (t ∷ [])

-- ---- one token

pub step_is : (bytes : List ℕ) (m : SyntaxToken) (st : State) (k : TokenKind) → m.kind ≡ k
    → step bytes m st ≡ act k bytes m st
unfolding step
step_is bytes m st k e = ap (λ (j : TokenKind). act j bytes m st) e

-- a name waits
named_by : (walk old : Walk) (bytes : List ℕ) (m : SyntaxToken) (st : State) (s : DecodedText) (k : TokenKind) → m.kind ≡ k
    → has_token_value k ≡ true → act k bytes m st ≡ (token_value bytes m >>= λ n. Some (with_key_part st n)) → Walks bytes old st
    → IsToken bytes m
    → ((n : List ℕ) → IsDecodedAt bytes m n → bytes_of bytes s ≡ n)
    → ((x : State) → Walks bytes old x → Walks bytes walk (with_key_part x (bytes_of bytes s)))
    → HasNextState bytes walk (step bytes m st) true
named_by walk old bytes m st s k kind says does w is_token names waits =
    let t = is_token (ap has_token_value kind ∙ says) in
    let here : step bytes m st ≡ Some (with_key_part st (bytes_of bytes s)) =
    step_is bytes m st k kind ∙ does ∙ ap (λ (o : Option (List ℕ)). o >>= λ n. Some (with_key_part st n)) t.1 ∙
    ap (λ (n : List ℕ). Some (with_key_part st n)) (sym (names t.0 t.2)) in
    (with_key_part st (bytes_of bytes s), here, waits st w)

pub goes_named : (walk old : Walk) (bytes : List ℕ) (m : SyntaxToken) (st : State) (s : DecodedText)
    → (m.kind ≡ kinds.BarePart) ⊎ ((m.kind ≡ kinds.BasicPart) ⊎ (m.kind ≡ kinds.LiteralPart))
    → Walks bytes old st → IsToken bytes m
    → ((n : List ℕ) → IsDecodedAt bytes m n → bytes_of bytes s ≡ n)
    → ((x : State) → Walks bytes old x → Walks bytes walk (with_key_part x (bytes_of bytes s)))
    → HasNextState bytes walk (step bytes m st) true
goes_named walk old bytes m st s (inl e) = named_by walk old bytes m st s kinds.BarePart e refl refl
goes_named walk old bytes m st s (inr (inl e)) = named_by walk old bytes m st s kinds.BasicPart e refl refl
goes_named walk old bytes m st s (inr (inr e)) = named_by walk old bytes m st s kinds.LiteralPart e refl refl

-- a string, a number, a date or a time
value_step_by : (bytes : List ℕ) (m : SyntaxToken) (st : State) (s : Shape) (k : TokenKind) → m.kind ≡ k
    → has_token_value k ≡ true
    → act k bytes m st ≡ scalar_added bytes m st → IsToken bytes m
    → ((n : List ℕ) → IsDecodedAt bytes m n → s ≡ scalar_shape m.kind n)
    → step bytes m st ≡ value_added st s (Some (span_of_token m))
value_step_by bytes m st s k kind says does is_token names =
    let t = is_token (ap has_token_value kind ∙ says) in
    step_is bytes m st k kind ∙ does ∙
    ap (λ (o : Option (List ℕ)). o >>= λ n. value_added st (scalar_shape m.kind n) (Some (span_of_token m))) t.1 ∙
    ap (λ (x : Shape). value_added st x (Some (span_of_token m))) (sym (names t.0 t.2))

-- a token of a string, a number, a date or a time
abbrev pub IsScalarToken : TokenKind → Type 0
IsScalarToken k =
    (k ≡ kinds.BasicString)
    ⊎ ((k ≡ kinds.LiteralString) ⊎ ((k ≡ kinds.MultiBasicString) ⊎ ((k ≡ kinds.MultiLiteralString)
    ⊎ ((k ≡ kinds.Integer) ⊎ ((k ≡ kinds.Float) ⊎ (k ≡ kinds.DateTime))))))

pub value_step : (bytes : List ℕ) (m : SyntaxToken) (st : State) (s : Shape) → IsScalarToken m.kind
    → IsToken bytes m
    → ((n : List ℕ) → IsDecodedAt bytes m n → s ≡ scalar_shape m.kind n)
    → step bytes m st ≡ value_added st s (Some (span_of_token m))
value_step bytes m st s (inl e) = value_step_by bytes m st s kinds.BasicString e refl refl
value_step bytes m st s (inr (inl e)) = value_step_by bytes m st s kinds.LiteralString e refl refl
value_step bytes m st s (inr (inr (inl e))) = value_step_by bytes m st s kinds.MultiBasicString e refl refl
value_step bytes m st s (inr (inr (inr (inl e)))) = value_step_by bytes m st s kinds.MultiLiteralString e refl refl
value_step bytes m st s (inr (inr (inr (inr (inl e))))) = value_step_by bytes m st s kinds.Integer e refl refl
value_step bytes m st s (inr (inr (inr (inr (inr (inl e)))))) = value_step_by bytes m st s kinds.Float e refl refl
value_step bytes m st s (inr (inr (inr (inr (inr (inr e)))))) = value_step_by bytes m st s kinds.DateTime e refl refl

-- the end of an array or of an inline table
pub close_step : (bytes : List ℕ) (m : SyntaxToken) (st : State) → (m.kind ≡ kinds.CloseArray)
    ⊎ (m.kind ≡ kinds.CloseTable) → step bytes m st ≡ value_closed st m.to
close_step bytes m st (inl e) = step_is bytes m st kinds.CloseArray e
close_step bytes m st (inr e) = step_is bytes m st kinds.CloseTable e

-- ---- all tokens

-- what is left to walk gives what the whole walk gives
pub record Along (walk : Walk) (bytes : List ℕ) (all left : List SyntaxToken) : Type 0 where
  pub state : State
  pub walks : Walks bytes walk state
  pub same : state_after bytes all start ≡ state_after bytes left state

pub along_start : (walk : Walk) (bytes : List ℕ) (all : List SyntaxToken) → Walks bytes walk start
    → Along walk bytes all all
along_start walk bytes all w = record { state = start; walks = w; same = refl }

pub along_next : (walk next : Walk) (bytes : List ℕ) (all left : List SyntaxToken) (m : SyntaxToken)
    → (a : Along walk bytes all (m ∷ left)) → HasNextState bytes next (step bytes m a.state) true
    → Along next bytes all left
along_next walk next bytes all left m a (st, e, w) =
    record { state = st; walks = w; same = a.same ∙ walked_first bytes m left a.state st e }

pub along_stop : (walk : Walk) (bytes : List ℕ) (all left : List SyntaxToken) (m : SyntaxToken)
    → (a : Along walk bytes all (m ∷ left)) → step bytes m a.state ≡ None → state_after bytes all start ≡ None
along_stop walk bytes all left m a e = a.same ∙ walked_stops bytes m left a.state e

pub along_end : (walk : Walk) (bytes : List ℕ) (all : List SyntaxToken) → Along walk bytes all []
    → KeepsState bytes walk.nodes.items (state_after bytes all start)
along_end walk bytes all a = subst (KeepsState bytes walk.nodes.items)
    (sym (a.same ∙ walked_none bytes a.state)) a.walks.holds

-- a turn of the loop over all tokens
abbrev pub Turns : Walk → Walk → List ℕ → SyntaxToken → Bool → Type 0
Turns walk new bytes m b = (st : State) → Walks bytes walk st → IsToken bytes m
    → HasNextState bytes new (step bytes m st) b

left_at : (walk : Walk) (bytes : List ℕ) (tokens : List SyntaxToken) (i : ℕ) (d : SyntaxToken)
    → i < length tokens
    → Along walk bytes tokens (drop i tokens) → Along walk bytes tokens (get_or tokens i d ∷ drop (i + 1) tokens)
left_at walk bytes tokens i d lt a = subst (Along walk bytes tokens)
    (drop_from tokens i (get_or tokens i d) (slice_get-get_or tokens i d lt)) a

token_there : (bytes : List ℕ) (tokens : List SyntaxToken) (i : ℕ) (d : SyntaxToken) → i < length tokens
    → AllByRecursion (IsToken bytes) tokens → IsToken bytes (get_or tokens i d)
token_there bytes tokens i d lt h = all_at (IsToken bytes) tokens i (get_or tokens i d) h
    (slice_get-get_or tokens i d lt)

pub turn_on : (walk new : Walk) (bytes : List ℕ) (tokens : List SyntaxToken) (i : ℕ) (d : SyntaxToken) (b : Bool)
    → i < length tokens → AllByRecursion (IsToken bytes) tokens → b ≡ true
    → Turns walk new bytes (get_or tokens i d) b → Along walk bytes tokens (drop i tokens)
    → Along new bytes tokens (drop (i + 1) tokens)
turn_on walk new bytes tokens i d b lt are_tokens on turns a =
    let here = left_at walk bytes tokens i d lt a in
    along_next walk new bytes tokens (drop (i + 1) tokens) (get_or tokens i d) here
    (subst (λ (x : Bool). HasNextState bytes new (step bytes (get_or tokens i d) here.state) x) on
    (turns here.state here.walks (token_there bytes tokens i d lt are_tokens)))

pub turn_off : (walk new : Walk) (bytes : List ℕ) (tokens : List SyntaxToken) (i : ℕ) (d : SyntaxToken) (b : Bool)
    → i < length tokens → AllByRecursion (IsToken bytes) tokens → b ≡ false
    → Turns walk new bytes (get_or tokens i d) b → Along walk bytes tokens (drop i tokens)
    → state_after bytes tokens start ≡ None
turn_off walk new bytes tokens i d b lt are_tokens off turns a =
    let here = left_at walk bytes tokens i d lt a in
    along_stop walk bytes tokens (drop (i + 1) tokens) (get_or tokens i d) here
    (subst (λ (x : Bool). HasNextState bytes new (step bytes (get_or tokens i d) here.state) x) off
    (turns here.state here.walks (token_there bytes tokens i d lt are_tokens)))
