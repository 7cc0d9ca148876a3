-- The walk over the tokens of one value: single tokens, and the first and last token of arrays and inline
-- tables.
use Rattle.std.proofs.Common.{◌≡◌, ℕ, ◌+◌, true, false, List, [], ◌∷◌, ◌++◌, length, map, Option, Some, None, refl, sym, ap, subst, ◌∙◌, append_assoc, length-append, arith}
use Rattle.std.specs.Prelude.{IsUtf8}
use Rattle.std.proofs.lemmas.Bool.Decides.{nat_tests}
use Rattle.std.proofs.lemmas.List.{append-nil}
use Rattle.edit_syntax.specs.declared.read.syntax_tokens.SyntaxToken.{SyntaxToken}
use Rattle.edit_syntax.specs.declared.read.syntax_tokens.TokenKind.TheVariants as kinds
use Rattle.edit_syntax.specs.declared.span.Span.{Span}
use Rattle.edit_tree.specs.declared.nodes.DefinedBy.TheVariants.{Dotted}
use Rattle.edit_syntax.specs.Characters.{quote}
use Rattle.edit_syntax.specs.Strings.{Piece, decoded_pieces, basic_text, literal_text}
use Rattle.edit_syntax.specs.Grammar.{Value, basic, literal, boolean, value, IsValue}
use Rattle.edit_tree.specs.Assertions.{index, Place, at, Assertion, of_value}
use Rattle.edit_tree.specs.Tree.{string, truth, kind_at}
use Rattle.edit_tree.specs.Written.{PlacedValue, placed_value, inside}
use Rattle.edit_document.specs.DocumentLayout.{shape_of_value, span_of, Placed, placed, span_at}
use Rattle.edit_syntax.specs.Reading.{◌>>=◌}
use Rattle.edit_tree.specs.Nodes.{Shape, scalar, ModelNode, StandsAt}
use Rattle.edit_tree.specs.Nodes as shapes
use Rattle.edit_tree.specs.Walk.{State, token_value, without_pending, is_dotted_within, value_added_at, value_added, value_opened, value_closed, step, state_after}
use Rattle.edit_syntax.specs.SyntaxTokens.{token_between}
use Rattle.edit_tree.proofs.Ends.{Ends}
use Rattle.edit_tree.proofs.MoreAssertions.{IsClear, clear_front}
use Rattle.edit_tree.proofs.Trees.{Grows, grows_then}
use Rattle.edit_document.proofs.AssertedModels.{Stands, nothing_under}
use Rattle.edit_tree.proofs.PlainValues.{HasLeaf}
use Rattle.edit_tree.proofs.Parts.{kind_append}
use Rattle.edit_tree.proofs.Walks.{walked_one, walked_first, walked_stops, walked_append}
use Rattle.edit_tree.proofs.WalkedTokens.{said_basic, said_literal}
use Rattle.edit_document.proofs.KeyWalks.{Leads, leads, stops, leads_along, Enters, enters, bars}
use Rattle.edit_document.proofs.KeySpans.{closed_leads}

-- where the values of a list are written
abbrev pub spans : List PlacedValue → List Placed
spans ws = map placed ws

-- ---- scalars

abbrev pub IsStep : List ℕ → SyntaxToken → Shape → Span → Type 0
IsStep bytes m shape span = (st : State) → step bytes m st ≡ value_added st shape (Some span)

pub basic_step : (bytes : List ℕ) (ps : List Piece) (rest : List ℕ) → IsValue (basic ps) → IsUtf8 bytes
    → Ends bytes (basic_text ps rest)
    → IsStep bytes (token_between kinds.BasicString (basic_text ps rest) rest)
    (scalar (string (decoded_pieces quote ps))) (span_of (basic ps) rest)
unfolding step token_value
basic_step bytes ps rest h u ends st =
    ap (λ (o : Option (List ℕ)). o >>= λ x. value_added st (scalar (string x)) (Some (span_of (basic ps) rest)))
    (said_basic bytes ps rest 0 h u ends)

pub literal_step : (bytes text rest : List ℕ) → IsValue (literal text) → IsUtf8 bytes
    → Ends bytes (literal_text text rest)
    → IsStep bytes (token_between kinds.LiteralString (literal_text text rest) rest) (scalar (string text))
    (span_of (literal text) rest)
unfolding step token_value
literal_step bytes text rest h u ends st =
    ap (λ (o : Option (List ℕ)). o >>= λ x. value_added st (scalar (string x))
    (Some (span_of (literal text) rest))) (said_literal bytes text rest 0 h u ends)

pub true_step : (bytes rest : List ℕ)
    → IsStep bytes (token_between kinds.True (value (boolean true) rest) rest)
    (scalar (truth true)) (span_of (boolean true) rest)
unfolding step
true_step bytes rest st = refl

pub false_step : (bytes rest : List ℕ)
    → IsStep bytes (token_between kinds.False (value (boolean false) rest) rest)
    (scalar (truth false)) (span_of (boolean false) rest)
unfolding step
false_step bytes rest st = refl

-- the state of a walk before a value: the model nodes, what was asserted and written, the open tables, the
-- place of the value, and what is asserted there for a value
pub record Before : Type 0 where
  pub models : List ModelNode
  pub made : List Assertion
  pub written : List Placed
  pub tables : List ℕ
  pub place : Place
  pub waiting : State
  pub keyed : Value → List Assertion

pub record IsBefore (b : Before) : Type 0 where
  pub enters_at : (v : Value) (span : Span)
      → Enters b.models (b.made ++ b.keyed v) (b.written ++ (b.place, span) ∷ []) b.tables b.place
      (value_added_at b.waiting (shape_of_value v) (Some span))
  pub vacant_at : (v : Value) → IsClear (b.made ++ b.keyed v) → kind_at b.made b.place ≡ None
  pub low : (v : Value) → kind_at (b.keyed v) (at b.place (index 0)) ≡ None
  pub has_leaf : (v : Value) → HasLeaf b.place v (b.keyed v)
  pub stands : Stands b.made b.written b.models
  pub inner : b.place ≡ [] → ⊥
  pub deep : (j : ℕ) → is_dotted_within (length (b.tables ++ j ∷ [])) Dotted ≡ true

unwritten_at : (b : Before) (v : Value) → IsBefore b → IsClear (b.made ++ b.keyed v)
    → span_at b.written b.place ≡ None
unwritten_at b v h clear = go (span_at b.written b.place) refl
  where
    go : (o : Option Span) → span_at b.written b.place ≡ o → span_at b.written b.place ≡ None
    go None e = e
    go (Some s) e = let k = h.stands.spans b.place s e in
        absurd (let clash : None ≡ Some k.0 = sym (h.vacant_at v clear) ∙ k.1 in cc)

-- nothing stands below the value yet
pub bare_at : (b : Before) (v : Value) → IsBefore b → IsClear (b.made ++ b.keyed v)
    → kind_at (b.made ++ b.keyed v) (at b.place (index 0)) ≡ None
bare_at b v h clear = kind_append b.made (b.keyed v) (at b.place (index 0))
    (nothing_under b.made b.written b.models b.place (index 0) h.stands h.inner (h.vacant_at v clear)) ∙
    h.low v

-- what the value asserts
abbrev pub made_by : Before → Value → List Assertion
made_by b v = b.made ++ (b.keyed v ++ of_value b.place v)

abbrev pub written_by : Before → Value → List ℕ → List Placed
written_by b v rest = b.written ++ spans (placed_value b.place v rest ∷ inside b.place v rest)

abbrev pub LeadsBy : Before → Value → List ℕ → Option State → Type 0
LeadsBy b v rest r = Leads b.models (made_by b v) (written_by b v rest) b.tables r

pub scalar_leads : (bytes : List ℕ) (mk : SyntaxToken) (b : Before) (v : Value) (rest : List ℕ)
    → IsStep bytes mk (shape_of_value v) (span_of v rest) → of_value b.place v ≡ []
    → inside b.place v rest ≡ [] → IsBefore b → LeadsBy b v rest (state_after bytes (mk ∷ []) b.waiting)
scalar_leads bytes mk b v rest act none empty h =
    subst (λ (xs : List Assertion). Leads b.models (b.made ++ (b.keyed v ++ xs))
    (b.written ++ spans (placed_value b.place v rest ∷ inside b.place v rest)) b.tables
    (state_after bytes (mk ∷ []) b.waiting)) (sym none)
    (subst (λ (ws : List PlacedValue). Leads b.models (b.made ++ (b.keyed v ++ []))
    (b.written ++ spans (placed_value b.place v rest ∷ ws)) b.tables (state_after bytes (mk ∷ []) b.waiting)) (sym empty)
    (subst (λ (xs : List Assertion). Leads b.models (b.made ++ xs)
    (b.written ++ (b.place, span_of v rest) ∷ []) b.tables (state_after bytes (mk ∷ []) b.waiting))
    (sym (append-nil (b.keyed v)))
    (go (h.enters_at v (span_of v rest)))))
  where
    path : state_after bytes (mk ∷ []) b.waiting
        ≡ (value_added_at b.waiting (shape_of_value v) (Some (span_of v rest)) >>= λ r. Some r.0)
    path = walked_one bytes mk b.waiting ∙ act b.waiting

    go : Enters b.models (b.made ++ b.keyed v) (b.written ++ (b.place, span_of v rest) ∷ []) b.tables b.place
        (value_added_at b.waiting (shape_of_value v) (Some (span_of v rest)))
        → Leads b.models (b.made ++ b.keyed v) (b.written ++ (b.place, span_of v rest) ∷ []) b.tables
        (state_after bytes (mk ∷ []) b.waiting)
    go (enters now j e s p g) = leads now (path ∙ ap (λ (o : Option (State × ℕ)). o >>= λ r. Some r.0) e) s g
    go (bars e c) = stops (path ∙ ap (λ (o : Option (State × ℕ)). o >>= λ r. Some r.0) e) c

-- ---- arrays and inline tables

pub open_array : (bytes from rest : List ℕ) (st : State)
    → step bytes (token_between kinds.OpenArray from rest) st ≡ value_opened st shapes.listed
    (Some (record { from = length from; to = length rest }))
unfolding step
open_array bytes from rest st = refl

pub close_array : (bytes from rest : List ℕ) (st : State)
    → step bytes (token_between kinds.CloseArray from rest) st ≡ value_closed st (length rest)
unfolding step
close_array bytes from rest st = refl

pub open_table : (bytes from rest : List ℕ) (st : State)
    → step bytes (token_between kinds.OpenTable from rest) st ≡ value_opened st shapes.inline
    (Some (record { from = length from; to = length rest }))
unfolding step
open_table bytes from rest st = refl

pub close_table : (bytes from rest : List ℕ) (st : State)
    → step bytes (token_between kinds.CloseTable from rest) st ≡ value_closed st (length rest)
unfolding step
close_table bytes from rest st = refl

pub deeper : (base : List ℕ) (t j : ℕ) → is_dotted_within (length ((base ++ t ∷ []) ++ j ∷ [])) Dotted ≡ true
deeper base t j =
    let a : length ((base ++ t ∷ []) ++ j ∷ []) ≡ length (base ++ t ∷ []) + 1 =
    length-append (base ++ t ∷ []) (j ∷ []) in
    let b : length (base ++ t ∷ []) ≡ length base + 1 = length-append base (t ∷ []) in
    grind (arith, nat_tests)

-- a value that holds others: its first token opens it, its last token ends it
module _ (bytes : List ℕ) (v : Value) (rest behind : List ℕ) (first_token last_token : SyntaxToken) (tokens : List SyntaxToken)
    (b : Before) (h : IsBefore b)
    (opens : (st : State)
    → step bytes first_token st ≡ value_opened st (shape_of_value v)
    (Some (record { from = length (value v rest); to = length behind })))
    (ends_here : (st : State) → step bytes last_token st ≡ value_closed st (length rest)) where
  abbrev first_span : Span
  first_span = record { from = length (value v rest); to = length behind }

  abbrev keyed_made : List Assertion
  keyed_made = b.made ++ b.keyed v

  abbrev inner : List Assertion
  inner = of_value b.place v

  abbrev inner_spans : List Placed
  inner_spans = spans (inside b.place v rest)

  all_made : keyed_made ++ inner ≡ made_by b v
  all_made = append_assoc b.made (b.keyed v) (of_value b.place v)

  -- its last token follows what it holds
  closing : (now : List ModelNode) (j : ℕ)
      → Stands (b.made ++ b.keyed v)
      (b.written ++ (b.place, record { from = length (value v rest); to = length behind }) ∷ []) now
      → StandsAt now j b.place → Grows b.models now
      → Leads now (keyed_made ++ inner) ((b.written ++ (b.place, first_span) ∷ []) ++ inner_spans)
      (b.tables ++ j ∷ []) (state_after bytes tokens (without_pending now (b.tables ++ j ∷ [])))
      → LeadsBy b v rest (state_after bytes (tokens ++ last_token ∷ []) (without_pending now (b.tables ++ j ∷ [])))
  closing now j st_open there grows (leads later e st g2) =
      let none = unwritten_at b v h st_open.clear in
      let st2 : Stands (keyed_made ++ inner) (b.written ++ (b.place, first_span) ∷ inner_spans) later =
      subst (λ (w : List Placed). Stands (keyed_made ++ inner) w later)
      (append_assoc b.written ((b.place, first_span) ∷ []) inner_spans) st in
      let done = closed_leads b.models later (keyed_made ++ inner) b.written inner_spans b.place first_span
      b.tables j (length rest) st2 none (g2 j b.place there) (grows_then b.models now later grows g2) in
      let path : state_after bytes (tokens ++ last_token ∷ []) (without_pending now (b.tables ++ j ∷ []))
      ≡ value_closed (without_pending later (b.tables ++ j ∷ [])) (length rest) =
      walked_append bytes tokens (last_token ∷ []) (without_pending now (b.tables ++ j ∷ []))
      ∙ ap (λ (o : Option State). o >>= state_after bytes (last_token ∷ [])) e ∙
      walked_one bytes last_token (without_pending later (b.tables ++ j ∷ [])) ∙
      ends_here (without_pending later (b.tables ++ j ∷ [])) in
      subst (λ (xs : List Assertion). Leads b.models xs
      (b.written ++ spans (placed_value b.place v rest ∷ inside b.place v rest)) b.tables
      (state_after bytes (tokens ++ last_token ∷ []) (without_pending now (b.tables ++ j ∷ [])))) all_made
      (leads_along path done)
  closing now j st_open there grows (stops e clash) =
      stops
      (walked_append bytes tokens (last_token ∷ []) (without_pending now (b.tables ++ j ∷ [])) ∙
      ap (λ (o : Option State). o >>= state_after bytes (last_token ∷ [])) e)
      (λ clear. clash (subst IsClear (sym all_made) clear))

  pub holder_leads : ((now : List ModelNode) (j : ℕ)
      → Stands (b.made ++ b.keyed v)
      (b.written ++ (b.place, record { from = length (value v rest); to = length behind }) ∷ []) now
      → StandsAt now j b.place → Grows b.models now
      → Leads now ((b.made ++ b.keyed v) ++ of_value b.place v)
      ((b.written ++ (b.place, record { from = length (value v rest); to = length behind }) ∷ []) ++ spans
      (inside b.place v rest)) (b.tables ++ j ∷ [])
      (state_after bytes tokens (without_pending now (b.tables ++ j ∷ []))))
      → LeadsBy b v rest (state_after bytes (first_token ∷ (tokens ++ last_token ∷ [])) b.waiting)
  holder_leads into = go (h.enters_at v first_span)
    where
      go : Enters b.models (b.made ++ b.keyed v)
          (b.written ++ (b.place, record { from = length (value v rest); to = length behind }) ∷ []) b.tables
          b.place (value_added_at b.waiting (shape_of_value v)
          (Some (record { from = length (value v rest); to = length behind })))
          → LeadsBy b v rest (state_after bytes (first_token ∷ (tokens ++ last_token ∷ [])) b.waiting)
      go (enters now j e st there grows) =
          let first : step bytes first_token b.waiting ≡ Some (without_pending now (b.tables ++ j ∷ [])) =
          opens b.waiting ∙ ap
          (λ (o : Option (State × ℕ)). o >>= λ r. Some (record r.0 { tables = r.0.tables ++ r.1 ∷ [] })) e in
          leads_along (walked_first bytes first_token (tokens ++ last_token ∷ []) b.waiting
          (without_pending now (b.tables ++ j ∷ [])) first)
          (closing now j st there grows (into now j st there grows))
      go (bars e clash) =
          stops
          (walked_stops bytes first_token (tokens ++ last_token ∷ []) b.waiting
          (opens b.waiting ∙ ap
          (λ (o : Option (State × ℕ)). o >>= λ r. Some (record r.0 { tables = r.0.tables ++ r.1 ∷ [] })) e))
          (λ clear. clash (clear_front keyed_made inner (subst IsClear (sym all_made) clear)))
