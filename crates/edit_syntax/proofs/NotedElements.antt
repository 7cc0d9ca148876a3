-- The tokens that the functions for arrays append.
use Rattle.std.proofs.Common.{◌≡◌, ℕ, suc, true, false, eqb, List, [], ◌∷◌, ◌++◌, length, drop, Some, None, Result, Ok, Err, refl, sym, ap, subst, ◌∙◌, append_assoc, arith}
use Rattle.std.specs.Borrow.{Bor}
use Rattle.std.specs.Global.{Vec}
use Rattle.edit_syntax.specs.declared.read.syntax_tokens.SyntaxToken.{SyntaxToken}
use Rattle.edit_syntax.specs.declared.read.syntax_tokens.TokenKind.TheVariants as kinds
use Rattle.edit_syntax.specs.declared.read.syntax_tokens.ReadError.{ReadError}
use Rattle.edit_syntax.specs.declared.read.syntax_tokens.ReadError.TheVariants.{Memory}
use Rattle.edit_syntax.specs.Characters.{comma, left_bracket, right_bracket}
use Rattle.edit_syntax.specs.Grammar.{gap, Value, array, Elements, no_elements, last_element, element, value, elements}
use Rattle.edit_syntax.specs.Reading.{◌>>=◌, Read, first, gap_front, past_gap, past, elements_at, value_at}
use Rattle.edit_syntax.specs.SyntaxTokens.{token_between, tokens_of_value, tokens_of_elements}
use Rattle.edit_syntax.specs.AppendedTokens.{AppendsTokens, tokens_of_array}
use Rattle.edit_syntax.proofs.TokenLaws.{first_is, past_some}
use Rattle.edit_syntax.proofs.ValueLaws.{elements_sound, value_sound}
use Rattle.edit_syntax.proofs.ScalarLaws.{Sound}
use Rattle.edit_syntax.proofs.GapLaws.{front_parts}

-- whatever is read from here on, after these tokens, completes what is read from the start after the old
-- ones
pub record Fills (read : List ℕ → Read Value) (total : Read Elements) (count : ℕ) (text : List ℕ)
    (old out : List SyntaxToken) : Type 0 where
  pub some : (x : Elements × List ℕ) → elements_at read count text ≡ Some x → (es : Elements)
      × (total ≡ Some (es, x.1)) × (out ++ tokens_of_array x.0 x.1 ≡ old ++ tokens_of_array es x.1)
  pub none : elements_at read count text ≡ None → total ≡ None

-- an element before others
abbrev pub put : Value → List ℕ → Elements → Elements
put v r es = element v (gap_front r) (gap_front (drop 1 (past_gap r))) es

elements_more : (read : List ℕ → Read Value) (count : ℕ) (text r : List ℕ) (v : Value)
    → eqb (first text) right_bracket ≡ false → read text ≡ Some (v, r) → eqb (first (past_gap r)) comma ≡ true
    → elements_at read (suc count) text
    ≡ (elements_at read count (past_gap (drop 1 (past_gap r))) >>= λ es. Some (put v r es.0, es.1))
unfolding elements_at
elements_more read count text r v unclosed e sign = rw (unclosed, e, sign) refl

put_tokens : (n : ℕ) (read : List ℕ → Read Value) → Sound n read
    → (count : ℕ) (r : List ℕ) (v : Value) (es : Elements) (after : List ℕ)
    → eqb (first (past_gap r)) comma ≡ true
    → elements_at read count (past_gap (drop 1 (past_gap r))) ≡ Some (es, after)
    → tokens_of_array (put v r es) after ≡ tokens_of_value v r ++ tokens_of_array es after
put_tokens n read sound count r v es after sign e =
    let next = drop 1 (past_gap r) in
    let more = elements es (right_bracket ∷ after) in
    let others = elements_sound n read sound count (past_gap next) (es, after) e in
    let tail = comma ∷ gap (gap_front next) more in
    let two : next ≡ gap (gap_front next) more = front_parts next more others.0 in
    let whole : r ≡ gap (gap_front r) tail = front_parts r tail
    (first_is comma (past_gap r) (omega arith) sign ∙ ap (λ (t : List ℕ). comma ∷ t) two) in
    let close = token_between kinds.CloseArray (right_bracket ∷ after) after ∷ [] in
    let one : tokens_of_array (put v r es) after
    ≡ (tokens_of_value v (gap (gap_front r) tail) ++ tokens_of_elements es (right_bracket ∷ after)) ++ close = refl in
    one ∙ append_assoc (tokens_of_value v (gap (gap_front r) tail))
    (tokens_of_elements es (right_bracket ∷ after)) close ∙
    ap (λ (t : List ℕ). tokens_of_value v t ++ tokens_of_array es after) (sym whole)

pub elements_turn : (n : ℕ) (read : List ℕ → Read Value) → Sound n read
    → (total : Read Elements) (count : ℕ) (text r : List ℕ) (v : Value) (old out new : List SyntaxToken)
    → eqb (first text) right_bracket ≡ false → read text ≡ Some (v, r) → eqb (first (past_gap r)) comma ≡ true
    → new ≡ out ++ tokens_of_value v r → Fills read total (suc count) text old out
    → Fills read total count (past_gap (drop 1 (past_gap r))) old new
elements_turn n read sound total count text r v old out new unclosed e sign noted before =
    let step = elements_more read count text r v unclosed e sign in
    record {
      some = λ x h.
          let here : elements_at read (suc count) text ≡ Some (put v r x.0, x.1) = step ∙ rw h refl in
          let b = before.some (put v r x.0, x.1) here in (
            b.0,
            b.1,
            ap (λ (m : List SyntaxToken). m ++ tokens_of_array x.0 x.1) noted ∙
                append_assoc out (tokens_of_value v r) (tokens_of_array x.0 x.1) ∙
                ap (λ (m : List SyntaxToken). out ++ m) (sym (put_tokens n read sound count r v x.0 x.1 sign h)) ∙
                b.2,
          );
      none = λ h. before.none (step ∙ rw h refl);
    }

elements_over : (read : List ℕ → Read Value) (count : ℕ) (text r : List ℕ) (v : Value)
    → eqb (first text) right_bracket ≡ false → read text ≡ Some (v, r)
    → eqb (first (past_gap r)) comma ≡ false
    → elements_at read (suc count) text
    ≡ (past right_bracket (past_gap r) >>= λ rest. Some (last_element v (gap_front r), rest))
unfolding elements_at
elements_over read count text r v unclosed e sign = rw (unclosed, e, sign) refl

elements_closed : (read : List ℕ → Read Value) (count : ℕ) (text : List ℕ)
    → eqb (first text) right_bracket ≡ true → elements_at read (suc count) text
    ≡ Some (no_elements, drop 1 text)
unfolding elements_at
elements_closed read count text closed = rw closed refl

-- the closing bracket stands where an element may
pub elements_end : (read : List ℕ → Read Value) (total : Read Elements) (count : ℕ) (text : List ℕ)
    (old out new : List SyntaxToken) → eqb (first text) right_bracket ≡ true
    → new ≡ out ++ (token_between kinds.CloseArray text (drop 1 text) ∷ [])
    → Fills read total (suc count) text old out → (es : Elements) × (total ≡ Some (es, drop 1 text))
    × (new ≡ old ++ tokens_of_array es (drop 1 text))
elements_end read total count text old out new closed ended before =
    let b = before.some (no_elements, drop 1 text) (elements_closed read count text closed) in
    let bracket : text ≡ right_bracket ∷ drop 1 text = first_is right_bracket text (omega arith) closed in
    (b.0, b.1, ended ∙ ap (λ (t : List ℕ). out ++ (token_between kinds.CloseArray t (drop 1 text) ∷ [])) bracket ∙ b.2)

-- the closing bracket stands behind an element
pub elements_done : (read : List ℕ → Read Value) (total : Read Elements) (count : ℕ) (text r after : List ℕ)
    (v : Value) (old out mid new : List SyntaxToken) → eqb (first text) right_bracket ≡ false
    → read text ≡ Some (v, r) → eqb (first (past_gap r)) comma ≡ false
    → Some after ≡ past right_bracket (past_gap r) → mid ≡ out ++ tokens_of_value v r
    → new ≡ mid ++ (token_between kinds.CloseArray (past_gap r) after ∷ [])
    → Fills read total (suc count) text old out
    → (es : Elements) × (total ≡ Some (es, after)) × (new ≡ old ++ tokens_of_array es after)
elements_done read total count text r after v old out mid new unclosed e sign closed noted ended before =
    let g = gap_front r in
    let m = last_element v g in
    let here : elements_at read (suc count) text ≡ Some (m, after) =
    elements_over read count text r v unclosed e sign ∙ rw (← closed) refl in
    let b = before.some (m, after) here in
    let bracket : past_gap r ≡ right_bracket ∷ after = past_some right_bracket (past_gap r) after
    (omega arith) (sym closed) in
    let whole : r ≡ gap g (right_bracket ∷ after) = front_parts r (right_bracket ∷ after) bracket in
    let close = token_between kinds.CloseArray (right_bracket ∷ after) after ∷ [] in
    let one : tokens_of_array m after ≡ tokens_of_value v (gap g (right_bracket ∷ after)) ++ close = refl in
    let all : tokens_of_array m after ≡ tokens_of_value v r ++ (token_between kinds.CloseArray (past_gap r) after ∷ []) =
    one ∙ ap (λ (t : List ℕ). tokens_of_value v t ++ close) (sym whole) ∙
    ap (λ (t : List ℕ). tokens_of_value v r ++ (token_between kinds.CloseArray t after ∷ [])) (sym bracket) in (
      b.0,
      b.1,
      ended ∙ ap (λ (t : List SyntaxToken). t ++ (token_between kinds.CloseArray (past_gap r) after ∷ [])) noted ∙
          append_assoc out (tokens_of_value v r) (token_between kinds.CloseArray (past_gap r) after ∷ []) ∙
          ap (λ (t : List SyntaxToken). out ++ t) (sym all) ∙ b.2,
    )

pub elements_refused : (read : List ℕ → Read Value) (total : Read Elements) (count : ℕ) (text r : List ℕ)
    (v : Value) (old out : List SyntaxToken) → eqb (first text) right_bracket ≡ false → read text ≡ Some (v, r)
    → eqb (first (past_gap r)) comma ≡ false
    → None ≡ past right_bracket (past_gap r) → Fills read total (suc count) text old out → total ≡ None
elements_refused read total count text r v old out unclosed e sign closed before =
    before.none (elements_over read count text r v unclosed e sign ∙ rw (← closed) refl)

elements_fail : (read : List ℕ → Read Value) (total : Read Elements) (count : ℕ) (text : List ℕ)
    (old out : List SyntaxToken) → eqb (first text) right_bracket ≡ false → read text ≡ None
    → Fills read total (suc count) text old out → total ≡ None
unfolding elements_at
elements_fail read total count text old out unclosed e before = before.none (rw (unclosed, e) refl)

pub elements_none : (read : List ℕ → Read Value) (text : List ℕ) → elements_at read 0 text ≡ None
unfolding elements_at
elements_none read text = refl

-- the exit of an element that was not read
pub elements_failed : (read : List ℕ → Read Value) (total : Read Elements) (count : ℕ) (text : List ℕ)
    (old new : Vec SyntaxToken) (out : List SyntaxToken) (e e2 : ReadError) (r : Result (Bor (List ℕ)) ReadError)
    → r ≡ Err e2 → e2 ≡ e → eqb (first text) right_bracket ≡ false
    → ((e ≡ Memory → ⊥) → read text ≡ None) → Fills read total (suc count) text old.items out
    → AppendsTokens tokens_of_array old new r total
elements_failed read total count text old new out e e2 r was same unclosed h before =
    subst (λ (x : Result (Bor (List ℕ)) ReadError). AppendsTokens tokens_of_array old new x total) (sym was)
    (λ other. elements_fail read total count text old.items out unclosed (h (λ m. other (same ∙ m))) before)

-- ---- arrays

pub array_noted : (n : ℕ) (old mid new : Vec SyntaxToken) (text : List ℕ) (r : Result (Bor (List ℕ)) ReadError)
    → eqb (first text) left_bracket ≡ true
    → mid.items ≡ old.items ++ (token_between kinds.OpenArray text (drop 1 text) ∷ [])
    → AppendsTokens tokens_of_array mid new r (elements_at (value_at n) (length text) (past_gap (drop 1 text)))
    → AppendsTokens tokens_of_value old new r (value_at (suc n) text)
unfolding value_at
array_noted n old mid new text (Ok after) opened noted h =
    let inner = drop 1 text in
    let g = gap_front inner in
    let v = array g h.0 in
    let more = elements h.0 (right_bracket ∷ after.now) in
    let here : value_at (suc n) text ≡ Some (v, after.now) = rw (opened, h.1) refl in
    let sound = value_sound (suc n) text (v, after.now) here in
    let es = elements_sound n (value_at n) (value_sound n) (length text) (past_gap inner)
    (h.0, after.now) h.1 in
    let tail : inner ≡ gap g more = front_parts inner more es.0 in
    let same : token_between kinds.OpenArray text inner ≡ token_between kinds.OpenArray (value v after.now) (gap g more) =
    ap (λ (t : List ℕ). token_between kinds.OpenArray t inner) sound.0 ∙
    ap (λ (t : List ℕ). token_between kinds.OpenArray (value v after.now) t) tail in (
      v,
      here,
      h.2 ∙ ap (λ (m : List SyntaxToken). m ++ tokens_of_array h.0 after.now)
          (noted ∙ ap (λ (m : SyntaxToken). old.items ++ (m ∷ [])) same) ∙
          append_assoc old.items _ (tokens_of_array h.0 after.now),
    )
array_noted n old mid new text (Err e) opened noted h = λ refused. rw (opened, h refused) refl
