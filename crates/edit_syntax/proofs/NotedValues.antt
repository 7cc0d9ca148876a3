-- The tokens that the functions for keys and values append.
use Rattle.std.proofs.Common.{◌≡◌, ℕ, suc, true, false, eqb, List, [], ◌∷◌, ◌++◌, length, drop, Some, None, Result, Ok, Err, refl, sym, ap, subst, ◌∙◌, append_assoc, arith}
use Rattle.std.specs.Borrow.{Bor}
use Rattle.std.proofs.lemmas.Bool.Decides.{nat_tests}
use Rattle.std.specs.Global.{Vec}
use Rattle.edit_syntax.specs.declared.read.syntax_tokens.SyntaxToken.{SyntaxToken}
use Rattle.edit_syntax.specs.declared.read.syntax_tokens.TokenKind.TheVariants as kinds
use Rattle.edit_syntax.specs.declared.read.syntax_tokens.ReadError.{ReadError}
use Rattle.edit_syntax.specs.declared.read.syntax_tokens.ReadError.TheVariants.{Memory}
use Rattle.edit_syntax.specs.Characters.{comma, equals, left_bracket, left_brace, right_brace}
use Rattle.edit_syntax.specs.Strings.{Key, key}
use Rattle.edit_syntax.specs.Grammar.{gap, Value, inline, Members, no_members, last_member, member, value, members}
use Rattle.edit_syntax.specs.Reading.{◌>>=◌, Read, first, blanks, past_blanks, past, key_at, Pair, pair_at, members_at, value_at, gap_front, past_gap}
use Rattle.edit_syntax.specs.SyntaxTokens.{token_between, tokens_of_key, tokens_of_value, tokens_of_members}
use Rattle.edit_syntax.specs.AppendedTokens.{AppendsTokens, tokens_of_pair, tokens_of_inline_table}
use Rattle.edit_syntax.proofs.TokenLaws.{first_is, past_some}
use Rattle.edit_syntax.proofs.GapLaws.{front_parts}
use Rattle.edit_syntax.proofs.ValueLaws.{members_sound, value_sound}
use Rattle.edit_syntax.proofs.ScalarLaws.{blank_parts, Sound}

-- ---- pairs

pair_tail : (n : ℕ) (read : List ℕ → Read Value) (key_end rest after : List ℕ) (v : Value) → Sound n read
    → Some rest ≡ past equals (past_blanks key_end) → read (past_blanks rest) ≡ Some (v, after)
    → key_end ≡ blanks key_end ++ (equals ∷ (blanks rest ++ value v after))
pair_tail n read key_end rest after v sound eq e =
    let one = blank_parts rest (value v after) (sound (past_blanks rest) (v, after) e).0 in
    blank_parts key_end (equals ∷ (blanks rest ++ value v after))
    (past_some equals _ rest (omega arith) (sym eq) ∙ ap (λ (r : List ℕ). equals ∷ r) one)

pair_here : (read : List ℕ → Read Value) (text key_end rest after : List ℕ) (k : Key) (v : Value)
    → key_at text ≡ Some (k, key_end) → Some rest ≡ past equals (past_blanks key_end)
    → read (past_blanks rest) ≡ Some (v, after)
    → pair_at read text ≡ Some
    (record { key = k; before = blanks key_end; behind = blanks rest; value = v }, after)
unfolding pair_at
pair_here read text key_end rest after k v key eq e = rw (key, ← eq, e) refl

pair_stops : (read : List ℕ → Read Value) (text key_end rest : List ℕ) (k : Key)
    → key_at text ≡ Some (k, key_end) → Some rest ≡ past equals (past_blanks key_end)
    → read (past_blanks rest) ≡ None → pair_at read text ≡ None
unfolding pair_at
pair_stops read text key_end rest k key eq e = rw (key, ← eq, e) refl

pub pair_unsigned : (read : List ℕ → Read Value) (text key_end : List ℕ) (k : Key)
    → key_at text ≡ Some (k, key_end) → None ≡ past equals (past_blanks key_end) → pair_at read text ≡ None
unfolding pair_at
pair_unsigned read text key_end k key eq = rw (key, ← eq) refl

pub pair_keyless : (read : List ℕ → Read Value) (text : List ℕ) → key_at text ≡ None
    → pair_at read text ≡ None
unfolding pair_at
pair_keyless read text key = rw key refl

pub pair_noted : (n : ℕ) (read : List ℕ → Read Value) → Sound n read
    → (old mid new : Vec SyntaxToken) (text key_end rest : List ℕ) (k : Key) (r : Result (Bor (List ℕ)) ReadError)
    → key_at text ≡ Some (k, key_end)
    → mid.items ≡ old.items ++ tokens_of_key k key_end → Some rest ≡ past equals (past_blanks key_end)
    → AppendsTokens tokens_of_value mid new r (read (past_blanks rest))
    → AppendsTokens tokens_of_pair old new r (pair_at read text)
pair_noted n read sound old mid new text key_end rest k (Ok after) key noted eq h =
    let v = h.0 in
    let p : Pair = record { key = k; before = blanks key_end; behind = blanks rest; value = v } in
    let tail = pair_tail n read key_end rest after.now v sound eq h.1 in
    let same : tokens_of_key k key_end
    ≡ tokens_of_key k (blanks key_end ++ (equals ∷ (blanks rest ++ value v after.now))) = ap (tokens_of_key k) tail
    in (
      p,
      pair_here read text key_end rest after.now k v key eq h.1,
      h.2 ∙
          ap (λ (m : List SyntaxToken). m ++ tokens_of_value v after.now)
          (noted ∙ ap (λ (m : List SyntaxToken). old.items ++ m) same) ∙
          append_assoc old.items _ (tokens_of_value v after.now),
    )
pair_noted n read sound old mid new text key_end rest k (Err e) key noted eq h =
    λ other. pair_stops read text key_end rest k key eq (h other)

-- the exit of a key that was not read
pub pair_failed : (read : List ℕ → Read Value) (text : List ℕ) (old new : Vec SyntaxToken) (e e2 : ReadError)
    (r : Result (Bor (List ℕ)) ReadError) → r ≡ Err e2 → e2 ≡ e
    → ((e ≡ Memory → ⊥) → key_at text ≡ None) → AppendsTokens tokens_of_pair old new r (pair_at read text)
pair_failed read text old new e e2 r was same h =
    subst (λ (x : Result (Bor (List ℕ)) ReadError). AppendsTokens tokens_of_pair old new x (pair_at read text)) (sym was)
    (λ other. pair_keyless read text (h (λ m. other (same ∙ m))))

-- ---- members

-- a member before others
abbrev pub made : Pair → List ℕ → Members → Members
made p r ms = member p.key p.before p.behind p.value (gap_front r) (gap_front (drop 1 (past_gap r))) ms

members_more : (read : List ℕ → Read Value) (count : ℕ) (text r : List ℕ) (p : Pair)
    → eqb (first text) right_brace ≡ false → pair_at read text ≡ Some (p, r)
    → eqb (first (past_gap r)) comma ≡ true
    → members_at read (suc count) text
    ≡ (members_at read count (past_gap (drop 1 (past_gap r))) >>= λ ms. Some (made p r ms.0, ms.1))
unfolding members_at
members_more read count text r p unclosed e sign = rw (unclosed, e, sign) refl

made_tokens : (n : ℕ) (read : List ℕ → Read Value) → Sound n read
    → (count : ℕ) (r : List ℕ) (p : Pair) (ms : Members) (after : List ℕ)
    → eqb (first (past_gap r)) comma ≡ true
    → members_at read count (past_gap (drop 1 (past_gap r))) ≡ Some (ms, after)
    → tokens_of_inline_table (made p r ms) after ≡ tokens_of_pair p r ++ tokens_of_inline_table ms after
made_tokens n read sound count r p ms after sign e =
    let next = drop 1 (past_gap r) in
    let more = members ms (right_brace ∷ after) in
    let others = members_sound n read sound count (past_gap next) (ms, after) e in
    let tail = comma ∷ gap (gap_front next) more in
    let two : next ≡ gap (gap_front next) more = front_parts next more others.0 in
    let whole : r ≡ gap (gap_front r) tail = front_parts r tail
    (first_is comma (past_gap r) (omega arith) sign ∙ ap (λ (t : List ℕ). comma ∷ t) two) in
    let close = token_between kinds.CloseTable (right_brace ∷ after) after ∷ [] in
    let one : tokens_of_inline_table (made p r ms) after
    ≡ (tokens_of_pair p (gap (gap_front r) tail) ++ tokens_of_members ms (right_brace ∷ after)) ++ close = refl in
    one ∙ append_assoc (tokens_of_pair p (gap (gap_front r) tail))
    (tokens_of_members ms (right_brace ∷ after)) close ∙
    ap (λ (t : List ℕ). tokens_of_pair p t ++ tokens_of_inline_table ms after) (sym whole)

-- whatever is read from here on, after these tokens, completes what is read from the start after the old
-- ones
pub record Completes (read : List ℕ → Read Value) (total : Read Members) (count : ℕ) (text : List ℕ)
    (old out : List SyntaxToken) : Type 0 where
  pub some : (x : Members × List ℕ) → members_at read count text ≡ Some x → (ms : Members)
      × (total ≡ Some (ms, x.1)) × (out ++ tokens_of_inline_table x.0 x.1 ≡ old ++ tokens_of_inline_table ms x.1)
  pub none : members_at read count text ≡ None → total ≡ None

pub members_turn : (n : ℕ) (read : List ℕ → Read Value) → Sound n read
    → (total : Read Members) (count : ℕ) (text r : List ℕ) (p : Pair) (old out new : List SyntaxToken)
    → eqb (first text) right_brace ≡ false → pair_at read text ≡ Some (p, r)
    → eqb (first (past_gap r)) comma ≡ true → new ≡ out ++ tokens_of_pair p r
    → Completes read total (suc count) text old out
    → Completes read total count (past_gap (drop 1 (past_gap r))) old new
members_turn n read sound total count text r p old out new unclosed e sign noted before =
    let step = members_more read count text r p unclosed e sign in
    record {
      some = λ x h.
          let here : members_at read (suc count) text ≡ Some (made p r x.0, x.1) = step ∙ rw h refl in
          let b = before.some (made p r x.0, x.1) here in (
            b.0,
            b.1,
            ap (λ (m : List SyntaxToken). m ++ tokens_of_inline_table x.0 x.1) noted ∙
                append_assoc out (tokens_of_pair p r) (tokens_of_inline_table x.0 x.1) ∙
                ap (λ (m : List SyntaxToken). out ++ m) (sym (made_tokens n read sound count r p x.0 x.1 sign h)) ∙
                b.2,
          );
      none = λ h. before.none (step ∙ rw h refl);
    }

members_over : (read : List ℕ → Read Value) (count : ℕ) (text r : List ℕ) (p : Pair)
    → eqb (first text) right_brace ≡ false → pair_at read text ≡ Some (p, r)
    → eqb (first (past_gap r)) comma ≡ false
    → members_at read (suc count) text
    ≡ (past right_brace (past_gap r) >>= λ rest. Some
    (last_member p.key p.before p.behind p.value (gap_front r), rest))
unfolding members_at
members_over read count text r p unclosed e sign = rw (unclosed, e, sign) refl

members_closed : (read : List ℕ → Read Value) (count : ℕ) (text : List ℕ)
    → eqb (first text) right_brace ≡ true → members_at read (suc count) text ≡ Some (no_members, drop 1 text)
unfolding members_at
members_closed read count text closed = rw closed refl

-- the closing brace stands where a member may
pub members_end : (read : List ℕ → Read Value) (total : Read Members) (count : ℕ) (text : List ℕ)
    (old out new : List SyntaxToken) → eqb (first text) right_brace ≡ true
    → new ≡ out ++ (token_between kinds.CloseTable text (drop 1 text) ∷ [])
    → Completes read total (suc count) text old out → (ms : Members) × (total ≡ Some (ms, drop 1 text))
    × (new ≡ old ++ tokens_of_inline_table ms (drop 1 text))
members_end read total count text old out new closed ended before =
    let b = before.some (no_members, drop 1 text) (members_closed read count text closed) in
    let brace : text ≡ right_brace ∷ drop 1 text = first_is right_brace text (omega arith) closed in
    (b.0, b.1, ended ∙ ap (λ (t : List ℕ). out ++ (token_between kinds.CloseTable t (drop 1 text) ∷ [])) brace ∙ b.2)

-- the closing brace stands behind a member
pub members_done : (read : List ℕ → Read Value) (total : Read Members) (count : ℕ) (text r after : List ℕ)
    (p : Pair) (old out mid new : List SyntaxToken) → eqb (first text) right_brace ≡ false
    → pair_at read text ≡ Some (p, r) → eqb (first (past_gap r)) comma ≡ false
    → Some after ≡ past right_brace (past_gap r) → mid ≡ out ++ tokens_of_pair p r
    → new ≡ mid ++ (token_between kinds.CloseTable (past_gap r) after ∷ [])
    → Completes read total (suc count) text old out
    → (ms : Members) × (total ≡ Some (ms, after)) × (new ≡ old ++ tokens_of_inline_table ms after)
members_done read total count text r after p old out mid new unclosed e sign closed noted ended before =
    let c = gap_front r in
    let m = last_member p.key p.before p.behind p.value c in
    let here : members_at read (suc count) text ≡ Some (m, after) =
    members_over read count text r p unclosed e sign ∙ rw (← closed) refl in
    let b = before.some (m, after) here in
    let brace : past_gap r ≡ right_brace ∷ after = past_some right_brace (past_gap r) after (omega arith)
    (sym closed) in
    let whole : r ≡ gap c (right_brace ∷ after) = front_parts r (right_brace ∷ after) brace in
    let close = token_between kinds.CloseTable (right_brace ∷ after) after ∷ [] in
    let one : tokens_of_inline_table m after ≡ tokens_of_pair p (gap c (right_brace ∷ after)) ++ close = refl in
    let all : tokens_of_inline_table m after ≡ tokens_of_pair p r ++ (token_between kinds.CloseTable (past_gap r) after ∷ []) =
    one ∙ ap (λ (t : List ℕ). tokens_of_pair p t ++ close) (sym whole) ∙
    ap (λ (t : List ℕ). tokens_of_pair p r ++ (token_between kinds.CloseTable t after ∷ [])) (sym brace) in (
      b.0,
      b.1,
      ended ∙ ap (λ (t : List SyntaxToken). t ++ (token_between kinds.CloseTable (past_gap r) after ∷ [])) noted ∙
          append_assoc out (tokens_of_pair p r) (token_between kinds.CloseTable (past_gap r) after ∷ []) ∙
          ap (λ (t : List SyntaxToken). out ++ t) (sym all) ∙ b.2,
    )

pub members_refused : (read : List ℕ → Read Value) (total : Read Members) (count : ℕ) (text r : List ℕ)
    (p : Pair) (old out : List SyntaxToken) → eqb (first text) right_brace ≡ false → pair_at read text ≡ Some (p, r)
    → eqb (first (past_gap r)) comma ≡ false
    → None ≡ past right_brace (past_gap r) → Completes read total (suc count) text old out → total ≡ None
members_refused read total count text r p old out unclosed e sign closed before =
    before.none (members_over read count text r p unclosed e sign ∙ rw (← closed) refl)

members_fail : (read : List ℕ → Read Value) (total : Read Members) (count : ℕ) (text : List ℕ)
    (old out : List SyntaxToken) → eqb (first text) right_brace ≡ false → pair_at read text ≡ None
    → Completes read total (suc count) text old out → total ≡ None
unfolding members_at
members_fail read total count text old out unclosed e before = before.none (rw (unclosed, e) refl)

pub members_none : (read : List ℕ → Read Value) (text : List ℕ) → members_at read 0 text ≡ None
unfolding members_at
members_none read text = refl

-- the exit of a pair that was not read
pub members_failed : (read : List ℕ → Read Value) (total : Read Members) (count : ℕ) (text : List ℕ)
    (old new : Vec SyntaxToken) (out : List SyntaxToken) (e e2 : ReadError) (r : Result (Bor (List ℕ)) ReadError)
    → r ≡ Err e2 → e2 ≡ e → eqb (first text) right_brace ≡ false
    → ((e ≡ Memory → ⊥) → pair_at read text ≡ None) → Completes read total (suc count) text old.items out
    → AppendsTokens tokens_of_inline_table old new r total
members_failed read total count text old new out e e2 r was same unclosed h before =
    subst (λ (x : Result (Bor (List ℕ)) ReadError). AppendsTokens tokens_of_inline_table old new x total) (sym was)
    (λ other. members_fail read total count text old.items out unclosed (h (λ m. other (same ∙ m))) before)

-- ---- inline tables

brace_no_bracket : (b : ℕ) → eqb b left_brace ≡ true → eqb b left_bracket ≡ false
brace_no_bracket b h = grind (arith, nat_tests)

pub inline_noted : (n : ℕ) (old mid new : Vec SyntaxToken) (text : List ℕ) (r : Result (Bor (List ℕ)) ReadError)
    → eqb (first text) left_brace ≡ true
    → mid.items ≡ old.items ++ (token_between kinds.OpenTable text (drop 1 text) ∷ [])
    → AppendsTokens tokens_of_inline_table mid new r (members_at (value_at n) (length text) (past_gap (drop 1 text)))
    → AppendsTokens tokens_of_value old new r (value_at (suc n) text)
unfolding value_at
inline_noted n old mid new text (Ok after) opened noted h =
    let inner = drop 1 text in
    let g = gap_front inner in
    let v = inline g h.0 in
    let more = members h.0 (right_brace ∷ after.now) in
    let here : value_at (suc n) text ≡ Some (v, after.now) =
    rw (brace_no_bracket (first text) opened, opened, h.1) refl in
    let sound = value_sound (suc n) text (v, after.now) here in
    let ms = members_sound n (value_at n) (value_sound n) (length text) (past_gap inner)
    (h.0, after.now) h.1 in
    let tail : inner ≡ gap g more = front_parts inner more ms.0 in
    let same : token_between kinds.OpenTable text inner ≡ token_between kinds.OpenTable (value v after.now) (gap g more) =
    ap (λ (t : List ℕ). token_between kinds.OpenTable t inner) sound.0 ∙
    ap (λ (t : List ℕ). token_between kinds.OpenTable (value v after.now) t) tail in (
      v,
      here,
      h.2 ∙ ap (λ (m : List SyntaxToken). m ++ tokens_of_inline_table h.0 after.now)
          (noted ∙ ap (λ (m : SyntaxToken). old.items ++ (m ∷ [])) same) ∙
          append_assoc old.items _ (tokens_of_inline_table h.0 after.now),
    )
inline_noted n old mid new text (Err e) opened noted h =
    λ refused. rw (brace_no_bracket (first text) opened, opened, h refused) refl
