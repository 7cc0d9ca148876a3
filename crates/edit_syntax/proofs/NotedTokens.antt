-- The tokens that the functions for single tokens and keys append.
use Rattle.std.proofs.Common.{◌≡◌, ℕ, suc, true, false, eqb, List, [], ◌∷◌, ◌++◌, length, drop, Some, None, Result, Err, refl, sym, ap, subst, ◌∙◌, append_assoc, append-nil, arith}
use Rattle.std.specs.Borrow.{Bor}
use Rattle.std.specs.Global.{Vec}
use Rattle.edit_syntax.specs.declared.read.syntax_tokens.SyntaxToken.{SyntaxToken}
use Rattle.edit_syntax.specs.declared.read.syntax_tokens.TokenKind.{TokenKind}
use Rattle.edit_syntax.specs.declared.read.syntax_tokens.ReadError.{ReadError}
use Rattle.edit_syntax.specs.declared.read.syntax_tokens.ReadError.TheVariants.{Memory}
use Rattle.edit_syntax.specs.Strings.{Part, part, Dotted, dotted, Key}
use Rattle.edit_syntax.specs.Grammar.{Value, basic, literal, multi_basic, multi_literal, boolean, integer, float, datetime, array, inline, value}
use Rattle.edit_syntax.specs.Depth.{depth}
use Rattle.edit_syntax.specs.Reading.{◌>>=◌, Read, first, blanks, past_blanks, part_at, dotted_at, key_at, scalar_at}
use Rattle.edit_syntax.specs.SyntaxTokens.{token_between, part_kind, token_of_part, tokens_of_dotted, tokens_of_key, tokens_of_value}
use Rattle.edit_syntax.specs.AppendedTokens.{AppendsTokens, value_kind, parsed_token}
use Rattle.edit_syntax.proofs.TokenLaws.{some_is}
use Rattle.edit_syntax.proofs.KeyLaws.{part_sound, dotted_sound}
use Rattle.edit_syntax.proofs.ScalarLaws.{scalar_sound}
use Rattle.edit_syntax.proofs.Loops.{rest_of}

pub mapped : {A : Type 0} (read : Read A) (after : List ℕ) → Some after ≡ rest_of read → (x : A)
    × (read ≡ Some (x, after))
mapped (Some x) after e = let same : after ≡ x.1 = cc in (x.0, rw same refl)
mapped None after e = absurd cc

pub unmapped : {A : Type 0} (read : Read A) → None ≡ rest_of read → read ≡ None
unmapped (Some x) e = absurd cc
unmapped None e = refl

-- ---- tokens

token_back : {A : Type 0} (kind : A → TokenKind) (k : TokenKind) (rest : List ℕ) (read : Read A)
    → Some (k, rest) ≡ parsed_token kind read → (v : A) × (read ≡ Some (v, rest)) × (k ≡ kind v)
token_back kind k rest (Some x) e =
    let pairs = some_is (k, rest) (kind x.0, x.1) e in
    let b : rest ≡ x.1 = ap (λ (p : TokenKind × List ℕ). p.1) pairs in
    (x.0, ap (λ (r : List ℕ). Some (x.0, r)) (sym b), ap (λ (p : TokenKind × List ℕ). p.0) pairs)
token_back kind k rest None e = absurd cc

-- the token that was recorded is that of its form
same_token : (j k : TokenKind) (a b rest : List ℕ) → j ≡ k → a ≡ b
    → token_between j a rest ≡ token_between k b rest
same_token j k a b rest e f = rw (e, f) refl

pub part_noted : (old new : List SyntaxToken) (k : TokenKind) (text rest : List ℕ)
    → Some (k, rest) ≡ parsed_token part_kind (part_at text) → new ≡ old ++ (token_between k text rest ∷ [])
    → (x : Part) × (part_at text ≡ Some (x, rest)) × (new ≡ old ++ (token_of_part x rest ∷ []))
part_noted old new k text rest parsed noted =
    let v = token_back part_kind k rest (part_at text) parsed in
    let sound = part_sound text (v.0, rest) v.1 in (
      v.0,
      v.1,
      noted ∙ ap (λ (m : SyntaxToken). old ++ (m ∷ []))
          (same_token k (part_kind v.0) text (part v.0 rest) rest v.2 sound.0),
    )

-- whatever parts are read from here on complete the key
pub record CompletesKey (total : Read Key) (n : ℕ) (text : List ℕ) (old out : List SyntaxToken) : Type 0 where
  pub some : (x : List Dotted × List ℕ) → dotted_at n text ≡ Some x → (k : Key) × (total ≡ Some (k, x.1))
      × (out ++ tokens_of_dotted x.0 x.1 ≡ old ++ tokens_of_key k x.1)
  pub none : dotted_at n text ≡ None → total ≡ None

key_here : (text rest after : List ℕ) (p : Part) (ds : List Dotted) → part_at text ≡ Some (p, rest)
    → dotted_at (length text) rest ≡ Some (ds, after) → key_at text
    ≡ Some (record { first = p; others = ds }, after)
unfolding key_at
key_here text rest after p ds e f = rw (e, f) refl

key_stops : (text rest : List ℕ) (p : Part) → part_at text ≡ Some (p, rest)
    → dotted_at (length text) rest ≡ None → key_at text ≡ None
unfolding key_at
key_stops text rest p e f = rw (e, f) refl

pub key_partless : (text : List ℕ) → part_at text ≡ None → key_at text ≡ None
unfolding key_at
key_partless text e = rw e refl

-- a part and those behind it
parts_tokens : (old : List SyntaxToken) (n : ℕ) (rest : List ℕ) (p : Part) (x : List Dotted × List ℕ)
    → dotted_at n rest ≡ Some x → (old ++ (token_of_part p rest ∷ [])) ++ tokens_of_dotted x.0 x.1
    ≡ old ++ (token_of_part p (dotted x.0 x.1) ∷ tokens_of_dotted x.0 x.1)
parts_tokens old n rest p x e =
    append_assoc old (token_of_part p rest ∷ []) (tokens_of_dotted x.0 x.1) ∙
    ap (λ (t : List ℕ). old ++ (token_of_part p t ∷ tokens_of_dotted x.0 x.1)) (dotted_sound n rest x e).0

pub key_begins : (old new : List SyntaxToken) (text rest : List ℕ) (p : Part) → part_at text ≡ Some (p, rest)
    → new ≡ old ++ (token_of_part p rest ∷ []) → CompletesKey (key_at text) (length text) rest old new
key_begins old new text rest p e noted = record {
  some = λ x h. (
    record { first = p; others = x.0 },
    key_here text rest x.1 p x.0 e h,
    ap (λ (m : List SyntaxToken). m ++ tokens_of_dotted x.0 x.1) noted ∙ parts_tokens old (length text) rest p x h,
  );
  none = λ h. key_stops text rest p e h;
}

dotted_more : (n : ℕ) (text rest : List ℕ) (p : Part) → eqb (first (past_blanks text)) 46 ≡ true
    → part_at (past_blanks (drop 1 (past_blanks text))) ≡ Some (p, rest)
    → dotted_at (suc n) text
    ≡ (dotted_at n rest >>= λ ds. Some
    (record { before = blanks text; behind = blanks (drop 1 (past_blanks text)); part = p } ∷ ds.0, ds.1))
unfolding dotted_at
dotted_more n text rest p sign e = rw (sign, e) refl

dotted_stops : (n : ℕ) (text : List ℕ) → eqb (first (past_blanks text)) 46 ≡ true
    → part_at (past_blanks (drop 1 (past_blanks text))) ≡ None → dotted_at (suc n) text ≡ None
unfolding dotted_at
dotted_stops n text sign e = rw (sign, e) refl

dotted_over : (n : ℕ) (text : List ℕ) → eqb (first (past_blanks text)) 46 ≡ false
    → dotted_at (suc n) text ≡ Some ([], text)
unfolding dotted_at
dotted_over n text sign = rw sign refl

pub key_turn : (total : Read Key) (n : ℕ) (text rest : List ℕ) (p : Part) (old out new : List SyntaxToken)
    → eqb (first (past_blanks text)) 46 ≡ true → part_at (past_blanks (drop 1 (past_blanks text)))
    ≡ Some (p, rest)
    → new ≡ out ++ (token_of_part p rest ∷ []) → CompletesKey total (suc n) text old out
    → CompletesKey total n rest old new
key_turn total n text rest p old out new sign e noted before =
    let step = dotted_more n text rest p sign e in
    record {
      some = λ x h.
          let ds = record {
            before = blanks text;
            behind = blanks (drop 1 (past_blanks text));
            part = p;
          } ∷ x.0 in
          let b = before.some (ds, x.1) (step ∙ rw h refl) in (
            b.0,
            b.1,
            ap (λ (m : List SyntaxToken). m ++ tokens_of_dotted x.0 x.1) noted ∙ parts_tokens out n rest p x h ∙
                b.2,
          );
      none = λ h. before.none (step ∙ rw h refl);
    }

pub key_done : (total : Read Key) (n : ℕ) (text : List ℕ) (old out : List SyntaxToken)
    → eqb (first (past_blanks text)) 46 ≡ false → CompletesKey total (suc n) text old out
    → (k : Key) × (total ≡ Some (k, text)) × (out ≡ old ++ tokens_of_key k text)
key_done total n text old out sign before =
    let b = before.some ([], text) (dotted_over n text sign) in
    (b.0, b.1, sym (append-nil out) ∙ b.2)

pub key_fail : (total : Read Key) (n : ℕ) (text : List ℕ) (old out : List SyntaxToken)
    → eqb (first (past_blanks text)) 46 ≡ true → part_at (past_blanks (drop 1 (past_blanks text))) ≡ None
    → CompletesKey total (suc n) text old out → total ≡ None
key_fail total n text old out sign e before = before.none (dotted_stops n text sign e)

pub key_none : (total : Read Key) (text : List ℕ) (old out : List SyntaxToken)
    → CompletesKey total 0 text old out
    → total ≡ None
unfolding dotted_at
key_none total text old out before = before.none refl

-- the exits of a part that was not read
pub key_unbegun : (text : List ℕ) (old new : Vec SyntaxToken) (e e2 : ReadError)
    (r : Result (Bor (List ℕ)) ReadError) → r ≡ Err e2 → e2 ≡ e → ((e ≡ Memory → ⊥) → part_at text ≡ None)
    → AppendsTokens tokens_of_key old new r (key_at text)
key_unbegun text old new e e2 r was same h =
    subst (λ (x : Result (Bor (List ℕ)) ReadError). AppendsTokens tokens_of_key old new x (key_at text)) (sym was)
    (λ other. key_partless text (h (λ m. other (same ∙ m))))

pub key_failed : (total : Read Key) (n : ℕ) (text : List ℕ) (old new : Vec SyntaxToken) (out : List SyntaxToken)
    (e e2 : ReadError) (r : Result (Bor (List ℕ)) ReadError) → r ≡ Err e2 → e2 ≡ e
    → eqb (first (past_blanks text)) 46 ≡ true
    → ((e ≡ Memory → ⊥) → part_at (past_blanks (drop 1 (past_blanks text))) ≡ None)
    → CompletesKey total (suc n) text old.items out → AppendsTokens tokens_of_key old new r total
key_failed total n text old new out e e2 r was same sign h before =
    subst (λ (x : Result (Bor (List ℕ)) ReadError). AppendsTokens tokens_of_key old new x total) (sym was)
    (λ other. key_fail total n text old.items out sign (h (λ m. other (same ∙ m))) before)

flat_tokens : (v : Value) (rest : List ℕ) → depth v ≡ 0 → tokens_of_value v rest
    ≡ token_between (value_kind v) (value v rest) rest ∷ []
flat_tokens (basic ps) rest e = refl
flat_tokens (literal text) rest e = refl
flat_tokens (multi_basic ps) rest e = refl
flat_tokens (multi_literal ps) rest e = refl
flat_tokens (boolean true) rest e = refl
flat_tokens (boolean false) rest e = refl
flat_tokens (integer n) rest e = refl
flat_tokens (float f) rest e = refl
flat_tokens (datetime d) rest e = refl
flat_tokens (array g es) rest e = absurd (omega arith)
flat_tokens (inline g ms) rest e = absurd (omega arith)

pub scalar_noted : (old new : List SyntaxToken) (k : TokenKind) (text rest : List ℕ)
    → Some (k, rest) ≡ parsed_token value_kind (scalar_at text)
    → new ≡ old ++ (token_between k text rest ∷ [])
    → (v : Value) × (scalar_at text ≡ Some (v, rest)) × (new ≡ old ++ tokens_of_value v rest)
scalar_noted old new k text rest parsed noted =
    let v = token_back value_kind k rest (scalar_at text) parsed in
    let sound = scalar_sound 0 text (v.0, rest) v.1 in
    let flat : depth v.0 ≡ 0 = let h = sound.1.shallow in omega arith in
    let tokens = flat_tokens v.0 rest flat in (
      v.0,
      v.1,
      noted ∙ ap (λ (m : SyntaxToken). old ++ (m ∷ []))
          (same_token k (value_kind v.0) text (value v.0 rest) rest v.2 sound.0) ∙
          ap (λ (m : List SyntaxToken). old ++ m) (sym tokens),
    )
