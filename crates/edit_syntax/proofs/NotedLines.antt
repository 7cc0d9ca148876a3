-- The tokens that the functions for lines append.
use Rattle.std.proofs.Common.{◌≡◌, ℕ, suc, ◌+◌, ◌≤◌, true, false, eqb, List, [], ◌∷◌, ◌++◌, length, drop, slice_index, Option, Some, None, Result, Err, refl, sym, ap, subst, ◌∙◌, append_assoc, arith}
use Rattle.std.specs.Prelude.{MatchResult}
use Rattle.std.specs.Borrow.{Bor}
use Rattle.std.specs.Global.{Vec}
use Rattle.std.proofs.lemmas.List.{append-nil, nil_from_length}
use Rattle.edit_syntax.specs.declared.read.syntax_tokens.SyntaxToken.{SyntaxToken}
use Rattle.edit_syntax.specs.declared.read.syntax_tokens.TokenKind.{TokenKind}
use Rattle.edit_syntax.specs.declared.read.syntax_tokens.TokenKind.TheVariants as kinds
use Rattle.edit_syntax.specs.declared.read.syntax_tokens.ReadError.{ReadError}
use Rattle.edit_syntax.specs.declared.read.syntax_tokens.ReadError.TheVariants.{Memory, NotToml}
use Rattle.edit_syntax.specs.Characters.{left_bracket, right_bracket, is_blank}
use Rattle.edit_syntax.specs.Strings.{LineEnd, line_end, Key, key}
use Rattle.edit_syntax.specs.Grammar.{Statement, header, statement, comment, Line, empty_line, full_line, Lines, one_line, more_lines, lines, element_header, AreLines}
use Rattle.edit_syntax.specs.Depth.{lines_depth}
use Rattle.edit_syntax.specs.Reading.{◌>>=◌, first, blanks, past_blanks, past, key_at, header_at, element_header_at, statement_at, comment_front, past_comment, is_line_over, line_at, line_end_at, lines_at}
use Rattle.edit_syntax.specs.SyntaxTokens.{token_between, tokens_of_key, tokens_of_statement, tokens_of_line, tokens_of_lines}
use Rattle.edit_syntax.specs.AppendedTokens.{AppendsTokens}
use Rattle.edit_syntax.proofs.TokenLaws.{past_some, run_parts}
use Rattle.edit_syntax.proofs.ScalarLaws.{blank_parts}
use Rattle.edit_syntax.proofs.TextLaws.{lines_read, lines_read_again}
use Rattle.edit_syntax.proofs.LineSound.{header_sound, element_sound, comment_sound, lines_sound, AreGoodLines}
use Rattle.edit_syntax.proofs.FoldLaws.{line_end_sound}
use Rattle.edit_syntax.proofs.Loops.{rest_of}
use Rattle.edit_syntax.proofs.NotedTokens.{mapped, unmapped}

header_here : (bytes key_end rest : List ℕ) (k : Key) → key_at (past_blanks (drop 1 bytes))
    ≡ Some (k, key_end) → Some rest ≡ past right_bracket (past_blanks key_end)
    → header_at bytes ≡ Some (header (blanks (drop 1 bytes)) k (blanks key_end), rest)
unfolding header_at
header_here bytes key_end rest k key closed = rw (key, ← closed) refl

-- the tokens of a key and of the header after it
header_tokens : (kind : TokenKind) (old mid new : List SyntaxToken) (bytes key_end rest tail : List ℕ) (k : Key)
    (s : Statement) → mid ≡ old ++ tokens_of_key k key_end → new ≡ mid ++ (token_between kind bytes rest ∷ [])
    → key_end ≡ tail → bytes ≡ statement s rest
    → new ≡ old ++ (tokens_of_key k tail ++ (token_between kind (statement s rest) rest ∷ []))
header_tokens kind old mid new bytes key_end rest tail k s noted ended e f =
    ended ∙ ap (λ (m : List SyntaxToken). m ++ (token_between kind bytes rest ∷ [])) noted ∙
    append_assoc old (tokens_of_key k key_end) (token_between kind bytes rest ∷ [])
    ∙ ap (λ (t : List ℕ). old ++ (tokens_of_key k t ++ (token_between kind bytes rest ∷ []))) e ∙
    ap (λ (t : List ℕ). old ++ (tokens_of_key k tail ++ (token_between kind t rest ∷ []))) f

pub header_noted : (old mid new : List SyntaxToken) (bytes key_end rest : List ℕ) (k : Key)
    → eqb (first bytes) left_bracket ≡ true → key_at (past_blanks (drop 1 bytes)) ≡ Some (k, key_end)
    → mid ≡ old ++ tokens_of_key k key_end → Some rest ≡ past right_bracket (past_blanks key_end)
    → new ≡ mid ++ (token_between kinds.Header bytes rest ∷ [])
    → (s : Statement) × (header_at bytes ≡ Some (s, rest)) × (new ≡ old ++ tokens_of_statement s rest)
header_noted old mid new bytes key_end rest k opened key noted closed ended =
    let s = header (blanks (drop 1 bytes)) k (blanks key_end) in
    let here = header_here bytes key_end rest k key closed in
    let sound = header_sound 0 bytes (s, rest) opened here in
    let tail : key_end ≡ blanks key_end ++ (right_bracket ∷ rest) =
    blank_parts key_end (right_bracket ∷ rest) (past_some right_bracket _ rest (omega arith) (sym closed))
    in (
      s,
      here,
      header_tokens kinds.Header old mid new bytes key_end rest
          (blanks key_end ++ (right_bracket ∷ rest)) k s noted ended tail sound.0,
    )

-- ---- headers of elements

element_here : (bytes key_end inner rest : List ℕ) (k : Key)
    → key_at (past_blanks (drop 2 bytes)) ≡ Some (k, key_end)
    → Some inner ≡ past right_bracket (past_blanks key_end) → Some rest ≡ past right_bracket inner
    → element_header_at bytes ≡ Some (element_header (blanks (drop 2 bytes)) k (blanks key_end), rest)
unfolding element_header_at
element_here bytes key_end inner rest k key one two = rw (key, ← one, ← two) refl

pub element_noted : (old mid new : List SyntaxToken) (bytes key_end inner rest : List ℕ) (k : Key)
    → eqb (first bytes) left_bracket ≡ true → eqb (slice_index bytes 1) left_bracket ≡ true
    → key_at (past_blanks (drop 2 bytes)) ≡ Some (k, key_end)
    → mid ≡ old ++ tokens_of_key k key_end → Some inner ≡ past right_bracket (past_blanks key_end)
    → Some rest ≡ past right_bracket inner → new ≡ mid ++ (token_between kinds.ElementHeader bytes rest ∷ [])
    → (s : Statement) × (element_header_at bytes ≡ Some (s, rest)) × (new ≡ old ++ tokens_of_statement s rest)
element_noted old mid new bytes key_end inner rest k opened again key noted one two ended =
    let s = element_header (blanks (drop 2 bytes)) k (blanks key_end) in
    let here = element_here bytes key_end inner rest k key one two in
    let sound = element_sound 0 bytes (s, rest) opened again here in
    let end = right_bracket ∷ (right_bracket ∷ rest) in
    let close : past_blanks key_end ≡ end = past_some right_bracket _ inner (omega arith) (sym one) ∙
    ap (λ (r : List ℕ). right_bracket ∷ r) (past_some right_bracket inner rest (omega arith) (sym two)) in (
      s,
      here,
      header_tokens kinds.ElementHeader old mid new bytes key_end rest
          (blanks key_end ++ end) k s noted ended (blank_parts key_end end close) sound.0,
    )

-- ---- lines

pub empty_noted : (n : ℕ) (old : List SyntaxToken) (bytes : List ℕ)
    → is_line_over (first (past_blanks bytes)) ≡ true
    → (l : Line) × (line_at n bytes ≡ Some (l, past_comment (past_blanks bytes)))
    × (old ≡ old ++ tokens_of_line l (past_comment (past_blanks bytes)))
unfolding line_at
empty_noted n old bytes over =
    (empty_line (blanks bytes) (comment_front (past_blanks bytes)), rw over refl, sym (append-nil old))

pub full_noted : (n : ℕ) (old new : List SyntaxToken) (bytes rest : List ℕ) (s : Statement)
    → is_line_over (first (past_blanks bytes)) ≡ false → statement_at n (past_blanks bytes) ≡ Some (s, rest)
    → new ≡ old ++ tokens_of_statement s rest
    → (l : Line) × (line_at n bytes ≡ Some (l, past_comment (past_blanks rest)))
    × (new ≡ old ++ tokens_of_line l (past_comment (past_blanks rest)))
unfolding line_at
full_noted n old new bytes rest s over e noted =
    let tail : rest ≡ blanks rest ++ comment (comment_front (past_blanks rest))
    (past_comment (past_blanks rest)) = run_parts is_blank rest ∙
    ap (λ (t : List ℕ). blanks rest ++ t) (comment_sound (past_blanks rest)).0 in (
      full_line (blanks bytes) s (blanks rest) (comment_front (past_blanks rest)),
      rw (over, e) refl,
      noted ∙
          ap (λ (t : List ℕ). old ++ tokens_of_statement s t) tail,
    )

pub line_refused : (n : ℕ) (bytes : List ℕ) → is_line_over (first (past_blanks bytes)) ≡ false
    → statement_at n (past_blanks bytes) ≡ None → line_at n bytes ≡ None
unfolding line_at
line_refused n bytes over e = rw (over, e) refl

pub line_failed : (n : ℕ) (old new : Vec SyntaxToken) (bytes : List ℕ) (e e2 : ReadError)
    (r : Result (Bor (List ℕ)) ReadError) → r ≡ Err e2 → e2 ≡ e
    → is_line_over (first (past_blanks bytes)) ≡ false
    → ((e ≡ Memory → ⊥) → statement_at n (past_blanks bytes) ≡ None)
    → AppendsTokens tokens_of_line old new r (line_at n bytes)
line_failed n old new bytes e e2 r was same over h =
    subst (λ (x : Result (Bor (List ℕ)) ReadError). AppendsTokens tokens_of_line old new x (line_at n bytes)) (sym was)
    (λ other. line_refused n bytes over (h (λ m. other (same ∙ m))))

-- whatever is read from here on completes what is read from the start
pub record Completes (total : Option Lines) (n : ℕ) (bytes : List ℕ) (out : List SyntaxToken) : Type 0 where
  pub some : (ls : Lines) → lines_at 80 n bytes ≡ Some ls → (us : Lines) × (total ≡ Some us)
      × (out ++ tokens_of_lines ls ≡ tokens_of_lines us)
  pub none : lines_at 80 n bytes ≡ None → total ≡ None

lines_last : (n : ℕ) (bytes rest : List ℕ) (l : Line) → line_at 80 bytes ≡ Some (l, rest) → length rest ≡ 0
    → lines_at 80 (suc n) bytes ≡ Some (one_line l)
unfolding lines_at
lines_last n bytes rest l e over = rw (e, over) refl

lines_more : (n : ℕ) (bytes rest next : List ℕ) (l : Line) (end : LineEnd) → line_at 80 bytes ≡ Some (l, rest)
    → eqb (length rest) 0 ≡ false → line_end_at rest ≡ Some (end, next)
    → lines_at 80 (suc n) bytes ≡ (lines_at 80 n next >>= λ ls. Some (more_lines l end ls))
unfolding lines_at
lines_more n bytes rest next l end e more ends = rw (e, more, ends) refl

lines_stop : (n : ℕ) (bytes rest : List ℕ) (l : Line) → line_at 80 bytes ≡ Some (l, rest)
    → eqb (length rest) 0 ≡ false → line_end_at rest ≡ None → lines_at 80 (suc n) bytes ≡ None
unfolding lines_at
lines_stop n bytes rest l e more ends = rw (e, more, ends) refl

lines_without : (n : ℕ) (bytes : List ℕ) → line_at 80 bytes ≡ None → lines_at 80 (suc n) bytes ≡ None
unfolding lines_at
lines_without n bytes e = rw e refl

pub lines_done : (total : Option Lines) (n : ℕ) (bytes rest : List ℕ) (l : Line) (out new : List SyntaxToken)
    → line_at 80 bytes ≡ Some (l, rest) → length rest ≡ 0 → new ≡ out ++ tokens_of_line l rest
    → Completes total (suc n) bytes out
    → (us : Lines) × (total ≡ Some us) × (new ≡ tokens_of_lines us)
lines_done total n bytes rest l out new e over noted before =
    let b = before.some (one_line l) (lines_last n bytes rest l e over) in
    (b.0, b.1, noted ∙ ap (λ (t : List ℕ). out ++ tokens_of_line l t) (nil_from_length rest over) ∙ b.2)

pub lines_turn : (total : Option Lines) (n : ℕ) (bytes rest next : List ℕ) (l : Line) (out new : List SyntaxToken)
    → line_at 80 bytes ≡ Some (l, rest) → eqb (length rest) 0 ≡ false → Some next ≡ rest_of (line_end_at rest)
    → new ≡ out ++ tokens_of_line l rest
    → Completes total (suc n) bytes out → Completes total n next new
lines_turn total n bytes rest next l out new e more ends noted before =
    let end = mapped (line_end_at rest) next ends in
    let step = lines_more n bytes rest next l end.0 e more end.1 in
    record {
      some = λ ls h.
          let b = before.some (more_lines l end.0 ls) (step ∙ rw h refl) in
          let here : rest ≡ line_end end.0 (lines ls) = line_end_sound rest (end.0, next) end.1 ∙
          ap (line_end end.0) (lines_sound 80 n next ls h).0 in (
            b.0,
            b.1,
            ap (λ (m : List SyntaxToken). m ++ tokens_of_lines ls) noted ∙
                append_assoc out (tokens_of_line l rest) (tokens_of_lines ls) ∙
                ap (λ (x : List ℕ). out ++ (tokens_of_line l x ++ tokens_of_lines ls)) here ∙ b.2,
          );
      none = λ h. before.none (step ∙ rw h refl);
    }

pub lines_broken : (total : Option Lines) (n : ℕ) (bytes rest : List ℕ) (l : Line) (out : List SyntaxToken)
    → line_at 80 bytes ≡ Some (l, rest) → eqb (length rest) 0 ≡ false → None ≡ rest_of (line_end_at rest)
    → Completes total (suc n) bytes out → total ≡ None
lines_broken total n bytes rest l out e more ends before =
    before.none (lines_stop n bytes rest l e more (unmapped (line_end_at rest) ends))

pub lines_fail : (total : Option Lines) (n : ℕ) (bytes : List ℕ) (out : List SyntaxToken)
    → line_at 80 bytes ≡ None
    → Completes total (suc n) bytes out → total ≡ None
lines_fail total n bytes out e before = before.none (lines_without n bytes e)

pub lines_none : (total : Option Lines) (bytes : List ℕ) (out : List SyntaxToken)
    → Completes total 0 bytes out
    → total ≡ None
unfolding lines_at
lines_none total bytes out before = before.none refl

-- ---- the whole

-- the form of lines that were read, with its tokens
abbrev pub Found : List ℕ → List SyntaxToken → Type 0
Found bytes new = (form : Lines) × (bytes ≡ lines form) × AreLines form × (lines_depth form ≤ 80)
    × (new ≡ tokens_of_lines form)

pub found : (bytes : List ℕ) (us : Lines) (new : List SyntaxToken)
    → lines_at 80 (length bytes + 1) bytes ≡ Some us
    → new ≡ tokens_of_lines us → Found bytes new
found bytes us new e noted = let h = lines_read 80 bytes us e in (us, h.0, h.1.valid, h.1.shallow, noted)

good : (form : Lines) → AreLines form → lines_depth form ≤ 80 → AreGoodLines 80 form
good form valid le = record { valid = valid; shallow = le }

pub only : (bytes : List ℕ) (us : Lines) (new : List SyntaxToken)
    → lines_at 80 (length bytes + 1) bytes ≡ Some us
    → new ≡ tokens_of_lines us → (form : Lines) → bytes ≡ lines form → AreLines form → lines_depth form ≤ 80
    → new ≡ tokens_of_lines form
only bytes us new e noted form has valid le =
    let same : Some us ≡ Some form = sym e ∙ lines_read_again 80 bytes form has (good form valid le) in
    let one : us ≡ form = cc in
    noted ∙ ap tokens_of_lines one

pub refused : (bytes : List ℕ) (form : Lines) → lines_at 80 (length bytes + 1) bytes ≡ None
    → bytes ≡ lines form → AreLines form → lines_depth form ≤ 80 → ⊥
refused bytes form e has valid le =
    let same : None ≡ Some form = sym e ∙ lines_read_again 80 bytes form has (good form valid le) in
    absurd cc

not_memory : (left : ℕ) → NotToml left ≡ Memory → ⊥
not_memory left e = cc

-- the exit of a line that was not read
pub exit_only : (bytes : List ℕ) (e e2 : ReadError) (r : Result (Vec SyntaxToken) ReadError) → r ≡ Err e2
    → e2 ≡ e
    → ((e ≡ Memory → ⊥) → lines_at 80 (length bytes + 1) bytes ≡ None)
    → (form : Lines) → bytes ≡ lines form → AreLines form → lines_depth form ≤ 80
    → MatchResult r (λ v. v.items ≡ tokens_of_lines form) (λ x. x ≡ Memory)
exit_only bytes Memory e2 r was same h form has valid le =
    subst (λ (x : Result (Vec SyntaxToken) ReadError). MatchResult x (λ v. v.items ≡ tokens_of_lines form)
    (λ y. y ≡ Memory)) (sym was) same
exit_only bytes (NotToml left) e2 r was same h form has valid le =
    absurd (refused bytes form (h (not_memory left)) has valid le)
