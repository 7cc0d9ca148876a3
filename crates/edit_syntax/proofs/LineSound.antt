-- A line that the parser accepts is written as its syntax tree says.
use Rattle.std.proofs.Common.{◌≡◌, ℕ, zero, suc, ◌≤◌, Bool, true, false, eqb, List, [], ◌∷◌, ◌++◌, length, slice_index, drop, Some, refl, ap, subst, ◌∙◌, inl, inr, arith}
use Rattle.std.proofs.lemmas.Bool.{eqb-true}
use Rattle.std.proofs.lemmas.List.{nil_from_length}
use Rattle.edit_syntax.specs.Characters.{hash, left_bracket, right_bracket, is_blank, is_comment_byte, All}
use Rattle.edit_syntax.specs.Strings.{LineEnd, line_end, Key, key, IsKey}
use Rattle.edit_syntax.specs.Grammar.{Statement, pair, header, element_header, statement, IsStatement, comment, IsComment, Line, line, IsLine, Lines, one_line, more_lines, lines, AreLines}
use Rattle.edit_syntax.specs.Depth.{statement_depth, line_depth, lines_depth}
use Rattle.edit_syntax.specs.Reading.{first, past, blanks, past_blanks, key_at, Pair, pair_at, value_at, header_at, element_header_at, statement_at, comment_front, past_comment, is_line_over, line_at, line_end_at, lines_at}
use Rattle.edit_syntax.proofs.TokenLaws.{bind_some, chosen, some_is, first_is, at_drop, past_some, run_parts, run_all}
use Rattle.edit_syntax.proofs.KeyLaws.{key_sound}
use Rattle.edit_syntax.proofs.ValueLaws.{IsPair, pair_sound, value_sound}
use Rattle.edit_syntax.proofs.ScalarLaws.{blank_parts}
use Rattle.edit_syntax.proofs.FoldLaws.{line_end_sound}

-- a statement that is read where n may be nested
pub record IsGoodStatement (n : ℕ) (s : Statement) : Type 0 where
  pub valid : IsStatement s
  pub shallow : statement_depth s ≤ n

pub record IsGoodLine (n : ℕ) (l : Line) : Type 0 where
  pub valid : IsLine l
  pub shallow : line_depth l ≤ n

pub record AreGoodLines (n : ℕ) (ls : Lines) : Type 0 where
  pub valid : AreLines ls
  pub shallow : lines_depth ls ≤ n

pair_good : (n : ℕ) (p : Pair) → IsPair n p → IsGoodStatement n (pair p.key p.before p.behind p.value)
pair_good n p h = record {
  valid = (h.key, h.before, h.behind, h.value.valid);
  shallow = h.value.shallow;
}

header_good : (n : ℕ) (a : List ℕ) (k : Key) (b : List ℕ) → All is_blank a → IsKey k → All is_blank b
    → IsGoodStatement n (header a k b)
header_good n a k b ha hk hb = record { valid = (ha, hk, hb); shallow = omega arith }

element_good : (n : ℕ) (a : List ℕ) (k : Key) (b : List ℕ) → All is_blank a → IsKey k → All is_blank b
    → IsGoodStatement n (element_header a k b)
element_good n a k b ha hk hb = record { valid = (ha, hk, hb); shallow = omega arith }

pub header_sound : (n : ℕ) (bytes : List ℕ) (x : Statement × List ℕ) → eqb (first bytes) left_bracket ≡ true
    → header_at bytes ≡ Some x → (bytes ≡ statement x.0 x.1) × IsGoodStatement n x.0
unfolding header_at
header_sound n bytes x opened e =
    let P : Statement × List ℕ → Type 0 = λ y. (bytes ≡ statement y.0 y.1) × IsGoodStatement n y.0 in
    let inner = drop 1 bytes in
    let a = bind_some (key_at (past_blanks inner)) _ x e in
    let b = bind_some (past right_bracket (past_blanks a.0.1)) _ x a.2 in
    let k = key_sound (past_blanks inner) a.0 a.1 in
    let two : a.0.1 ≡ blanks a.0.1 ++ (right_bracket ∷ b.0) =
    blank_parts a.0.1 (right_bracket ∷ b.0) (past_some right_bracket _ b.0 (omega arith) b.1) in
    let one : inner ≡ blanks inner ++ key a.0.0 (blanks a.0.1 ++ (right_bracket ∷ b.0)) =
    blank_parts inner (key a.0.0 (blanks a.0.1 ++ (right_bracket ∷ b.0))) (k.0 ∙ ap (key a.0.0) two) in
    subst P (some_is _ x b.2) (
      first_is left_bracket bytes (omega arith) opened ∙ ap (λ (r : List ℕ). left_bracket ∷ r) one,
      header_good n (blanks inner) a.0.0 (blanks a.0.1) (run_all is_blank inner) k.1 (run_all is_blank a.0.1),
    )

pub element_sound : (n : ℕ) (bytes : List ℕ) (x : Statement × List ℕ) → eqb (first bytes) left_bracket ≡ true
    → eqb (slice_index bytes 1) left_bracket ≡ true → element_header_at bytes ≡ Some x
    → (bytes ≡ statement x.0 x.1) × IsGoodStatement n x.0
unfolding element_header_at
element_sound n bytes x opened again e =
    let P : Statement × List ℕ → Type 0 = λ y. (bytes ≡ statement y.0 y.1) × IsGoodStatement n y.0 in
    let inner = drop 2 bytes in
    let a = bind_some (key_at (past_blanks inner)) _ x e in
    let b = bind_some (past right_bracket (past_blanks a.0.1)) _ x a.2 in
    let c = bind_some (past right_bracket b.0) _ x b.2 in
    let k = key_sound (past_blanks inner) a.0 a.1 in
    let end = right_bracket ∷ (right_bracket ∷ c.0) in
    let close : past_blanks a.0.1 ≡ end = past_some right_bracket _ b.0 (omega arith) b.1 ∙
    ap (λ (r : List ℕ). right_bracket ∷ r) (past_some right_bracket b.0 c.0 (omega arith) c.1) in
    let two : a.0.1 ≡ blanks a.0.1 ++ end = blank_parts a.0.1 end close in
    let one : inner ≡ blanks inner ++ key a.0.0 (blanks a.0.1 ++ end) =
    blank_parts inner (key a.0.0 (blanks a.0.1 ++ end)) (k.0 ∙ ap (key a.0.0) two) in
    subst P (some_is _ x c.2) (
      first_is left_bracket bytes (omega arith) opened ∙
          ap (λ (r : List ℕ). left_bracket ∷ r) (at_drop 1 left_bracket bytes (omega arith) again ∙
          ap (λ (r : List ℕ). left_bracket ∷ r) one),
      element_good n (blanks inner) a.0.0 (blanks a.0.1) (run_all is_blank inner) k.1
          (run_all is_blank a.0.1),
    )

pub statement_sound : (n : ℕ) (bytes : List ℕ) (x : Statement × List ℕ) → statement_at n bytes ≡ Some x
    → (bytes ≡ statement x.0 x.1) × IsGoodStatement n x.0
unfolding statement_at
statement_sound n bytes x e =
    let P : Statement × List ℕ → Type 0 = λ y. (bytes ≡ statement y.0 y.1) × IsGoodStatement n y.0 in
    elim (chosen (eqb (first bytes) left_bracket) _ _ (Some x) e) [
      | inl h ↦ elim (chosen (eqb (slice_index bytes 1) left_bracket) _ _ (Some x) h.1) [
        | inl k ↦ element_sound n bytes x h.0 k.0 k.1
        | inr k ↦ header_sound n bytes x h.0 k.1
      ]
      | inr h ↦
          let a = bind_some (pair_at (value_at n) bytes) _ x h.1 in
          let p = pair_sound n (value_at n) (value_sound n) bytes a.0 a.1 in
          subst P (some_is _ x a.2) (p.0, pair_good n a.0.0 p.1)
    ]

-- a comment or nothing is there
pub comment_sound : (bytes : List ℕ) → (bytes ≡ comment (comment_front bytes) (past_comment bytes))
    × IsComment (comment_front bytes)
comment_sound bytes = go (eqb (first bytes) hash) refl
  where
    go : (b : Bool) → eqb (first bytes) hash ≡ b
        → (bytes ≡ comment (comment_front bytes) (past_comment bytes)) × IsComment (comment_front bytes)
    go true e = rw e (
      first_is hash bytes (omega arith) e ∙
          ap (λ (r : List ℕ). hash ∷ r) (run_parts is_comment_byte (drop 1 bytes)),
      run_all is_comment_byte (drop 1 bytes),
    )
    go false e = rw e (refl, tt)

pub line_sound : (n : ℕ) (bytes : List ℕ) (x : Line × List ℕ) → line_at n bytes ≡ Some x
    → (bytes ≡ line x.0 x.1) × IsGoodLine n x.0
unfolding line_at
line_sound n bytes x e =
    let P : Line × List ℕ → Type 0 = λ y. (bytes ≡ line y.0 y.1) × IsGoodLine n y.0 in
    let rest = past_blanks bytes in
    elim (chosen (is_line_over (first rest)) _ _ (Some x) e) [
      | inl h ↦
          let c = comment_sound rest in
          subst P (some_is _ x h.1) (
            run_parts is_blank bytes ∙ ap (λ (r : List ℕ). blanks bytes ++ r) c.0,
            record { valid = (run_all is_blank bytes, c.1); shallow = omega arith },
          )
      | inr h ↦
          let a = bind_some (statement_at n rest) _ x h.1 in
          let s = statement_sound n rest a.0 a.1 in
          let c = comment_sound (past_blanks a.0.1) in
          let two : a.0.1 ≡ blanks a.0.1 ++ comment (comment_front (past_blanks a.0.1))
          (past_comment (past_blanks a.0.1)) = run_parts is_blank a.0.1 ∙
          ap (λ (r : List ℕ). blanks a.0.1 ++ r) c.0 in
          subst P (some_is _ x a.2) (
            run_parts is_blank bytes ∙ ap (λ (r : List ℕ). blanks bytes ++ r)
                (s.0 ∙ ap (statement a.0.0) two),
            record {
              valid = (run_all is_blank bytes, s.1.valid, run_all is_blank a.0.1, c.1);
              shallow = s.1.shallow;
            },
          )
    ]

one_good : (n : ℕ) (l : Line) → IsGoodLine n l → AreGoodLines n (one_line l)
one_good n l h = record { valid = h.valid; shallow = h.shallow }

more_good : (n : ℕ) (l : Line) (e : LineEnd) (ls : Lines) → IsGoodLine n l → AreGoodLines n ls
    → AreGoodLines n (more_lines l e ls)
more_good n l e ls h others = record {
  valid = (h.valid, others.valid);
  shallow = let a = h.shallow in let b = others.shallow in omega arith;
}

pub lines_sound : (n count : ℕ) (bytes : List ℕ) (ls : Lines) → lines_at n count bytes ≡ Some ls
    → (bytes ≡ lines ls) × AreGoodLines n ls
unfolding lines_at
lines_sound n zero bytes ls e = absurd cc
lines_sound n (suc count) bytes ls e =
    let P : Lines → Type 0 = λ y. (bytes ≡ lines y) × AreGoodLines n y in
    let a = bind_some (line_at n bytes) _ ls e in
    let l = line_sound n bytes a.0 a.1 in
    elim (chosen (eqb (length a.0.1) 0) _ _ (Some ls) a.2) [
      | inl h ↦
          let nothing : a.0.1 ≡ [] = nil_from_length a.0.1 (eqb-true _ _ h.0) in
          subst P (some_is _ ls h.1) (l.0 ∙ ap (line a.0.0) nothing, one_good n a.0.0 l.1)
      | inr h ↦
          let b = bind_some (line_end_at a.0.1) _ ls h.1 in
          let c = bind_some (lines_at n count b.0.1) _ ls b.2 in
          let more = lines_sound n count b.0.1 c.0 c.1 in
          subst P (some_is _ ls c.2) (
            l.0 ∙ ap (line a.0.0) (line_end_sound a.0.1 b.0 b.1 ∙ ap (line_end b.0.0) more.0),
            more_good n a.0.0 b.0.0 c.0 l.1 more.1,
          )
    ]
