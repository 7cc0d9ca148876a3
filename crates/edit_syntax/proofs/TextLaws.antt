-- Texts: the parser accepts exactly what is written as its result says.
use Rattle.std.proofs.Common.{◌≡◌, ℕ, ◌+◌, ◌≤◌, Bool, true, false, eqb, List, [], ◌∷◌, ◌++◌, length, slice_index, drop, Option, Some, None, refl, ap, ◌∙◌, arith, cond}
use Rattle.std.proofs.lemmas.Bool.{and_parts}
use Rattle.std.proofs.lemmas.Bool.Decides.{nat_tests}
use Rattle.edit_syntax.specs.Characters.{is_blank, is_bare, All}
use Rattle.edit_syntax.specs.Strings.{LineEnd, lf, crlf, line_end, Part, bare, basic_part, literal_part, part, IsPart}
use Rattle.edit_syntax.specs.Grammar.{Statement, pair, header, element_header, statement, IsStatement, comment, Line, empty_line, full_line, line, IsLine, Lines, one_line, more_lines, lines, AreLines, Text, text, byte_order_mark, Spells}
use Rattle.edit_syntax.specs.Depth.{lines_depth, text_depth}
use Rattle.edit_syntax.specs.Reading.{◌>>=◌, first, lines_at, begins_with_byte_order_mark, skip_byte_order_mark, read_text}
use Rattle.edit_syntax.proofs.TokenLaws.{first_is, at_drop}
use Rattle.edit_syntax.proofs.LineSound.{AreGoodLines, lines_sound}
use Rattle.edit_syntax.proofs.LineLaws.{lines_again, few_lines}

-- ---- texts

-- the text is in the grammar with this form, which is of the part that is read
pub record IsReadText (n : ℕ) (bytes : List ℕ) (t : Text) : Type 0 where
  pub spells : Spells bytes t
  pub shallow : text_depth t ≤ n

byte_order_mark_parts : (bytes : List ℕ) → bytes ≡ byte_order_mark (begins_with_byte_order_mark bytes) (skip_byte_order_mark bytes)
byte_order_mark_parts bytes = go (begins_with_byte_order_mark bytes) refl
  where
    go : (b : Bool) → begins_with_byte_order_mark bytes ≡ b → bytes ≡ byte_order_mark b (cond b (drop 3 bytes) bytes)
    go true e =
        let x = and_parts _ (eqb (slice_index bytes 2) 0xBF) e in
        let y = and_parts _ (eqb (slice_index bytes 1) 0xBB) x.0 in
        first_is 0xEF bytes (omega arith) y.0 ∙ ap (λ (r : List ℕ). 0xEF ∷ r)
        (at_drop 1 0xBB bytes (omega arith) y.1 ∙
        ap (λ (r : List ℕ). 0xBB ∷ r) (at_drop 2 0xBF bytes (omega arith) x.1))
    go false e = refl

-- lines that were read after a byte order mark or nothing
pub lines_found : (n : ℕ) (bytes : List ℕ) (ls : Lines) → skip_byte_order_mark bytes ≡ lines ls → AreLines ls
    → lines_depth ls ≤ n → IsReadText n bytes (record { has_byte_order_mark = begins_with_byte_order_mark bytes; lines = ls })
lines_found n bytes ls e valid shallow = record {
  spells = record {
    spelled = byte_order_mark_parts bytes ∙ ap (byte_order_mark (begins_with_byte_order_mark bytes)) e;
    well_formed = valid;
  };
  shallow = shallow;
}

-- no line begins as a byte order mark does
blank_other_first : (a rest : List ℕ) → All is_blank a → eqb (first rest) 0xEF ≡ false
    → eqb (first (a ++ rest)) 0xEF ≡ false
blank_other_first [] rest h e = e
blank_other_first (c ∷ a) rest h e = grind (arith, nat_tests, h.0)

comment_other_first : (c : Option (List ℕ)) (rest : List ℕ) → eqb (first rest) 0xEF ≡ false
    → eqb (first (comment c rest)) 0xEF ≡ false
comment_other_first None rest e = e
comment_other_first (Some text) rest e = refl

bare_other_first : (b : ℕ) → is_bare b ≡ true → eqb b 0xEF ≡ false
bare_other_first b h = grind (arith, nat_tests)

part_other_first : (k : Part) (rest : List ℕ) → IsPart k → eqb (first (part k rest)) 0xEF ≡ false
part_other_first (bare []) rest h = absurd (omega (arith, h.0))
part_other_first (bare (b ∷ text)) rest h = bare_other_first b h.1.0
part_other_first (basic_part ps) rest h = refl
part_other_first (literal_part text) rest h = refl

statement_other_first : (s : Statement) (rest : List ℕ) → IsStatement s
    → eqb (first (statement s rest)) 0xEF ≡ false
statement_other_first (pair k a b v) rest h = part_other_first k.first _ h.0.0
statement_other_first (header a k b) rest h = refl
statement_other_first (element_header a k b) rest h = refl

line_other_first : (l : Line) (rest : List ℕ) → IsLine l → eqb (first rest) 0xEF ≡ false
    → eqb (first (line l rest)) 0xEF ≡ false
line_other_first (empty_line a c) rest h e = blank_other_first a (comment c rest) h.0 (comment_other_first c rest e)
line_other_first (full_line a s b c) rest h e = blank_other_first a (statement s (b ++ comment c rest)) h.0
    (statement_other_first s (b ++ comment c rest) h.1)

end_other_first : (e : LineEnd) (rest : List ℕ) → eqb (first (line_end e rest)) 0xEF ≡ false
end_other_first lf rest = refl
end_other_first crlf rest = refl

lines_other_first : (ls : Lines) → AreLines ls → eqb (first (lines ls)) 0xEF ≡ false
lines_other_first (one_line l) h = line_other_first l [] h refl
lines_other_first (more_lines l e ls) h = line_other_first l (line_end e (lines ls)) h.0 (end_other_first e (lines ls))

no_byte_order_mark : (bytes : List ℕ) → eqb (first bytes) 0xEF ≡ false → begins_with_byte_order_mark bytes ≡ false
no_byte_order_mark bytes e = rw e refl

-- the lines of any form of a text are those after its byte order mark
byte_order_mark_again : (b : Bool) (ls : Lines) → AreLines ls → (begins_with_byte_order_mark (byte_order_mark b (lines ls)) ≡ b)
    × (skip_byte_order_mark (byte_order_mark b (lines ls)) ≡ lines ls)
byte_order_mark_again true ls h = (refl, refl)
byte_order_mark_again false ls h = let e = no_byte_order_mark (lines ls) (lines_other_first ls h) in (e, rw e refl)

pub lines_only : (bytes : List ℕ) (t : Text) → Spells bytes t → skip_byte_order_mark bytes ≡ lines t.lines
lines_only bytes t h = ap skip_byte_order_mark h.spelled ∙ (byte_order_mark_again t.has_byte_order_mark t.lines h.well_formed).1

pub lines_read : (n : ℕ) (bytes : List ℕ) (ls : Lines) → lines_at n (length bytes + 1) bytes ≡ Some ls
    → (bytes ≡ lines ls) × AreGoodLines n ls
lines_read n bytes ls e = lines_sound n (length bytes + 1) bytes ls e

pub lines_read_again : (n : ℕ) (bytes : List ℕ) (ls : Lines) → bytes ≡ lines ls → AreGoodLines n ls
    → lines_at n (length bytes + 1) bytes ≡ Some ls
lines_read_again n bytes ls e h = rw e (lines_again n (length (lines ls) + 1) ls h (few_lines n ls h))

-- whatever is in the grammar and of the part is read, in the one form that it has
pub read_again : (n : ℕ) (bytes : List ℕ) (t : Text) → IsReadText n bytes t → read_text n bytes ≡ Some t
unfolding read_text
read_again n bytes t h =
    let body = lines_only bytes t h.spells in
    let starts : begins_with_byte_order_mark bytes ≡ t.has_byte_order_mark = ap begins_with_byte_order_mark h.spells.spelled ∙
    (byte_order_mark_again t.has_byte_order_mark t.lines h.spells.well_formed).0 in
    let good : AreGoodLines n t.lines = record { valid = h.spells.well_formed; shallow = h.shallow } in
    let again : lines_at n (length (lines t.lines) + 1) (lines t.lines) ≡ Some t.lines =
    lines_again n (length (lines t.lines) + 1) t.lines good (few_lines n t.lines good) in
    let form : Bool → Lines → Text = λ b ls. record { has_byte_order_mark = b; lines = ls } in
    ap (λ (x : List ℕ). lines_at n (length x + 1) x >>= λ ls. Some (form (begins_with_byte_order_mark bytes) ls)) body
    ∙ ap (λ (o : Option Lines). o >>= λ ls. Some (form (begins_with_byte_order_mark bytes) ls)) again
    ∙ ap (λ (b : Bool). Some (form b t.lines)) starts
