-- Lines: the parser accepts exactly what is written as its result says.
use Rattle.std.proofs.Common.{◌≡◌, ℕ, zero, suc, ◌+◌, ◌≤◌, true, false, eqb, List, [], ◌∷◌, ◌++◌, length, slice_index, Option, Some, None, refl, arith}
use Rattle.std.proofs.lemmas.Bool.Decides.{nat_tests}
use Rattle.std.proofs.lemmas.List.{length-append}
use Rattle.edit_syntax.specs.Characters.{line_feed, carriage_return, hash, equals, left_bracket, right_bracket, is_blank, is_bare, is_comment_byte, All}
use Rattle.edit_syntax.specs.Strings.{LineEnd, lf, crlf, line_end, Part, bare, basic_part, literal_part, part, IsPart, Key, key, dotted, IsKey}
use Rattle.edit_syntax.specs.Grammar.{value, Statement, pair, header, element_header, statement, IsStatement, comment, IsComment, Line, empty_line, full_line, line, Lines, one_line, more_lines, lines, text}
use Rattle.edit_syntax.specs.Reading.{first, Pair, value_at, header_at, element_header_at, statement_at, comment_front, past_comment, is_line_over, line_at, lines_at}
use Rattle.edit_syntax.proofs.TokenLaws.{front_again, after_again}
use Rattle.edit_syntax.proofs.KeyLaws.{key_again, ends_key}
use Rattle.edit_syntax.proofs.ValueLaws.{IsPair}
use Rattle.edit_syntax.proofs.FoldLaws.{line_end_again}
use Rattle.edit_syntax.proofs.ValueReadAgain.{value_again}
use Rattle.edit_syntax.proofs.MembersReadAgain.{pair_again, key_first, pair_longer, key_longer, value_longer}
use Rattle.edit_syntax.proofs.NumberEnds.{EndsValue, ends_value, is_stop}
use Rattle.edit_syntax.proofs.LineSound.{IsGoodStatement, IsGoodLine, AreGoodLines}

-- ---- what is spelled so is read

-- what may follow a line
pub record EndsLine (rest : List ℕ) : Type 0 where
  pub no_ch : is_comment_byte (first rest) ≡ false
  pub no_comment : eqb (first rest) hash ≡ false
  pub no_blank : is_blank (first rest) ≡ false
  pub over : is_line_over (first rest) ≡ true

pub end_of_text : EndsLine []
end_of_text = record { no_ch = refl; no_comment = refl; no_blank = refl; over = refl }

pub end_of_line : (e : LineEnd) (rest : List ℕ) → EndsLine (line_end e rest)
end_of_line lf rest = record { no_ch = refl; no_comment = refl; no_blank = refl; over = refl }
end_of_line crlf rest = record { no_ch = refl; no_comment = refl; no_blank = refl; over = refl }

comment_again : (c : Option (List ℕ)) (rest : List ℕ) → IsComment c → EndsLine rest
    → (comment_front (comment c rest) ≡ c) × (past_comment (comment c rest) ≡ rest)
comment_again None rest h ends = (rw ends.no_comment refl, rw ends.no_comment refl)
comment_again (Some text) rest h ends =
    (rw (front_again is_comment_byte text rest h ends.no_ch) refl, after_again is_comment_byte text rest h ends.no_ch)

comment_first : (c : Option (List ℕ)) (rest : List ℕ) → EndsLine rest
    → (is_blank (first (comment c rest)) ≡ false) × (is_line_over (first (comment c rest)) ≡ true)
comment_first None rest ends = (ends.no_blank, ends.over)
comment_first (Some text) rest ends = (refl, refl)

over_stop : (b : ℕ) → is_line_over b ≡ true → is_stop b ≡ true
over_stop b h = grind (arith, nat_tests)

bare_starts : (b : ℕ) → is_bare b ≡ true → (is_line_over b ≡ false) × (eqb b left_bracket ≡ false)
bare_starts b h = (grind (arith, nat_tests), grind (arith, nat_tests))

part_starts : (k : Part) (rest : List ℕ) → IsPart k → (is_line_over (first (part k rest)) ≡ false)
    × (eqb (first (part k rest)) left_bracket ≡ false)
part_starts (bare []) rest h = absurd (omega (arith, h.0))
part_starts (bare (b ∷ text)) rest h = bare_starts b h.1.0
part_starts (basic_part ps) rest h = (refl, refl)
part_starts (literal_part text) rest h = (refl, refl)

key_starts : (k : Key) (rest : List ℕ) → IsKey k → (is_line_over (first (key k rest)) ≡ false)
    × (eqb (first (key k rest)) left_bracket ≡ false)
key_starts k rest h = part_starts k.first (dotted k.others rest) h.0

statement_first : (s : Statement) (rest : List ℕ) → IsStatement s
    → (is_blank (first (statement s rest)) ≡ false) × (is_line_over (first (statement s rest)) ≡ false)
statement_first (pair k a b v) rest h = ((key_first k _ h.0).0, (key_starts k _ h.0).0)
statement_first (header a k b) rest h = (refl, refl)
statement_first (element_header a k b) rest h = (refl, refl)

-- white space or a key stands behind the bracket of a header
not_double : (a tail : List ℕ) → All is_blank a → eqb (first tail) left_bracket ≡ false
    → eqb (first (a ++ tail)) left_bracket ≡ false
not_double [] tail h e = e
not_double (c ∷ a) tail h e = grind (arith, nat_tests, h.0)

header_again : (a : List ℕ) (k : Key) (b rest : List ℕ) → All is_blank a → IsKey k → All is_blank b
    → header_at (statement (header a k b) rest) ≡ Some (header a k b, rest)
unfolding header_at
header_again a k b rest ha hk hb =
    let end = right_bracket ∷ rest in
    let one = key_again k (b ++ end) hk (ends_key b right_bracket rest hb refl refl refl) in
    let begins = (key_first k (b ++ end) hk).0 in
    rw (
      after_again is_blank a (key k (b ++ end)) ha begins,
      front_again is_blank a (key k (b ++ end)) ha begins,
      one,
      after_again is_blank b end hb refl,
      front_again is_blank b end hb refl,
    ) refl

element_again : (a : List ℕ) (k : Key) (b rest : List ℕ) → All is_blank a → IsKey k → All is_blank b
    → element_header_at (statement (element_header a k b) rest) ≡ Some (element_header a k b, rest)
unfolding element_header_at
element_again a k b rest ha hk hb =
    let end = right_bracket ∷ (right_bracket ∷ rest) in
    let one = key_again k (b ++ end) hk (ends_key b right_bracket (right_bracket ∷ rest) hb refl refl refl) in
    let begins = (key_first k (b ++ end) hk).0 in
    rw (
      after_again is_blank a (key k (b ++ end)) ha begins,
      front_again is_blank a (key k (b ++ end)) ha begins,
      one,
      after_again is_blank b end hb refl,
      front_again is_blank b end hb refl,
    ) refl

pub statement_again : (n : ℕ) (s : Statement) (rest : List ℕ) → IsGoodStatement n s → EndsValue rest
    → statement_at n (statement s rest) ≡ Some (s, rest)
unfolding statement_at
statement_again n (pair k a b v) rest good ends =
    let h = good.valid in
    let p : Pair = record { key = k; before = a; behind = b; value = v } in
    let hp : IsPair n p =
    record { key = h.0; before = h.1; behind = h.2; value = record { valid = h.3; shallow = good.shallow } }
    in
    let one = pair_again n (value_at n) p rest hp (value_again v n h.3 good.shallow) ends in
    rw ((key_starts k (a ++ (equals ∷ (b ++ value v rest))) h.0).1, one) refl
statement_again n (header a k b) rest good ends =
    let h = good.valid in
    let tail = key k (b ++ (right_bracket ∷ rest)) in
    let single : eqb (slice_index (left_bracket ∷ (a ++ tail)) 1) left_bracket ≡ false =
    not_double a tail h.0 (key_starts k (b ++ (right_bracket ∷ rest)) h.1).1 in
    rw (single, header_again a k b rest h.0 h.1 h.2) refl
statement_again n (element_header a k b) rest good ends = let h = good.valid in
    rw (element_again a k b rest h.0 h.1 h.2) refl

pub line_again : (n : ℕ) (l : Line) (rest : List ℕ) → IsGoodLine n l → EndsLine rest
    → line_at n (line l rest) ≡ Some (l, rest)
unfolding line_at
line_again n (empty_line a c) rest good ends =
    let h = good.valid in
    let begins = comment_first c rest ends in
    let more = comment_again c rest h.1 ends in
    rw (
      after_again is_blank a (comment c rest) h.0 begins.0,
      front_again is_blank a (comment c rest) h.0 begins.0,
      begins.1,
      more.0,
      more.1,
    ) refl
line_again n (full_line a s b c) rest good ends =
    let h = good.valid in
    let tail = comment c rest in
    let begins = comment_first c rest ends in
    let more = comment_again c rest h.3 ends in
    let starts = statement_first s (b ++ tail) h.1 in
    let one = statement_again n s (b ++ tail) (record { valid = h.1; shallow = good.shallow })
    (ends_value b tail h.2 (over_stop (first tail) begins.1)) in
    rw (
      after_again is_blank a (statement s (b ++ tail)) h.0 starts.0,
      front_again is_blank a (statement s (b ++ tail)) h.0 starts.0,
      starts.1,
      one,
      after_again is_blank b tail h.2 begins.0,
      front_again is_blank b tail h.2 begins.0,
      more.0,
      more.1,
    ) refl

abbrev pub count_lines : Lines → ℕ
count_lines (one_line l) = 1
count_lines (more_lines l e ls) = suc (count_lines ls)

suc_not_zero : (n : ℕ) → eqb (suc n) 0 ≡ false
suc_not_zero n = grind (arith, nat_tests)

not_over : (e : LineEnd) (rest : List ℕ) → eqb (length (line_end e rest)) 0 ≡ false
not_over lf rest = suc_not_zero (length rest)
not_over crlf rest = suc_not_zero (suc (length rest))

pub first_good : (n : ℕ) (l : Line) (e : LineEnd) (ls : Lines) → AreGoodLines n (more_lines l e ls)
    → IsGoodLine n l
first_good n l e ls h = record { valid = h.valid.0; shallow = let k = h.shallow in omega arith }

others_good : (n : ℕ) (l : Line) (e : LineEnd) (ls : Lines) → AreGoodLines n (more_lines l e ls)
    → AreGoodLines n ls
others_good n l e ls h = record { valid = h.valid.1; shallow = let k = h.shallow in omega arith }

pub lines_again : (n count : ℕ) (ls : Lines) → AreGoodLines n ls → count_lines ls ≤ count
    → lines_at n count (lines ls) ≡ Some ls
unfolding lines_at
lines_again n zero (one_line l) h few = absurd (omega arith)
lines_again n zero (more_lines l e ls) h few = absurd (omega arith)
lines_again n (suc count) (one_line l) h few =
    rw (line_again n l [] (record { valid = h.valid; shallow = h.shallow }) end_of_text) refl
lines_again n (suc count) (more_lines l e ls) h few =
    rw (
      line_again n l (line_end e (lines ls)) (first_good n l e ls h) (end_of_line e (lines ls)),
      not_over e (lines ls),
      line_end_again e (lines ls),
      lines_again n count ls (others_good n l e ls h)
          (omega arith),
    ) refl

comment_longer : (c : Option (List ℕ)) (rest : List ℕ) → length rest ≤ length (comment c rest)
comment_longer None rest = omega arith
comment_longer (Some text) rest = omega (arith, length-append text rest)

statement_longer : (n : ℕ) (s : Statement) (rest : List ℕ) → IsGoodStatement n s
    → length rest ≤ length (statement s rest)
statement_longer n (pair k a b v) rest h =
    omega (arith, pair_longer k a b (value v rest), value_longer v rest h.valid.3)
statement_longer n (header a k b) rest h =
    omega (
      arith,
      length-append a (key k (b ++ (right_bracket ∷ rest))),
      key_longer k (b ++ (right_bracket ∷ rest)),
      length-append b (right_bracket ∷ rest),
    )
statement_longer n (element_header a k b) rest h =
    let end = right_bracket ∷ (right_bracket ∷ rest) in
    omega (arith, length-append a (key k (b ++ end)), key_longer k (b ++ end), length-append b end)

line_longer : (n : ℕ) (l : Line) (rest : List ℕ) → IsGoodLine n l → length rest ≤ length (line l rest)
line_longer n (empty_line a c) rest h = omega (arith, length-append a (comment c rest), comment_longer c rest)
line_longer n (full_line a s b c) rest h =
    let good : IsGoodStatement n s = record { valid = h.valid.1; shallow = h.shallow } in
    omega (
      arith,
      length-append a (statement s (b ++ comment c rest)),
      statement_longer n s (b ++ comment c rest) good,
      length-append b (comment c rest),
      comment_longer c rest,
    )

pub few_lines : (n : ℕ) (ls : Lines) → AreGoodLines n ls → count_lines ls ≤ length (lines ls) + 1
few_lines n (one_line l) h = omega arith
few_lines n (more_lines l lf ls) h =
    omega (
      arith,
      line_longer n l (line_feed ∷ lines ls) (first_good n l lf ls h),
      few_lines n ls (others_good n l lf ls h),
    )
few_lines n (more_lines l crlf ls) h =
    omega (
      arith,
      line_longer n l (carriage_return ∷ (line_feed ∷ lines ls)) (first_good n l crlf ls h),
      few_lines n ls (others_good n l crlf ls h),
    )
