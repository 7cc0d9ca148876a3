-- Parsing the text of a value gives it back, whichever syntax tree the text is taken to have.
use Rattle.std.proofs.Common.{◌≡◌, ℕ, zero, suc, ◌≤◌, true, false, eqb, List, [], ◌∷◌, length, Some, refl, ◌∙◌, arith}
use Rattle.std.proofs.lemmas.Bool.Decides.{nat_tests}
use Rattle.edit_syntax.specs.Characters.{quote, apostrophe, left_bracket, right_bracket, left_brace, right_brace, All}
use Rattle.edit_syntax.specs.Grammar.{Between, gap, IsGap, Value, basic, literal, multi_basic, multi_literal, boolean, integer, float, datetime, array, inline, Elements, no_elements, last_element, element, Members, no_members, last_member, member, value, elements, members, IsValue, AreElements, AreMembers}
use Rattle.edit_syntax.specs.Depth.{depth, elements_depth, members_depth}
use Rattle.edit_syntax.specs.Reading.{first, scalar_at, value_at}
use Rattle.edit_syntax.proofs.TokenLaws.{basic_again, literal_again}
use Rattle.edit_syntax.proofs.ScalarLaws.{AreReadable, AreReadableElements}
use Rattle.edit_syntax.proofs.GapLaws.{gap_longer, front_gap_again, past_gap_again}
use Rattle.edit_syntax.specs.Numbers.{integer_text, float_text, datetime_text}
use Rattle.edit_syntax.specs.ReadingNumbers.{begins, number_at}
use Rattle.std.specs.List.{AllByRecursion}
use Rattle.edit_syntax.specs.Strings.{Piece, pieces, IsBasicPiece, basic_text, literal_text}
use Rattle.edit_syntax.specs.Characters.{is_literal_ch}
use Rattle.edit_syntax.proofs.TokenLaws.{piece_first}
use Rattle.edit_syntax.proofs.MultiReadAgain.{multi_basic_again, multi_literal_again}
use Rattle.edit_syntax.proofs.PieceReadAgain.{literal_other}
use Rattle.edit_syntax.proofs.NumberReadAgain.{is_start, integer_start, float_start, integer_again, float_again}
use Rattle.edit_syntax.proofs.NumberEnds.{EndsValue}
use Rattle.edit_syntax.proofs.DateReadAgain.{datetime_start, datetime_again}
use Rattle.edit_syntax.proofs.MembersReadAgain.{Again, members_longer, AgainAll, members_again, elements_gapless, turns, elements_longer, AgainElements, elements_again, member_turns, members_gapless}

-- ---- values

-- what numbers begin with is nothing else
record IsNumberFirst (b : ℕ) : Type 0 where
  no_quote : eqb b quote ≡ false
  no_apostrophe : eqb b apostrophe ≡ false
  no_t : eqb b 116 ≡ false
  no_f : eqb b 102 ≡ false
  no_brace : eqb b left_brace ≡ false
  no_bracket : eqb b left_bracket ≡ false

number_first : (b : ℕ) → is_start b ≡ true → IsNumberFirst b
number_first b h = record {
  no_quote = grind (arith, nat_tests);
  no_apostrophe = grind (arith, nat_tests);
  no_t = grind (arith, nat_tests);
  no_f = grind (arith, nat_tests);
  no_brace = grind (arith, nat_tests);
  no_bracket = grind (arith, nat_tests);
}

number_scalar : (text : List ℕ) → is_start (first text) ≡ true → scalar_at text ≡ number_at text
unfolding scalar_at
number_scalar text h = let n = number_first (first text) h in
    rw (n.no_quote, n.no_apostrophe, n.no_t, n.no_f) refl

-- a string on one line begins with one delimiter, or is empty
one_quote : (ps : List Piece) (rest : List ℕ) → AllByRecursion IsBasicPiece ps
    → eqb (first rest) quote ≡ false → begins quote quote quote (basic_text ps rest) ≡ false
one_quote [] rest h ends = rw ends refl
one_quote (p ∷ ps) rest h ends = let other = piece_first p (pieces quote ps (quote ∷ rest)) h.0 in
    rw other refl

one_apostrophe : (text rest : List ℕ) → All is_literal_ch text → eqb (first rest) apostrophe ≡ false
    → begins apostrophe apostrophe apostrophe (literal_text text rest) ≡ false
one_apostrophe [] rest h ends = rw ends refl
one_apostrophe (b ∷ text) rest h ends = rw (literal_other b h.0) refl

scalar_again : (v : Value) (rest : List ℕ) → IsValue v → depth v ≡ 0 → EndsValue rest
    → scalar_at (value v rest) ≡ Some (v, rest)
unfolding scalar_at
scalar_again (basic ps) rest h e ends = rw (one_quote ps rest h ends.no_quote, basic_again ps rest h) refl
scalar_again (literal text) rest h e ends =
    rw (one_apostrophe text rest h ends.no_apostrophe, literal_again text rest h) refl
scalar_again (multi_basic ps) rest h e ends = rw (multi_basic_again ps rest h.0 h.1 h.2 ends.no_quote) refl
scalar_again (multi_literal ps) rest h e ends =
    rw (multi_literal_again ps rest h.0 h.1 ends.no_apostrophe) refl
scalar_again (boolean true) rest h e ends = refl
scalar_again (boolean false) rest h e ends = refl
scalar_again (integer n) rest h e ends = number_scalar (integer_text n rest) (integer_start n rest h) ∙
    integer_again n rest h ends
scalar_again (float f) rest h e ends = number_scalar (float_text f rest) (float_start f rest h) ∙
    float_again f rest h ends
scalar_again (datetime d) rest h e ends = number_scalar (datetime_text d rest) (datetime_start d rest h) ∙
    datetime_again d rest h ends
scalar_again (array g es) rest h e ends = absurd (omega arith)
scalar_again (inline g ms) rest h e ends = absurd (omega arith)

inline_again : (n : ℕ) (g : List Between) (ms : Members) (rest : List ℕ) → IsGap g → AreReadable n ms
    → AgainAll (value_at n) ms → value_at (suc n) (value (inline g ms) rest) ≡ Some (inline g ms, rest)
unfolding value_at
inline_again n g ms rest hg h again =
    let more = members ms (right_brace ∷ rest) in
    let begins = members_gapless ms rest h.valid in
    let enough : member_turns ms ≤ length (left_brace ∷ gap g more) =
    omega (arith, gap_longer g more, members_longer ms (right_brace ∷ rest) h.valid) in
    rw (
      past_gap_again g more hg begins,
      front_gap_again g more hg begins,
      members_again n (value_at n) (length (left_brace ∷ gap g more)) ms rest h again enough,
    ) refl

array_again : (n : ℕ) (g : List Between) (es : Elements) (rest : List ℕ) → IsGap g → AreReadableElements n es
    → AgainElements (value_at n) es → value_at (suc n) (value (array g es) rest) ≡ Some (array g es, rest)
unfolding value_at
array_again n g es rest hg h again =
    let more = elements es (right_bracket ∷ rest) in
    let begins = elements_gapless es rest h.valid in
    let enough : turns es ≤ length (left_bracket ∷ gap g more) =
    omega (arith, gap_longer g more, elements_longer es (right_bracket ∷ rest) h.valid) in
    rw (
      past_gap_again g more hg begins,
      front_gap_again g more hg begins,
      elements_again n (value_at n) (length (left_bracket ∷ gap g more)) es rest h again enough,
    ) refl

-- a value that is one token begins neither an array nor an inline table
record IsFlat (b : ℕ) : Type 0 where
  no_bracket : eqb b left_bracket ≡ false
  no_brace : eqb b left_brace ≡ false

flat_first : (b : ℕ) → is_start b ≡ true → IsFlat b
flat_first b h = let n = number_first b h in record { no_bracket = n.no_bracket; no_brace = n.no_brace }

flat_again : (n : ℕ) (v : Value) (rest : List ℕ) → IsValue v → depth v ≡ 0 → EndsValue rest
    → IsFlat (first (value v rest)) → value_at n (value v rest) ≡ Some (v, rest)
unfolding value_at
flat_again zero v rest h e ends other = scalar_again v rest h e ends
flat_again (suc n) v rest h e ends other = rw (other.no_bracket, other.no_brace)
    (scalar_again v rest h e ends)

mutual
  pub value_again : (v : Value) (n : ℕ) → IsValue v → depth v ≤ n → Again (value_at n) v
  value_again (basic ps) n h le rest ends = flat_again n (basic ps) rest h refl ends
      (record { no_bracket = refl; no_brace = refl })
  value_again (literal text) n h le rest ends = flat_again n (literal text) rest h refl ends
      (record { no_bracket = refl; no_brace = refl })
  value_again (multi_basic ps) n h le rest ends = flat_again n (multi_basic ps) rest h refl ends
      (record { no_bracket = refl; no_brace = refl })
  value_again (multi_literal ps) n h le rest ends = flat_again n (multi_literal ps) rest h refl ends
      (record { no_bracket = refl; no_brace = refl })
  value_again (boolean true) n h le rest ends = flat_again n (boolean true) rest h refl ends
      (record { no_bracket = refl; no_brace = refl })
  value_again (boolean false) n h le rest ends = flat_again n (boolean false) rest h refl ends
      (record { no_bracket = refl; no_brace = refl })
  value_again (integer i) n h le rest ends = flat_again n (integer i) rest h refl ends
      (flat_first (first (integer_text i rest)) (integer_start i rest h))
  value_again (float f) n h le rest ends = flat_again n (float f) rest h refl ends
      (flat_first (first (float_text f rest)) (float_start f rest h))
  value_again (datetime d) n h le rest ends = flat_again n (datetime d) rest h refl ends
      (flat_first (first (datetime_text d rest)) (datetime_start d rest h))
  value_again (array g es) zero h le rest ends = absurd (omega arith)
  value_again (array g es) (suc n) h le rest ends = array_again n g es rest h.0
      (record { valid = h.1; shallow = omega arith }) (each_again es n h.1 (omega arith))
  value_again (inline g ms) zero h le rest ends = absurd (omega arith)
  value_again (inline g ms) (suc n) h le rest ends = inline_again n g ms rest h.0
      (record { valid = h.1; shallow = omega arith }) (all_again ms n h.1 (omega arith))

  each_again : (es : Elements) (n : ℕ) → AreElements es → elements_depth es ≤ n
      → AgainElements (value_at n) es
  each_again no_elements n h le = tt
  each_again (last_element v g) n h le = value_again v n h.0 le
  each_again (element v g h2 es) n h le =
      (value_again v n h.0 (omega arith), each_again es n h.3 (omega arith))

  all_again : (ms : Members) (n : ℕ) → AreMembers ms → members_depth ms ≤ n → AgainAll (value_at n) ms
  all_again no_members n h le = tt
  all_again (last_member k a b v c) n h le = value_again v n h.3 le
  all_again (member k a b v c d ms) n h le =
      (value_again v n h.3 (omega arith), all_again ms n h.6 (omega arith))
