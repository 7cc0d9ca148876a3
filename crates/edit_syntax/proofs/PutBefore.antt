-- A relation of two texts that is preserved when one byte is put before both is preserved when any part of
-- the grammar is.
use Rattle.std.proofs.Common.{ℕ, Bool, true, false, List, [], ◌∷◌, ◌++◌, Option, None, Some, ◌≡◌, refl, ap}
use Rattle.edit_syntax.specs.Characters.{comma, equals, left_bracket, right_bracket, left_brace, right_brace, hash}
use Rattle.edit_syntax.specs.Strings.{LineEnd, lf, crlf, line_end, Space, spaces, Piece, plain, letter, short, long, feed, fold, delimiter, piece, pieces, Part, bare, basic_part, literal_part, part, Dotted, dotted, Key, key}
use Rattle.edit_syntax.specs.Strings.{blank as space_blank, break as space_break}
use Rattle.edit_syntax.specs.Numbers.{Sign, no_sign, plus, minus, sign, Integer, decimal, based, integer_text, Exponent, exponent, optional_exponent, Float, with_fraction, with_exponent, infinite, not_a_number, float_text, Date, Time, date, time, fraction_text, Offset, local, zulu, shift, offset, DateTime, only_date, only_time, both, datetime_text}
use Rattle.edit_syntax.specs.Grammar.{Between, blank, break, remark, gap, Value, basic, literal, multi_basic, multi_literal, boolean, integer, float, datetime, array, inline, value, Elements, no_elements, last_element, element, elements, Members, no_members, last_member, member, members, Statement, pair, header, element_header, statement, comment, Line, empty_line, full_line, line, byte_order_mark}

abbrev pub Relation : Type 1
Relation = List ℕ → List ℕ → Type 0

-- preserved where a byte is put before both
abbrev pub IsPreserved : Relation → Type 0
IsPreserved R = (c : ℕ) (old new : List ℕ) → R old new → R (c ∷ old) (c ∷ new)

pub put_before : (R : Relation) (one : IsPreserved R) (t old new : List ℕ) → R old new → R (t ++ old) (t ++ new)
put_before R one [] old new s = s
put_before R one (c ∷ t) old new s = one c (t ++ old) (t ++ new) (put_before R one t old new s)

pub end_before : (R : Relation) (one : IsPreserved R) (e : LineEnd) (old new : List ℕ) → R old new
    → R (line_end e old) (line_end e new)
end_before R one lf old new s = one 10 old new s
end_before R one crlf old new s = one 13 _ _ (one 10 old new s)

spaces_before : (R : Relation) (one : IsPreserved R) (ws : List Space) (old new : List ℕ) → R old new
    → R (spaces ws old) (spaces ws new)
spaces_before R one [] old new s = s
spaces_before R one (space_blank b ∷ ws) old new s = one b _ _ (spaces_before R one ws old new s)
spaces_before R one (space_break e ∷ ws) old new s = end_before R one e _ _ (spaces_before R one ws old new s)

pub piece_before : (R : Relation) (one : IsPreserved R) (m : ℕ) (p : Piece) (old new : List ℕ) → R old new
    → R (piece m p old) (piece m p new)
piece_before R one m (plain b) old new s = one b old new s
piece_before R one m (letter c) old new s = one 92 _ _ (one c old new s)
piece_before R one m (short digits) old new s = one 92 _ _ (one 117 _ _ (put_before R one digits old new s))
piece_before R one m (long digits) old new s = one 92 _ _ (one 85 _ _ (put_before R one digits old new s))
piece_before R one m (feed e) old new s = end_before R one e old new s
piece_before R one m (fold ws e more) old new s =
    one 92 _ _ (put_before R one ws _ _ (end_before R one e _ _ (spaces_before R one more old new s)))
piece_before R one m delimiter old new s = one m old new s

pub pieces_before : (R : Relation) (one : IsPreserved R) (m : ℕ) (ps : List Piece) (old new : List ℕ) → R old new
    → R (pieces m ps old) (pieces m ps new)
pieces_before R one m [] old new s = s
pieces_before R one m (p ∷ ps) old new s = piece_before R one m p _ _ (pieces_before R one m ps old new s)

part_before : (R : Relation) (one : IsPreserved R) (p : Part) (old new : List ℕ) → R old new
    → R (part p old) (part p new)
part_before R one (bare t) old new s = put_before R one t old new s
part_before R one (basic_part ps) old new s = one 34 _ _ (pieces_before R one 34 ps _ _ (one 34 old new s))
part_before R one (literal_part t) old new s = one 39 _ _ (put_before R one t _ _ (one 39 old new s))

dotted_before : (R : Relation) (one : IsPreserved R) (ds : List Dotted) (old new : List ℕ) → R old new
    → R (dotted ds old) (dotted ds new)
dotted_before R one [] old new s = s
dotted_before R one (d ∷ ds) old new s = put_before R one d.before _ _
    (one 46 _ _ (put_before R one d.behind _ _
    (part_before R one d.part _ _ (dotted_before R one ds old new s))))

pub key_before : (R : Relation) (one : IsPreserved R) (k : Key) (old new : List ℕ) → R old new
    → R (key k old) (key k new)
key_before R one k old new s = part_before R one k.first _ _ (dotted_before R one k.others old new s)

pub pair_before : (R : Relation) (one : IsPreserved R) (k : Key) (a b old new : List ℕ) → R old new
    → R (key k (a ++ (equals ∷ (b ++ old)))) (key k (a ++ (equals ∷ (b ++ new))))
pair_before R one k a b old new s = key_before R one k _ _
    (put_before R one a _ _ (one equals _ _ (put_before R one b old new s)))

pub gap_before : (R : Relation) (one : IsPreserved R) (g : List Between) (old new : List ℕ) → R old new
    → R (gap g old) (gap g new)
gap_before R one [] old new s = s
gap_before R one (blank b ∷ g) old new s = one b _ _ (gap_before R one g old new s)
gap_before R one (break e ∷ g) old new s = end_before R one e _ _ (gap_before R one g old new s)
gap_before R one (remark t e ∷ g) old new s = one hash _ _
    (put_before R one t _ _ (end_before R one e _ _ (gap_before R one g old new s)))

sign_before : (R : Relation) (one : IsPreserved R) (g : Sign) (old new : List ℕ) → R old new
    → R (sign g old) (sign g new)
sign_before R one no_sign old new s = s
sign_before R one plus old new s = one 43 old new s
sign_before R one minus old new s = one 45 old new s

integer_before : (R : Relation) (one : IsPreserved R) (n : Integer) (old new : List ℕ) → R old new
    → R (integer_text n old) (integer_text n new)
integer_before R one (decimal g ds) old new s = sign_before R one g _ _ (put_before R one ds old new s)
integer_before R one (based b ds) old new s = one 48 _ _ (one _ _ _ (put_before R one ds old new s))

exponent_before : (R : Relation) (one : IsPreserved R) (e : Exponent) (old new : List ℕ) → R old new
    → R (exponent e old) (exponent e new)
exponent_before R one e old new s =
    one e.letter _ _ (sign_before R one e.sign _ _ (put_before R one e.digits old new s))

optional_before : (R : Relation) (one : IsPreserved R) (e : Option Exponent) (old new : List ℕ) → R old new
    → R (optional_exponent e old) (optional_exponent e new)
optional_before R one None old new s = s
optional_before R one (Some e) old new s = exponent_before R one e old new s

float_before : (R : Relation) (one : IsPreserved R) (f : Float) (old new : List ℕ) → R old new
    → R (float_text f old) (float_text f new)
float_before R one (with_fraction g w f e) old new s = sign_before R one g _ _
    (put_before R one w _ _ (one 46 _ _ (put_before R one f _ _ (optional_before R one e old new s))))
float_before R one (with_exponent g w e) old new s = sign_before R one g _ _
    (put_before R one w _ _ (exponent_before R one e old new s))
float_before R one (infinite g) old new s = sign_before R one g _ _
    (one 105 _ _ (one 110 _ _ (one 102 old new s)))
float_before R one (not_a_number g) old new s = sign_before R one g _ _
    (one 110 _ _ (one 97 _ _ (one 110 old new s)))

fraction_before : (R : Relation) (one : IsPreserved R) (f : Option (List ℕ)) (old new : List ℕ) → R old new
    → R (fraction_text f old) (fraction_text f new)
fraction_before R one None old new s = s
fraction_before R one (Some ds) old new s = one 46 _ _ (put_before R one ds old new s)

date_before : (R : Relation) (one : IsPreserved R) (d : Date) (old new : List ℕ) → R old new
    → R (date d old) (date d new)
date_before R one d old new s = put_before R one d.year _ _
    (one 45 _ _ (put_before R one d.month _ _ (one 45 _ _ (put_before R one d.day old new s))))

time_before : (R : Relation) (one : IsPreserved R) (t : Time) (old new : List ℕ) → R old new
    → R (time t old) (time t new)
time_before R one t old new s = put_before R one t.hour _ _
    (one 58 _ _ (put_before R one t.minute _ _
    (one 58 _ _ (put_before R one t.second _ _ (fraction_before R one t.fraction old new s)))))

offset_before : (R : Relation) (one : IsPreserved R) (o : Offset) (old new : List ℕ) → R old new
    → R (offset o old) (offset o new)
offset_before R one local old new s = s
offset_before R one (zulu z) old new s = one z old new s
offset_before R one (shift g h m) old new s =
    one g _ _ (put_before R one h _ _ (one 58 _ _ (put_before R one m old new s)))

datetime_before : (R : Relation) (one : IsPreserved R) (d : DateTime) (old new : List ℕ) → R old new
    → R (datetime_text d old) (datetime_text d new)
datetime_before R one (only_date d) old new s = date_before R one d old new s
datetime_before R one (only_time t) old new s = time_before R one t old new s
datetime_before R one (both d c t o) old new s = date_before R one d _ _
    (one c _ _ (time_before R one t _ _ (offset_before R one o old new s)))

three_before : (R : Relation) (one : IsPreserved R) (m : ℕ) (old new : List ℕ) → R old new
    → R (m ∷ (m ∷ (m ∷ old))) (m ∷ (m ∷ (m ∷ new)))
three_before R one m old new s = one m _ _ (one m _ _ (one m old new s))

mutual
  pub value_before : (R : Relation) (one : IsPreserved R) (v : Value) (old new : List ℕ) → R old new
      → R (value v old) (value v new)
  value_before R one (basic ps) old new s = one 34 _ _ (pieces_before R one 34 ps _ _ (one 34 old new s))
  value_before R one (literal t) old new s = one 39 _ _ (put_before R one t _ _ (one 39 old new s))
  value_before R one (multi_basic ps) old new s = three_before R one 34 _ _
      (pieces_before R one 34 ps _ _ (three_before R one 34 old new s))
  value_before R one (multi_literal ps) old new s = three_before R one 39 _ _
      (pieces_before R one 39 ps _ _ (three_before R one 39 old new s))
  value_before R one (boolean true) old new s = one 116 _ _ (one 114 _ _ (one 117 _ _ (one 101 old new s)))
  value_before R one (boolean false) old new s =
      one 102 _ _ (one 97 _ _ (one 108 _ _ (one 115 _ _ (one 101 old new s))))
  value_before R one (integer n) old new s = integer_before R one n old new s
  value_before R one (float f) old new s = float_before R one f old new s
  value_before R one (datetime d) old new s = datetime_before R one d old new s
  value_before R one (array g es) old new s = one left_bracket _ _
      (gap_before R one g _ _ (elements_before R one es _ _ (one right_bracket old new s)))
  value_before R one (inline g ms) old new s = one left_brace _ _
      (gap_before R one g _ _ (members_before R one ms _ _ (one right_brace old new s)))

  pub elements_before : (R : Relation) (one : IsPreserved R) (es : Elements) (old new : List ℕ) → R old new
      → R (elements es old) (elements es new)
  elements_before R one no_elements old new s = s
  elements_before R one (last_element v g) old new s = value_before R one v _ _ (gap_before R one g old new s)
  elements_before R one (element v g h es) old new s = value_before R one v _ _
      (gap_before R one g _ _ (one comma _ _ (gap_before R one h _ _ (elements_before R one es old new s))))

  pub members_before : (R : Relation) (one : IsPreserved R) (ms : Members) (old new : List ℕ) → R old new
      → R (members ms old) (members ms new)
  members_before R one no_members old new s = s
  members_before R one (last_member k a b v c) old new s =
      pair_before R one k a b _ _ (value_before R one v _ _ (gap_before R one c old new s))
  members_before R one (member k a b v c d ms) old new s =
      pair_before R one k a b _ _
      (value_before R one v _ _
      (gap_before R one c _ _ (one comma _ _ (gap_before R one d _ _ (members_before R one ms old new s)))))

pub comment_before : (R : Relation) (one : IsPreserved R) (c : Option (List ℕ)) (old new : List ℕ) → R old new
    → R (comment c old) (comment c new)
comment_before R one None old new s = s
comment_before R one (Some t) old new s = one 35 _ _ (put_before R one t old new s)

pub statement_before : (R : Relation) (one : IsPreserved R) (s : Statement) (old new : List ℕ) → R old new
    → R (statement s old) (statement s new)
statement_before R one (pair k a b v) old new s = pair_before R one k a b _ _ (value_before R one v old new s)
statement_before R one (header a k b) old new s =
    one 91 _ _ (put_before R one a _ _ (key_before R one k _ _ (put_before R one b _ _ (one 93 old new s))))
statement_before R one (element_header a k b) old new s =
    one 91 _ _ (one 91 _ _
    (put_before R one a _ _
    (key_before R one k _ _ (put_before R one b _ _ (one 93 _ _ (one 93 old new s))))))

pub line_before : (R : Relation) (one : IsPreserved R) (l : Line) (old new : List ℕ) → R old new
    → R (line l old) (line l new)
line_before R one (empty_line a c) old new s = put_before R one a _ _ (comment_before R one c old new s)
line_before R one (full_line a t b c) old new s = put_before R one a _ _
    (statement_before R one t _ _ (put_before R one b _ _ (comment_before R one c old new s)))

pub byte_order_mark_before : (R : Relation) (one : IsPreserved R) (m : Bool) (old new : List ℕ) → R old new
    → R (byte_order_mark m old) (byte_order_mark m new)
byte_order_mark_before R one true old new s = one 0xEF _ _ (one 0xBB _ _ (one 0xBF old new s))
byte_order_mark_before R one false old new s = s

-- ---- what follows stands behind the bytes of a part of the grammar

-- these bytes and then the rest
abbrev pub Behind : List ℕ → Relation
Behind rest = λ whole own. whole ≡ own ++ rest

pub behind_one : (rest : List ℕ) → IsPreserved (Behind rest)
behind_one rest c whole own e = ap (λ (l : List ℕ). c ∷ l) e

pub piece_rest : (m : ℕ) (p : Piece) (rest : List ℕ) → piece m p rest ≡ piece m p [] ++ rest
piece_rest m p rest = piece_before (Behind rest) (behind_one rest) m p rest [] refl

pub pieces_rest : (m : ℕ) (ps : List Piece) (rest : List ℕ) → pieces m ps rest ≡ pieces m ps [] ++ rest
pieces_rest m ps rest = pieces_before (Behind rest) (behind_one rest) m ps rest [] refl
