-- Parsing the text of pairs, members and elements gives them back, if it does so for their values.
use Rattle.std.proofs.Common.{◌≡◌, ℕ, zero, suc, ◌+◌, ◌≤◌, not, true, false, ◌&&◌, ◌==◌, eqb, Bool, List, [], ◌∷◌, ◌++◌, length, Some, refl, ap, arith}
use Rattle.std.proofs.lemmas.Bool.Decides.{nat_tests}
use Rattle.std.proofs.lemmas.List.{length-append}
use Rattle.edit_syntax.specs.Characters.{quote, apostrophe, comma, equals, right_bracket, right_brace, is_blank, All}
use Rattle.edit_syntax.specs.Strings.{Part, bare, basic_part, literal_part, part, Key, Dotted, key, dotted, IsKey}
use Rattle.edit_syntax.specs.Grammar.{gap, Value, basic, literal, multi_basic, multi_literal, boolean, integer, float, datetime, array, inline, Elements, no_elements, last_element, element, Members, no_members, last_member, member, value, elements, members, IsValue, AreElements, AreMembers}
use Rattle.edit_syntax.specs.Depth.{depth}
use Rattle.edit_syntax.specs.Reading.{Read, first, Pair, pair_at, members_at, elements_at}
use Rattle.edit_syntax.proofs.TokenLaws.{front_again, after_again, length-pieces}
use Rattle.edit_syntax.proofs.KeyLaws.{part_first, key_again, ends_key}
use Rattle.edit_syntax.proofs.ValueLaws.{pair_text, IsPair}
use Rattle.edit_syntax.proofs.ScalarLaws.{AreReadable, AreReadableElements}
use Rattle.edit_syntax.proofs.GapLaws.{opens_gap, gap_longer, front_gap_again, past_gap_again, gap_ends}
use Rattle.edit_syntax.specs.Numbers.{integer_text, float_text, datetime_text}
use Rattle.edit_syntax.proofs.NumberReadAgain.{is_start, integer_start, float_start}
use Rattle.edit_syntax.proofs.NumberEnds.{EndsValue}
use Rattle.edit_syntax.proofs.DateReadAgain.{datetime_start}
use Rattle.edit_syntax.proofs.ValueEdges.{value_rest}

-- the reader reads this value, under what may follow it
abbrev pub Again : (List ℕ → Read Value) → Value → Type 0
Again read v = (rest : List ℕ) → EndsValue rest → read (value v rest) ≡ Some (v, rest)

start_not_blank : (b : ℕ) → is_start b ≡ true → is_blank b ≡ false
start_not_blank b h = grind (arith, nat_tests)

pub value_first : (v : Value) (rest : List ℕ) → IsValue v → is_blank (first (value v rest)) ≡ false
value_first (basic ps) rest h = refl
value_first (literal text) rest h = refl
value_first (multi_basic ps) rest h = refl
value_first (multi_literal ps) rest h = refl
value_first (boolean true) rest h = refl
value_first (boolean false) rest h = refl
value_first (integer n) rest h = start_not_blank (first (integer_text n rest)) (integer_start n rest h)
value_first (float f) rest h = start_not_blank (first (float_text f rest)) (float_start f rest h)
value_first (datetime d) rest h = start_not_blank (first (datetime_text d rest)) (datetime_start d rest h)
value_first (array g es) rest h = refl
value_first (inline g ms) rest h = refl

pub pair_again : (n : ℕ) (read : List ℕ → Read Value) (p : Pair) (rest : List ℕ) → IsPair n p
    → Again read p.value → EndsValue rest → pair_at read (pair_text p rest) ≡ Some (p, rest)
unfolding pair_at
pair_again n read p rest h again ends =
    let more = p.behind ++ value p.value rest in
    let begins = value_first p.value rest h.value.valid in
    let k = key_again p.key (p.before ++ (equals ∷ more)) h.key
    (ends_key p.before equals more h.before refl refl refl) in
    rw (
      k,
      after_again is_blank p.before (equals ∷ more) h.before refl,
      front_again is_blank p.before (equals ∷ more) h.before refl,
      after_again is_blank p.behind (value p.value rest) h.behind begins,
      front_again is_blank p.behind (value p.value rest) h.behind begins,
      again rest ends,
    ) refl

-- ---- lengths: what follows is no longer than the whole

pub part_longer : (k : Part) (rest : List ℕ) → length rest ≤ length (part k rest)
part_longer (bare text) rest = omega (arith, length-append text rest)
part_longer (basic_part ps) rest = let h = length-pieces quote ps (quote ∷ rest) in omega arith
part_longer (literal_part text) rest = omega (arith, length-append text (apostrophe ∷ rest))

dotted_longer : (ds : List Dotted) (rest : List ℕ) → length rest ≤ length (dotted ds rest)
dotted_longer [] rest = omega arith
dotted_longer (d ∷ ds) rest =
    omega (
      arith,
      length-append d.before (46 ∷ (d.behind ++ part d.part (dotted ds rest))),
      length-append d.behind (part d.part (dotted ds rest)),
      part_longer d.part (dotted ds rest),
      dotted_longer ds rest,
    )

pub key_longer : (k : Key) (rest : List ℕ) → length rest ≤ length (key k rest)
key_longer k rest = omega (arith, part_longer k.first (dotted k.others rest), dotted_longer k.others rest)

-- how many turns the members take
abbrev pub member_turns : Members → ℕ
member_turns no_members = 1
member_turns (last_member k a b v c) = 1
member_turns (member k a b v c d ms) = suc (member_turns ms)

pub pair_longer : (k : Key) (a b : List ℕ) (rest : List ℕ)
    → suc (length rest) ≤ length (key k (a ++ (equals ∷ (b ++ rest))))
pair_longer k a b rest =
    omega (
      arith,
      key_longer k (a ++ (equals ∷ (b ++ rest))),
      length-append a (equals ∷ (b ++ rest)),
      length-append b rest,
    )

pub value_longer : (v : Value) (rest : List ℕ) → IsValue v → length rest ≤ length (value v rest)
value_longer v rest h = omega (arith, ap length (value_rest v rest), length-append (value v []) rest)

pub members_longer : (ms : Members) (rest : List ℕ) → AreMembers ms
    → length rest + member_turns ms ≤ suc (length (members ms rest))
members_longer no_members rest h = omega arith
members_longer (last_member k a b v c) rest h =
    omega (
      arith,
      pair_longer k a b (value v (gap c rest)),
      value_longer v (gap c rest) h.3,
      gap_longer c rest,
    )
members_longer (member k a b v c d ms) rest h =
    let more = gap d (members ms rest) in
    omega (
      arith,
      pair_longer k a b (value v (gap c (comma ∷ more))),
      value_longer v (gap c (comma ∷ more)) h.3,
      gap_longer c (comma ∷ more),
      gap_longer d (members ms rest),
      members_longer ms rest h.6,
    )

-- ---- members

-- the reader reads each value of these
abbrev pub AgainAll : (List ℕ → Read Value) → Members → Type 0
AgainAll read no_members = Unit {0}
AgainAll read (last_member k a b v c) = Again read v
AgainAll read (member k a b v c d ms) = Again read v × AgainAll read ms

-- a key begins with neither white space nor a gap nor a closing brace
pub key_first : (k : Key) (rest : List ℕ) → IsKey k → (is_blank (first (key k rest)) ≡ false)
    × (opens_gap (first (key k rest)) ≡ false) × (eqb (first (key k rest)) right_brace ≡ false)
key_first k rest h = part_first k.first (dotted k.others rest) h.0

-- what stands between the braces begins with no gap
pub members_gapless : (ms : Members) (rest : List ℕ) → AreMembers ms
    → opens_gap (first (members ms (right_brace ∷ rest))) ≡ false
members_gapless no_members rest h = refl
members_gapless (last_member k a b v c) rest h = (key_first k _ h.0).1
members_gapless (member k a b v c d ms) rest h = (key_first k _ h.0).1

-- the pair of a member
pair_of : (n : ℕ) (p : Pair) → IsKey p.key → All is_blank p.before → All is_blank p.behind → IsValue p.value
    → depth p.value ≤ n → IsPair n p
pair_of n p hk ha hb hv le =
    record { key = hk; before = ha; behind = hb; value = record { valid = hv; shallow = le } }

pub members_again : (n : ℕ) (read : List ℕ → Read Value) (few : ℕ) (ms : Members) (rest : List ℕ)
    → AreReadable n ms → AgainAll read ms → member_turns ms ≤ few
    → members_at read few (members ms (right_brace ∷ rest)) ≡ Some (ms, rest)
unfolding members_at
members_again n read zero no_members rest h again le = absurd (omega arith)
members_again n read zero (last_member k a b v c) rest h again le = absurd (omega arith)
members_again n read zero (member k a b v c d ms) rest h again le = absurd (omega arith)
members_again n read (suc few) no_members rest h again le = refl
members_again n read (suc few) (last_member k a b v c) rest h again le =
    let p : Pair = record { key = k; before = a; behind = b; value = v } in
    let hv = h.valid in
    let end = right_brace ∷ rest in
    let begins = (key_first k (a ++ (equals ∷ (b ++ value v (gap c end)))) hv.0).2 in
    let one = pair_again n read p (gap c end) (pair_of n p hv.0 hv.1 hv.2 hv.3 h.shallow) again
    (gap_ends c end hv.4 refl) in
    rw (begins, one, past_gap_again c end hv.4 refl, front_gap_again c end hv.4 refl) refl
members_again n read (suc few) (member k a b v c d ms) rest h again le =
    let p : Pair = record { key = k; before = a; behind = b; value = v } in
    let hv = h.valid in
    let hd : depth v ≤ n = let w = h.shallow in omega arith in
    let hms : AreReadable n ms = record { valid = hv.6; shallow = let w = h.shallow in omega arith } in
    let more = members ms (right_brace ∷ rest) in
    let end = comma ∷ gap d more in
    let begins = (key_first k (a ++ (equals ∷ (b ++ value v (gap c end)))) hv.0).2 in
    let one = pair_again n read p (gap c end) (pair_of n p hv.0 hv.1 hv.2 hv.3 hd) again.0
    (gap_ends c end hv.4 refl) in
    let inner = members_gapless ms rest hv.6 in
    let others = members_again n read few ms rest hms again.1 (omega arith) in
    rw (
      begins,
      one,
      past_gap_again c end hv.4 refl,
      front_gap_again c end hv.4 refl,
      past_gap_again d more hv.5 inner,
      front_gap_again d more hv.5 inner,
      others,
    ) refl

-- ---- elements

-- what values begin with is neither a gap nor the closing bracket
abbrev pub starts_value : ℕ → Bool
starts_value b = not (opens_gap b) && not (b == right_bracket)

number_starts : (b : ℕ) → is_start b ≡ true → starts_value b ≡ true
number_starts b h = grind (arith, nat_tests)

pub value_starts : (v : Value) (rest : List ℕ) → IsValue v → starts_value (first (value v rest)) ≡ true
value_starts (basic ps) rest h = refl
value_starts (literal text) rest h = refl
value_starts (multi_basic ps) rest h = refl
value_starts (multi_literal ps) rest h = refl
value_starts (boolean true) rest h = refl
value_starts (boolean false) rest h = refl
value_starts (integer n) rest h = number_starts (first (integer_text n rest)) (integer_start n rest h)
value_starts (float f) rest h = number_starts (first (float_text f rest)) (float_start f rest h)
value_starts (datetime d) rest h = number_starts (first (datetime_text d rest)) (datetime_start d rest h)
value_starts (array g es) rest h = refl
value_starts (inline g ms) rest h = refl

starts_parts : (b : ℕ) → starts_value b ≡ true → (opens_gap b ≡ false) × (eqb b right_bracket ≡ false)
starts_parts b h = (grind (arith, nat_tests), grind (arith, nat_tests))

value_begins : (v : Value) (rest : List ℕ) → IsValue v → (opens_gap (first (value v rest)) ≡ false)
    × (eqb (first (value v rest)) right_bracket ≡ false)
value_begins v rest h = starts_parts (first (value v rest)) (value_starts v rest h)

-- what stands between the brackets begins with no gap
pub elements_gapless : (es : Elements) (rest : List ℕ) → AreElements es
    → opens_gap (first (elements es (right_bracket ∷ rest))) ≡ false
elements_gapless no_elements rest h = refl
elements_gapless (last_element v g) rest h = (value_begins v (gap g (right_bracket ∷ rest)) h.0).0
elements_gapless (element v g h2 es) rest h =
    (value_begins v (gap g (comma ∷ gap h2 (elements es (right_bracket ∷ rest)))) h.0).0

-- how many turns the elements take
abbrev pub turns : Elements → ℕ
turns no_elements = 1
turns (last_element v g) = 1
turns (element v g h es) = suc (turns es)

pub elements_longer : (es : Elements) (rest : List ℕ) → AreElements es
    → length rest + turns es ≤ suc (length (elements es rest))
elements_longer no_elements rest h = omega arith
elements_longer (last_element v g) rest h = omega (arith, value_longer v (gap g rest) h.0, gap_longer g rest)
elements_longer (element v g h2 es) rest h =
    let more = gap h2 (elements es rest) in
    omega (
      arith,
      value_longer v (gap g (comma ∷ more)) h.0,
      gap_longer g (comma ∷ more),
      gap_longer h2 (elements es rest),
      elements_longer es rest h.3,
    )

-- the reader reads each value of these
abbrev pub AgainElements : (List ℕ → Read Value) → Elements → Type 0
AgainElements read no_elements = Unit {0}
AgainElements read (last_element v g) = Again read v
AgainElements read (element v g h es) = Again read v × AgainElements read es

pub elements_again : (n : ℕ) (read : List ℕ → Read Value) (few : ℕ) (es : Elements) (rest : List ℕ)
    → AreReadableElements n es → AgainElements read es → turns es ≤ few
    → elements_at read few (elements es (right_bracket ∷ rest)) ≡ Some (es, rest)
unfolding elements_at
elements_again n read zero no_elements rest h again le = absurd (omega arith)
elements_again n read zero (last_element v g) rest h again le = absurd (omega arith)
elements_again n read zero (element v g h2 es) rest h again le = absurd (omega arith)
elements_again n read (suc few) no_elements rest h again le = refl
elements_again n read (suc few) (last_element v g) rest h again le =
    let hv = h.valid in
    let end = right_bracket ∷ rest in
    let begins = value_begins v (gap g end) hv.0 in
    rw (
      begins.1,
      again (gap g end) (gap_ends g end hv.1 refl),
      past_gap_again g end hv.1 refl,
      front_gap_again g end hv.1 refl,
    ) refl
elements_again n read (suc few) (element v g h2 es) rest h again le =
    let hv = h.valid in
    let more = elements es (right_bracket ∷ rest) in
    let end = comma ∷ gap h2 more in
    let begins = value_begins v (gap g end) hv.0 in
    let inner = elements_gapless es rest hv.3 in
    let hes : AreReadableElements n es =
    record { valid = hv.3; shallow = let w = h.shallow in omega arith } in
    let others = elements_again n read few es rest hes again.1 (omega arith) in
    rw (
      begins.1,
      again.0 (gap g end) (gap_ends g end hv.1 refl),
      past_gap_again g end hv.1 refl,
      front_gap_again g end hv.1 refl,
      past_gap_again h2 more hv.2 inner,
      front_gap_again h2 more hv.2 inner,
      others,
    ) refl
