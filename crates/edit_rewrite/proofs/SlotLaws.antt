-- Elements and members: their texts, how these begin, and what is left where some are removed.
use Rattle.std.proofs.Common.{◌≡◌, ℕ, suc, ◌+◌, ◌-◌, ◌≤◌, Bool, true, false, cond, eqb, if◌then◌else◌, List, [], ◌∷◌, ◌++◌, length, drop, refl, sym, true≢false, ap, arith}
use Rattle.std.proofs.lemmas.Bool.Decides.{nat_tests}
use Rattle.std.proofs.lemmas.List.{length-append}
use Rattle.std.specs.List.{prefix_len}
use Rattle.edit_syntax.specs.Characters.{comma, equals, is_blank}
use Rattle.edit_syntax.specs.Strings.{lf, crlf}
use Rattle.edit_syntax.specs.Grammar.{Between, blank, break, remark, gap, IsGap, value, Elements, no_elements, last_element, element, elements, AreElements, Members, no_members, last_member, member, members, AreMembers}
use Rattle.edit_syntax.specs.Depth.{elements_depth, members_depth}
use Rattle.edit_syntax.specs.Reading.{first, after}
use Rattle.edit_syntax.proofs.PutBefore.{Behind, behind_one, gap_before, pair_before}
use Rattle.edit_syntax.proofs.ValueEdges.{value_rest}
use Rattle.edit_syntax.proofs.GapLaws.{opens_gap}
use Rattle.edit_syntax.proofs.MembersReadAgain.{starts_value, value_starts, key_first}
use Rattle.edit_tree.specs.RemovedBytes.{Left, left_with_comma, left_without_comma, without_blanks, without_member, behind_comma}
use Rattle.edit_tree.specs.Slots.{Slot, of_value, of_pair, slot, IsSlot, Slots, no_slots, last_slot, more_slots, slots, AreSlots, closing, of_elements, of_members, is_item_removed, slots_left}
use Rattle.edit_tree.specs.Assertions.{Place}
use Rattle.edit_rewrite.specs.Remainders.{before_end}
use Rattle.edit_tree.proofs.Ends.{take_length}

-- ---- texts

pub gap_rest : (g : List Between) (rest : List ℕ) → gap g rest ≡ gap g [] ++ rest
gap_rest g rest = gap_before (Behind rest) (behind_one rest) g rest [] refl

pub slot_rest : (s : Slot) (rest : List ℕ) → slot s rest ≡ slot s [] ++ rest
slot_rest (of_value v) rest = value_rest v rest
slot_rest (of_pair k a b v) rest = pair_before (Behind rest) (behind_one rest) k a b (value v rest)
    (value v []) (value_rest v rest)

pub before_is : (from x to : List ℕ) → from ≡ x ++ to → before_end from to ≡ x
before_is from x to e =
    let n : length from - length to ≡ length x = omega (arith, ap length e, length-append x to) in
    rw (n, e) (take_length x to)

pub elements_text : (es : Elements) (rest : List ℕ) → slots (of_elements es) rest ≡ elements es rest
elements_text no_elements rest = refl
elements_text (last_element v g) rest = refl
elements_text (element v g h es) rest = ap (λ (t : List ℕ). value v (gap g (comma ∷ gap h t)))
    (elements_text es rest)

pub members_text : (ms : Members) (rest : List ℕ) → slots (of_members ms) rest ≡ members ms rest
members_text no_members rest = refl
members_text (last_member k a b v c) rest = refl
members_text (member k a b v c d ms) rest =
    ap (λ (t : List ℕ). slot (of_pair k a b v) (gap c (comma ∷ gap d t))) (members_text ms rest)

pub elements_valid : (es : Elements) → AreElements es → elements_depth es ≤ 80
    → AreSlots false (of_elements es)
elements_valid no_elements h le = tt
elements_valid (last_element v g) h le = ((refl, h.0, le), h.1)
elements_valid (element v g x es) h le =
    ((refl, h.0, omega arith), h.1, h.2, elements_valid es h.3 (omega arith))

pub members_valid : (ms : Members) → AreMembers ms → members_depth ms ≤ 80 → AreSlots true (of_members ms)
members_valid no_members h le = tt
members_valid (last_member k a b v c) h le = ((refl, h.0, h.1, h.2, h.3, le), h.4)
members_valid (member k a b v c d ms) h le =
    ((refl, h.0, h.1, h.2, h.3, omega arith), h.4, h.5, members_valid ms h.6 (omega arith))

-- ---- first bytes

-- what an element or a member begins with: no gap, and not the closing bracket or brace
pub record Begins (is_table : Bool) (b : ℕ) : Type 0 where
  pub gapless : opens_gap b ≡ false
  pub unshut : eqb b (closing is_table) ≡ false

array_begins : (b : ℕ) → starts_value b ≡ true → Begins false b
array_begins b h = record { gapless = grind (arith, nat_tests); unshut = grind (arith, nat_tests) }

pub slot_begins : (t : Bool) (s : Slot) (rest : List ℕ) → IsSlot t s → Begins t (first (slot s rest))
slot_begins t (of_value v) rest h = rw h.0 (array_begins (first (value v rest)) (value_starts v rest h.1))
slot_begins t (of_pair k a b v) rest h =
    let f = key_first k (a ++ (equals ∷ (b ++ value v rest))) h.1 in
    rw h.0 (record { gapless = f.1; unshut = f.2 })

pub no_blank : (b : ℕ) → opens_gap b ≡ false → is_blank b ≡ false
no_blank b h = grind (arith, nat_tests)

closing_gapless : (t : Bool) → opens_gap (closing t) ≡ false
closing_gapless true = refl
closing_gapless false = refl

pub slots_gapless : (t : Bool) (ss : Slots) → AreSlots t ss
    → opens_gap (first (slots ss (closing t ∷ []))) ≡ false
slots_gapless t no_slots h = closing_gapless t
slots_gapless t (last_slot s c) h = (slot_begins t s _ h.0).gapless
slots_gapless t (more_slots s c d ss) h = (slot_begins t s _ h.0).gapless

-- ---- tabs and spaces at the front of a gap

-- a gap without those
abbrev pub trimmed : List Between → List ℕ
trimmed [] = []
trimmed (blank b ∷ g) = trimmed g
trimmed (break e ∷ g) = gap (break e ∷ g) []
trimmed (remark text e ∷ g) = gap (remark text e ∷ g) []

no_blanks : (rest : List ℕ) → is_blank (first rest) ≡ false → without_blanks rest ≡ rest
no_blanks [] h = refl
no_blanks (b ∷ rest) h = rw h refl

pub trimmed_gap : (g : List Between) (rest : List ℕ) → IsGap g → is_blank (first rest) ≡ false
    → without_blanks (gap g rest) ≡ trimmed g ++ rest
trimmed_gap [] rest h ends = no_blanks rest ends
trimmed_gap (blank b ∷ g) rest h ends = rw h.0 (trimmed_gap g rest h.1 ends)
trimmed_gap (break lf ∷ g) rest h ends = gap_rest (break lf ∷ g) rest
trimmed_gap (break crlf ∷ g) rest h ends = gap_rest (break crlf ∷ g) rest
trimmed_gap (remark text e ∷ g) rest h ends = gap_rest (remark text e ∷ g) rest

blanks_turn : (c : Bool) (b : ℕ) (text : List ℕ) → after is_blank text ≡ without_blanks text
    → drop (cond c (1 + prefix_len is_blank text) 0) (b ∷ text)
    ≡ (if c then without_blanks text else b ∷ text)
blanks_turn true b text ih = let k : 1 + prefix_len is_blank text ≡ suc (prefix_len is_blank text) =
    omega arith in rw k ih
blanks_turn false b text ih = refl

pub past_blanks_is : (text : List ℕ) → after is_blank text ≡ without_blanks text
past_blanks_is [] = refl
past_blanks_is (b ∷ text) = blanks_turn (is_blank b) b text (past_blanks_is text)

unblank_turn : (c : Bool) (b : ℕ) (text : List ℕ) → is_blank b ≡ c
    → is_blank (first (without_blanks text)) ≡ false
    → is_blank (first (if c then without_blanks text else b ∷ text)) ≡ false
unblank_turn true b text e ih = ih
unblank_turn false b text e ih = e

unblank : (text : List ℕ) → is_blank (first (without_blanks text)) ≡ false
unblank [] = refl
unblank (b ∷ text) = unblank_turn (is_blank b) b text refl (unblank text)

first_case : (g : Bool) (r s : List ℕ) → is_blank (first s) ≡ false
    → let l = if g then left_without_comma r else left_with_comma s in l.comma_stays ≡ true → is_blank (first l.rest) ≡ false
first_case true r s h e = absurd (true≢false (sym e))
first_case false r s h e = h

blank_case : (b : Bool) (x y : List ℕ) → let l = if b then left_with_comma (without_blanks x) else left_without_comma y in
    l.comma_stays ≡ true → is_blank (first l.rest) ≡ false
blank_case true x y e = unblank x
blank_case false x y e = absurd (true≢false (sym e))

more_case : (g : Bool) (trail lead : List ℕ → List ℕ) (m : Left) (s : List ℕ) → is_blank (first s) ≡ false
    → let l = if g then without_member trail lead m else left_with_comma s in
    l.comma_stays ≡ true → is_blank (first l.rest) ≡ false
more_case true trail lead m s h e = blank_case m.comma_stays (lead m.rest) (trail m.rest) e
more_case false trail lead m s h e = h

-- what is left begins with no blank, where the comma before it stays
pub left_begins : (t : Bool) (below : Place) (i : ℕ) (ss : Slots) → AreSlots t ss
    → (slots_left below i ss (closing t ∷ [])).comma_stays ≡ true
    → is_blank (first (slots_left below i ss (closing t ∷ [])).rest) ≡ false
left_begins t below i no_slots h stays = no_blank (closing t) (closing_gapless t)
left_begins t below i (last_slot s c) h stays =
    let end = gap c (closing t ∷ []) in
    first_case (is_item_removed below i s) end (slot s end)
    (no_blank (first (slot s end)) (slot_begins t s end h.0).gapless) stays
left_begins t below i (more_slots s c d ss) h stays =
    let m = slots_left below (suc i) ss (closing t ∷ []) in
    let rest = gap c (behind_comma (gap d) m) in
    more_case (is_item_removed below i s) (gap c) (gap d) m (slot s rest)
    (no_blank (first (slot s rest)) (slot_begins t s rest h.0).gapless) stays
