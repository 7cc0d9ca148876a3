-- What is left of an array or an inline table where some items are removed is UTF-8.
use Rattle.std.proofs.Common.{◌≡◌, ℕ, suc, ◌<◌, ◌≤◌, Bool, true, false, if◌then◌else◌, List, [], ◌∷◌, ◌++◌, refl, sym, ap, subst, ◌∙◌, append-nil, arith}
use Rattle.std.specs.Prelude.{IsUtf8}
use Rattle.std.proofs.lemmas.Str.{IsUtf8-append, IsUtf8-nil}
use Rattle.edit_syntax.specs.Characters.{comma, is_blank}
use Rattle.edit_syntax.specs.Strings.{lf, crlf}
use Rattle.edit_syntax.specs.Grammar.{Between, blank, break, remark, gap, IsGap, Value, basic, literal, multi_basic, multi_literal, boolean, integer, float, datetime, array, inline, value, IsValue}
use Rattle.edit_syntax.specs.Depth.{depth}
use Rattle.edit_syntax.proofs.ValueEdges.{value_rest, value_enclosed}
use Rattle.edit_tree.specs.Assertions.{Place}
use Rattle.edit_tree.specs.RemovedBytes.{Left, left_with_comma, left_without_comma, without_blanks, without_member, behind_comma, value_left}
use Rattle.edit_tree.specs.Slots.{Slot, of_value, of_pair, slot, IsSlot, Slots, no_slots, last_slot, more_slots, slots, AreSlots, closing, opening, of_elements, of_members, is_item_removed, slots_left, enclosed_left, IsEnclosed, IsContainer}
use Rattle.edit_tree.proofs.Ends.{text_before, text_behind, one_text}
use Rattle.edit_rewrite.proofs.SlotKeys.{array_enclosed, inline_enclosed, array_left, inline_left}
use Rattle.edit_rewrite.proofs.SlotLaws.{gap_rest, slot_rest}
use Rattle.edit_rewrite.proofs.StatementSuffixes.{Starts, part_start, blank_small}

-- ---- what begins with ASCII

pub value_start : (v : Value) (rest : List ℕ) → IsValue v → Starts (value v rest)
value_start v rest h =
    let e = value_enclosed v h in
    subst Starts (sym (value_rest v rest ∙ ap (λ (l : List ℕ). l ++ rest) e.begins)) e.first_ascii

gap_start : (g : List Between) (rest : List ℕ) → IsGap g → Starts rest → Starts (gap g rest)
gap_start [] rest h st = st
gap_start (blank b ∷ g) rest h st = blank_small b h.0
gap_start (break lf ∷ g) rest h st = omega arith
gap_start (break crlf ∷ g) rest h st = omega arith
gap_start (remark t e ∷ g) rest h st = omega arith

slot_start : (t : Bool) (s : Slot) (rest : List ℕ) → IsSlot t s → Starts (slot s rest)
slot_start t (of_value v) rest h = value_start v rest h.1
slot_start t (of_pair k a b v) rest h = part_start k _ h.1

closing_low : (t : Bool) → closing t < 128
closing_low true = omega arith
closing_low false = omega arith

opening_low : (t : Bool) → opening t < 128
opening_low true = omega arith
opening_low false = omega arith

slots_start : (t : Bool) (ss : Slots) → AreSlots t ss → Starts (slots ss (closing t ∷ []))
slots_start t no_slots h = closing_low t
slots_start t (last_slot s c) h = slot_start t s _ h.0
slots_start t (more_slots s c d ss) h = slot_start t s _ h.0

-- ---- parts of a text

-- a text is cut before a character of ASCII
cut : (xs ys : List ℕ) → Starts ys → IsUtf8 (xs ++ ys) → IsUtf8 xs × IsUtf8 ys
cut xs [] st u = (subst IsUtf8 (append-nil xs) u, IsUtf8-nil)
cut xs (b ∷ ys) st u =
    (text_before xs ys b st u, IsUtf8-append (b ∷ []) ys (one_text b st) (text_behind xs ys b st u))

cut_gap : (g : List Between) (rest : List ℕ) → Starts rest → IsUtf8 (gap g rest)
    → IsUtf8 (gap g []) × IsUtf8 rest
cut_gap g rest st u = cut (gap g []) rest st (subst IsUtf8 (gap_rest g rest) u)

cut_slot : (s : Slot) (rest : List ℕ) → Starts rest → IsUtf8 (slot s rest) → IsUtf8 (slot s []) × IsUtf8 rest
cut_slot s rest st u = cut (slot s []) rest st (subst IsUtf8 (slot_rest s rest) u)

-- each element or member, and each gap, is a text
abbrev ArePieces : Slots → Type 0
ArePieces no_slots = Unit {0}
ArePieces (last_slot s c) = IsUtf8 (slot s []) × IsUtf8 (gap c [])
ArePieces (more_slots s c d ss) = IsUtf8 (slot s []) × IsUtf8 (gap c []) × IsUtf8 (gap d []) × ArePieces ss

pieces : (t : Bool) (ss : Slots) → AreSlots t ss → IsUtf8 (slots ss (closing t ∷ [])) → ArePieces ss
pieces t no_slots h u = tt
pieces t (last_slot s c) h u =
    let one = cut_slot s (gap c (closing t ∷ [])) (gap_start c (closing t ∷ []) h.1 (closing_low t)) u in
    (one.0, (cut_gap c (closing t ∷ []) (closing_low t) one.1).0)
pieces t (more_slots s c d ss) h u =
    let more = slots ss (closing t ∷ []) in
    let low : comma < 128 = omega arith in
    let one = cut_slot s (gap c (comma ∷ gap d more)) (gap_start c (comma ∷ gap d more) h.1 low) u in
    let two = cut_gap c (comma ∷ gap d more) low one.1 in
    let three = cut_gap d more (slots_start t ss h.3) (text_behind [] (gap d more) comma low two.1) in
    (one.0, two.0, three.0, pieces t ss h.3 three.1)

-- ---- what is left

put_gap : (g : List Between) (rest : List ℕ) → IsUtf8 (gap g []) → IsUtf8 rest → IsUtf8 (gap g rest)
put_gap g rest u w = subst IsUtf8 (sym (gap_rest g rest)) (IsUtf8-append (gap g []) rest u w)

put_slot : (s : Slot) (rest : List ℕ) → IsUtf8 (slot s []) → IsUtf8 rest → IsUtf8 (slot s rest)
put_slot s rest u w = subst IsUtf8 (sym (slot_rest s rest)) (IsUtf8-append (slot s []) rest u w)

put_one : (b : ℕ) (rest : List ℕ) → b < 128 → IsUtf8 rest → IsUtf8 (b ∷ rest)
put_one b rest low u = IsUtf8-append (b ∷ []) rest (one_text b low) u

blanks_left : (xs : List ℕ) → IsUtf8 xs → IsUtf8 (without_blanks xs)
blanks_left [] u = u
blanks_left (b ∷ rest) u = go (is_blank b) refl (blanks_left rest)
  where
    go : (c : Bool) → is_blank b ≡ c → (IsUtf8 rest → IsUtf8 (without_blanks rest))
        → IsUtf8 (if c then without_blanks rest else b ∷ rest)
    go true e ih = ih (text_behind [] rest b (blank_small b e) u)
    go false e ih = u

slots_text : (below : Place) (i : ℕ) (ss : Slots) (rest : List ℕ) → ArePieces ss → IsUtf8 rest
    → IsUtf8 (slots_left below i ss rest).rest
slots_text below i no_slots rest h u = u
slots_text below i (last_slot s c) rest h u = go (is_item_removed below i s)
  where
    go : (b : Bool) → let l = if b then left_without_comma (gap c rest) else left_with_comma (slot s (gap c rest)) in
        IsUtf8 l.rest
    go true = put_gap c rest h.1 u
    go false = put_slot s (gap c rest) h.0 (put_gap c rest h.1 u)
slots_text below i (more_slots s c d ss) rest h u =
    go (is_item_removed below i s) (slots_left below (suc i) ss rest) (slots_text below (suc i) ss rest h.3 u)
  where
    comma_first : (b : Bool) (x : List ℕ) → IsUtf8 x → IsUtf8 (if b then comma ∷ gap d x else x)
    comma_first true x w = put_one comma (gap d x) (omega arith) (put_gap d x h.2 w)
    comma_first false x w = w

    gone : (b : Bool) (x : List ℕ) → IsUtf8 x
        → let l = if b then left_with_comma (without_blanks (gap d x)) else left_without_comma (gap c x) in IsUtf8 l.rest
    gone true x w = blanks_left (gap d x) (put_gap d x h.2 w)
    gone false x w = put_gap c x h.1 w

    go : (b : Bool) (l : Left) → IsUtf8 l.rest
        → let m = if b then without_member (gap c) (gap d) l
        else left_with_comma (slot s (gap c (behind_comma (gap d) l))) in
        IsUtf8 m.rest
    go true l w = gone l.comma_stays l.rest w
    go false l w = put_slot s _ h.0 (put_gap c _ h.1 (comma_first l.comma_stays l.rest w))

enclosed_text : (t : Bool) (below : Place) (g : List Between) (ss : Slots) (text : List ℕ)
    → IsEnclosed t g ss text → IsUtf8 text → IsUtf8 (enclosed_left t below g ss)
enclosed_text t below g ss text h u =
    let low = closing_low t in
    let inner = slots ss (closing t ∷ []) in
    let all : IsUtf8 (opening t ∷ gap g inner) = subst IsUtf8 h.spelled u in
    let one = cut_gap g inner (slots_start t ss h.slots_valid)
    (text_behind [] (gap g inner) (opening t) (opening_low t) all) in
    put_one (opening t) _ (opening_low t)
    (put_gap g _ one.0
    (slots_text below 0 ss (closing t ∷ []) (pieces t ss h.slots_valid one.1) (one_text (closing t) low)))

-- what is left of an array or an inline table is a text
pub left_text : (place below : Place) (v : Value) → IsContainer v → IsValue v → depth v ≤ 80
    → IsUtf8 (value v []) → IsUtf8 (value_left (place ++ below) place v [])
left_text place below (array g es) is valid shallow u =
    subst IsUtf8 (array_left place below g es)
    (enclosed_text false below g (of_elements es) _
    (array_enclosed g es (value (array g es) []) valid shallow refl) u)
left_text place below (inline g ms) is valid shallow u =
    subst IsUtf8 (inline_left place below g ms)
    (enclosed_text true below g (of_members ms) _
    (inline_enclosed g ms (value (inline g ms) []) valid shallow refl) u)
left_text place below (basic ps) is valid shallow u = absurd is
left_text place below (literal t) is valid shallow u = absurd is
left_text place below (multi_basic ps) is valid shallow u = absurd is
left_text place below (multi_literal ps) is valid shallow u = absurd is
left_text place below (boolean b) is valid shallow u = absurd is
left_text place below (integer n) is valid shallow u = absurd is
left_text place below (float f) is valid shallow u = absurd is
left_text place below (datetime d) is valid shallow u = absurd is
