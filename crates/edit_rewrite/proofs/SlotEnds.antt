-- Items at the start and at the end of the walk over the tokens of a value.
use Rattle.std.proofs.Common.{◌≡◌, ℕ, ◌+◌, ◌≤◌, Bool, true, false, eqb, if◌then◌else◌, List, [], ◌∷◌, ◌++◌, length, drop, refl, sym, true≢false, ap, ◌∙◌, append_assoc, arith}
use Rattle.std.proofs.lemmas.List.{length-append}
use Rattle.edit_syntax.specs.Characters.{comma, is_blank}
use Rattle.edit_syntax.specs.Grammar.{Between, gap}
use Rattle.edit_syntax.specs.Reading.{first, past_gap}
use Rattle.edit_syntax.specs.Steps.{ends_item}
use Rattle.edit_syntax.proofs.GapLaws.{opens_gap, past_gap_again, gap_longer}
use Rattle.edit_tree.specs.RemovedBytes.{left_with_comma, left_without_comma}
use Rattle.edit_tree.specs.Slots.{Slot, slot, Slots, no_slots, last_slot, more_slots, slots, AreSlots, closing, opening, slots_left, IsEnclosed, enclosed_left}
use Rattle.edit_tree.specs.SlotTexts.{Ends}
use Rattle.edit_tree.specs.Assertions.{Place}
use Rattle.edit_rewrite.specs.Remainders.{before_end}
use Rattle.edit_rewrite.proofs.SlotLaws.{no_blank, gap_rest, slot_rest, before_is, slot_begins, slots_gapless}

-- what stands from an element or a member on, behind those of this number: what is left is known so far, in
-- two ways
pub record AtSlots (t : Bool) (text : List ℕ) (below : Place) (i : ℕ)
    (rest firm commas gaps target : List ℕ) : Type 0 where
  pub ss : Slots
  pub valid : AreSlots t ss
  pub spelled : rest ≡ slots ss (closing t ∷ [])
  pub within : Ends text rest
  pub short : length rest + i ≤ length text
  pub total : let l = slots_left below i ss (closing t ∷ []) in
      target ≡ firm ++ ((if l.comma_stays then commas else gaps) ++ l.rest)

-- ---- lists and cases

same_if : (b : Bool) (x : List ℕ) → (if b then x else x) ≡ x
same_if true x = refl
same_if false x = refl

pub grouped : (firm commas s g z : List ℕ) → firm ++ (commas ++ (s ++ (g ++ z)))
    ≡ ((firm ++ commas) ++ (s ++ g)) ++ z
grouped firm commas s g z =
    sym (append_assoc firm commas (s ++ (g ++ z)))
    ∙ ap (λ (x : List ℕ). (firm ++ commas) ++ x) (sym (append_assoc s g z))
    ∙ sym (append_assoc (firm ++ commas) (s ++ g) z)

pub last_total : (g : Bool) (firm commas gaps r s : List ℕ) → let l = if g then left_without_comma r else left_with_comma s in
    firm ++ ((if l.comma_stays then commas else gaps) ++ l.rest)
    ≡ (if g then (firm ++ gaps) ++ r else (firm ++ commas) ++ s)
last_total true firm commas gaps r s = sym (append_assoc firm gaps r)
last_total false firm commas gaps r s = sym (append_assoc firm commas s)

pub left_total : (b : Bool) (x y z tr cs commas gaps : List ℕ) → (b ≡ true → x ≡ tr ++ z) → y ≡ cs ++ z
    → let l = if b then left_with_comma x else left_without_comma y in
    (if l.comma_stays then commas else gaps) ++ l.rest ≡ (if b then commas ++ tr else gaps ++ cs) ++ z
left_total true x y z tr cs commas gaps e f = ap (λ (t : List ℕ). commas ++ t) (e refl) ∙
    sym (append_assoc commas tr z)
left_total false x y z tr cs commas gaps e f = ap (λ (t : List ℕ). gaps ++ t) f ∙ sym (append_assoc gaps cs z)

pub comma_rest : (b : Bool) (d : List Between) (r : List ℕ) → (if b then comma ∷ gap d r else r)
    ≡ (if b then comma ∷ gap d [] else []) ++ r
comma_rest true d r = ap (λ (t : List ℕ). comma ∷ t) (gap_rest d r)
comma_rest false d r = refl

pub closing_ends : (t : Bool) → ends_item (closing t) ≡ true
closing_ends true = refl
closing_ends false = refl

pub closing_no_comma : (t : Bool) → eqb (closing t) comma ≡ false
closing_no_comma true = refl
closing_no_comma false = refl

pub slot_longer : (s : Slot) (c : List Between) (rest : List ℕ) → length rest ≤ length (slot s (gap c rest))
slot_longer s c rest =
    omega (
      arith,
      ap length (slot_rest s (gap c rest)),
      length-append (slot s []) (gap c rest),
      gap_longer c rest,
    )

pub slots_some : (ss : Slots) (b : ℕ) → 1 ≤ length (slots ss (b ∷ []))
slots_some no_slots b = omega arith
slots_some (last_slot s c) b = omega (arith, slot_longer s c (b ∷ []))
slots_some (more_slots s c d ss) b = omega (arith, slot_longer s c (comma ∷ gap d (slots ss (b ∷ []))))

pub blankless : (text : List ℕ) → opens_gap (first text) ≡ false → is_blank (first text) ≡ false
blankless text h = no_blank (first text) h

pub closing_self : (t : Bool) → eqb (closing t) (closing t) ≡ true
closing_self true = refl
closing_self false = refl

-- ---- the start

pub enclosed_start : (t : Bool) (text : List ℕ) (below : Place) (g : List Between) (ss : Slots)
    (rest : List ℕ) → IsEnclosed t g ss text → rest ≡ past_gap (drop 1 text)
    → AtSlots t text below 0 rest (before_end text rest) [] [] (enclosed_left t below g ss)
enclosed_start t text below g ss rest h e =
    let inner = slots ss (closing t ∷ []) in
    let l = slots_left below 0 ss (closing t ∷ []) in
    let next : rest ≡ inner = e ∙ ap (λ (x : List ℕ). past_gap (drop 1 x)) h.spelled ∙
    past_gap_again g inner h.between (slots_gapless t ss h.slots_valid) in
    let parted : text ≡ (opening t ∷ gap g []) ++ inner = h.spelled ∙
    ap (λ (x : List ℕ). opening t ∷ x) (gap_rest g inner) in
    let front : before_end text rest ≡ opening t ∷ gap g [] =
    before_is text (opening t ∷ gap g []) rest (parted ∙
    ap (λ (x : List ℕ). (opening t ∷ gap g []) ++ x) (sym next)) in
    let size : length text ≡ length (opening t ∷ gap g []) + length inner = ap length parted ∙
    length-append (opening t ∷ gap g []) inner in
    record {
      ss = ss;
      valid = h.slots_valid;
      spelled = next;
      within = (opening t ∷ gap g [], parted ∙ ap (λ (x : List ℕ). (opening t ∷ gap g []) ++ x) (sym next));
      short = omega (arith, ap length next);
      total = rw (front, same_if l.comma_stays []) (ap (λ (x : List ℕ). opening t ∷ x) (gap_rest g l.rest));
    }

-- ---- the end

closed_total : (t : Bool) (below : Place) (i : ℕ) (ss : Slots) (rest firm commas gaps target : List ℕ)
    → AreSlots t ss → rest ≡ slots ss (closing t ∷ [])
    → (let l = slots_left below i ss (closing t ∷ []) in
    target ≡ firm ++ ((if l.comma_stays then commas else gaps) ++ l.rest))
    → eqb (first rest) (closing t) ≡ true → target ≡ (firm ++ commas) ++ rest
closed_total t below i no_slots rest firm commas gaps target h e total shut =
    total ∙ sym (append_assoc firm commas (closing t ∷ [])) ∙
    ap (λ (x : List ℕ). (firm ++ commas) ++ x) (sym e)
closed_total t below i (last_slot s c) rest firm commas gaps target h e total shut =
    absurd (true≢false (sym (rw e at shut) ∙ (slot_begins t s (gap c (closing t ∷ [])) h.0).unshut))
closed_total t below i (more_slots s c d ss) rest firm commas gaps target h e total shut =
    absurd (true≢false (sym (rw e at shut) ∙
    (slot_begins t s (gap c (comma ∷ gap d (slots ss (closing t ∷ [])))) h.0).unshut))

-- the closing bracket or brace comes: all that is known stays, and it
pub slots_closed : (t : Bool) (text : List ℕ) (below : Place) (i : ℕ) (rest firm commas gaps target : List ℕ)
    → AtSlots t text below i rest firm commas gaps target
    → eqb (first rest) (closing t) ≡ true → target ≡ (firm ++ commas) ++ rest
slots_closed t text below i rest firm commas gaps target at shut =
    closed_total t below i at.ss rest firm commas gaps target at.valid at.spelled at.total shut

-- the loop ends before so many turns
pub slots_over : (t : Bool) (text : List ℕ) (below : Place) (i : ℕ) (rest firm commas gaps target : List ℕ)
    → AtSlots t text below i rest firm commas gaps target
    → length text ≤ i → ⊥
slots_over t text below i rest firm commas gaps target at le = let k = at.short in
    omega (arith, ap length at.spelled, slots_some at.ss (closing t))
