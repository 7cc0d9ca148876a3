-- One turn of the loop over elements or members: its position, and the result of each branch.
use Rattle.std.proofs.Common.{◌≡◌, ℕ, suc, ◌+◌, ◌≤◌, Bool, true, false, eqb, if◌then◌else◌, List, [], ◌∷◌, ◌++◌, length, drop, refl, sym, true≢false, ap, ◌∙◌, append_assoc, arith}
use Rattle.edit_syntax.specs.Characters.{comma, left_brace}
use Rattle.edit_syntax.specs.Grammar.{Between, gap, IsGap}
use Rattle.edit_syntax.specs.Reading.{first, past_gap, past_blanks}
use Rattle.edit_syntax.proofs.StepLaws.{item_gapless}
use Rattle.edit_syntax.proofs.GapLaws.{past_gap_again, gap_longer}
use Rattle.edit_tree.specs.RemovedBytes.{Left, without_blanks}
use Rattle.edit_tree.specs.Slots.{Slot, slot, IsSlot, Slots, no_slots, last_slot, more_slots, slots, AreSlots, closing, opening, is_item_removed, slots_left, IsEnclosed}
use Rattle.edit_tree.specs.SlotTexts.{Ends, StandsAt}
use Rattle.edit_tree.specs.Assertions.{Place}
use Rattle.edit_rewrite.specs.Remainders.{before_end, SkipsItem, AppendsItem}
use Rattle.edit_rewrite.specs.declared.inside.Remainder.{Remainder}
use Rattle.edit_tree.proofs.Ends.{ends_past, ends_one, ends_gap}
use Rattle.edit_rewrite.proofs.SlotLaws.{gap_rest, slot_rest, before_is, slots_gapless, trimmed, trimmed_gap, past_blanks_is, left_begins}
use Rattle.edit_rewrite.proofs.SlotEnds.{AtSlots, grouped, last_total, left_total, comma_rest, closing_ends, closing_no_comma, slot_longer, blankless, closing_self}

-- ---- one element or member

-- it stands at the front, and each way on leaves the same
pub record Front (t : Bool) (text : List ℕ) (below : Place) (i : ℕ)
    (rest firm commas gaps target : List ℕ) : Type 0 where
  pub it : Slot
  pub gap_behind : List Between
  pub behind : List ℕ
  pub stands : StandsAt text rest t it gap_behind behind
  pub last : eqb (first behind) comma ≡ false
      → target ≡ (if is_item_removed below i it then (firm ++ gaps) ++ gap gap_behind behind else
      (firm ++ commas) ++ rest)
  pub left : eqb (first behind) comma ≡ true → is_item_removed below i it ≡ true → (next : List ℕ)
      → next ≡ past_gap (drop 1 behind)
      → AtSlots t text below (suc i) next firm (commas ++ before_end (past_blanks (drop 1 behind)) next)
      (gaps ++ before_end (gap gap_behind behind) behind) target
  pub remains : eqb (first behind) comma ≡ true → is_item_removed below i it ≡ false → (next : List ℕ)
      → next ≡ past_gap (drop 1 behind)
      → AtSlots t text below (suc i) next ((firm ++ commas) ++ before_end rest behind)
      (before_end behind next) [] target

last_front : (t : Bool) (text : List ℕ) (below : Place) (i : ℕ) (rest firm commas gaps target : List ℕ)
    (s : Slot) (c : List Between) → IsSlot t s → IsGap c
    → rest ≡ slot s (gap c (closing t ∷ [])) → Ends text rest
    → (let l = slots_left below i (last_slot s c) (closing t ∷ []) in
    target ≡ firm ++ ((if l.comma_stays then commas else gaps) ++ l.rest))
    → Front t text below i rest firm commas gaps target
last_front t text below i rest firm commas gaps target s c hs hc e ends total =
    let end = gap c (closing t ∷ []) in
    record {
      it = s;
      gap_behind = c;
      behind = closing t ∷ [];
      stands = record { valid = hs; between = hc; ends = closing_ends t; within = ends; spelled = e };
      last = λ _. rw e (total ∙ last_total (is_item_removed below i s) firm commas gaps end (slot s end));
      left = λ k. absurd (true≢false (sym k ∙ closing_no_comma t));
      remains = λ k. absurd (true≢false (sym k ∙ closing_no_comma t));
    }

more_front : (t : Bool) (text : List ℕ) (below : Place) (i : ℕ) (rest firm commas gaps target : List ℕ)
    (s : Slot) (c d : List Between) (ss : Slots) → AreSlots t (more_slots s c d ss)
    → rest ≡ slots (more_slots s c d ss) (closing t ∷ []) → Ends text rest → length rest + i ≤ length text
    → (let l = slots_left below i (more_slots s c d ss) (closing t ∷ []) in
    target ≡ firm ++ ((if l.comma_stays then commas else gaps) ++ l.rest))
    → Front t text below i rest firm commas gaps target
more_front t text below i rest firm commas gaps target s c d ss h e ends short total =
    record {
      it = s;
      gap_behind = c;
      behind = behind;
      stands = record { valid = h.0; between = h.1; ends = refl; within = ends; spelled = e };
      last = λ k. absurd (true≢false k);
      left = left;
      remains = remains;
    }
  where
    inner : List ℕ
    inner = slots ss (closing t ∷ [])

    behind : List ℕ
    behind = comma ∷ gap d inner

    m : Left
    m = slots_left below (suc i) ss (closing t ∷ [])

    comes : (next : List ℕ) → next ≡ past_gap (gap d inner) → next ≡ inner
    comes next n = n ∙ past_gap_again d inner h.2 (slots_gapless t ss h.3)

    parted : rest ≡ (slot s [] ++ gap c []) ++ behind
    parted = e ∙ slot_rest s (gap c behind) ∙ ap (λ (x : List ℕ). slot s [] ++ x) (gap_rest c behind) ∙
        sym (append_assoc (slot s []) (gap c []) behind)

    reaches : Ends text inner
    reaches =
        let whole : Ends text ((slot s [] ++ gap c []) ++ behind) =
        (ends.0, ends.1 ∙ ap (λ (x : List ℕ). ends.0 ++ x) parted) in
        ends_gap text d inner
        (ends_one text comma (gap d inner) (ends_past text (slot s [] ++ gap c []) behind whole))

    nearer : length inner + suc i ≤ length text
    nearer = omega (arith, ap length e, slot_longer s c behind, gap_longer d inner)

    left : eqb (first behind) comma ≡ true → is_item_removed below i s ≡ true → (next : List ℕ)
        → next ≡ past_gap (drop 1 behind)
        → AtSlots t text below (suc i) next firm (commas ++ before_end (past_blanks (drop 1 behind)) next)
        (gaps ++ before_end (gap c behind) behind) target
    left k g next n =
        let b = m.comma_stays in
        let comma_part : before_end (past_blanks (gap d inner)) inner ≡ trimmed d =
        before_is (past_blanks (gap d inner)) (trimmed d) inner
        (past_blanks_is (gap d inner) ∙ trimmed_gap d inner h.2 (blankless inner (slots_gapless t ss h.3))) in
        let gap_part : before_end (gap c behind) behind ≡ gap c [] =
        before_is (gap c behind) (gap c []) behind (gap_rest c behind) in
        let ways = left_total b (without_blanks (gap d m.rest)) (gap c m.rest) m.rest (trimmed d)
        (gap c []) commas gaps
        (λ stays. trimmed_gap d m.rest h.2 (left_begins t below (suc i) ss h.3 stays)) (gap_rest c m.rest) in
        rw (comes next n) (record {
          ss = ss;
          valid = h.3;
          spelled = refl;
          within = reaches;
          short = nearer;
          total = rw (comma_part, gap_part) ((rw g at total) ∙ ap (λ (x : List ℕ). firm ++ x) ways);
        })

    remains : eqb (first behind) comma ≡ true → is_item_removed below i s ≡ false → (next : List ℕ)
        → next ≡ past_gap (drop 1 behind)
        → AtSlots t text below (suc i) next ((firm ++ commas) ++ before_end rest behind)
        (before_end behind next) [] target
    remains k g next n =
        let b = m.comma_stays in
        let z = if b then comma ∷ gap d m.rest else m.rest in
        let item_part : before_end rest behind ≡ slot s [] ++ gap c [] =
        before_is rest (slot s [] ++ gap c []) behind parted in
        let comma_part : before_end behind inner ≡ comma ∷ gap d [] =
        before_is behind (comma ∷ gap d []) inner (ap (λ (x : List ℕ). comma ∷ x) (gap_rest d inner)) in
        let spread : slot s (gap c z) ≡ slot s [] ++ (gap c [] ++ z) = slot_rest s (gap c z) ∙
        ap (λ (x : List ℕ). slot s [] ++ x) (gap_rest c z) in
        rw (comes next n) (record {
          ss = ss;
          valid = h.3;
          spelled = refl;
          within = reaches;
          short = nearer;
          total = rw (item_part, comma_part) ((rw g at total) ∙
              ap (λ (x : List ℕ). firm ++ (commas ++ x)) spread
              ∙ grouped firm commas (slot s []) (gap c []) z
              ∙ ap (λ (x : List ℕ). ((firm ++ commas) ++ (slot s [] ++ gap c [])) ++ x)
              (comma_rest b d m.rest));
        })

pub slots_front : (t : Bool) (text : List ℕ) (below : Place) (i : ℕ) (rest firm commas gaps target : List ℕ)
    → AtSlots t text below i rest firm commas gaps target
    → eqb (first rest) (closing t) ≡ false → Front t text below i rest firm commas gaps target
slots_front t text below i rest firm commas gaps target at unshut = go at.ss at.valid at.spelled at.total
  where
    go : (ss : Slots) → AreSlots t ss → rest ≡ slots ss (closing t ∷ [])
        → (let l = slots_left below i ss (closing t ∷ []) in
        target ≡ firm ++ ((if l.comma_stays then commas else gaps) ++ l.rest))
        → Front t text below i rest firm commas gaps target
    go no_slots h e total =
        absurd (true≢false (sym (closing_self t) ∙ sym (ap (λ (x : List ℕ). eqb (first x) (closing t)) e) ∙
        unshut))
    go (last_slot s c) h e total =
        last_front t text below i rest firm commas gaps target s c h.0 h.1 e at.within total
    go (more_slots s c d ss) h e total =
        more_front t text below i rest firm commas gaps target s c d ss h e at.within at.short total

-- ---- the same in another form

pub at_with : (t : Bool) (text : List ℕ) (below : Place) (i j : ℕ)
    (rest firm firm' commas commas' gaps gaps' target : List ℕ)
    → AtSlots t text below i rest firm commas gaps target
    → j ≡ i → firm' ≡ firm → commas' ≡ commas → gaps' ≡ gaps
    → AtSlots t text below j rest firm' commas' gaps' target
at_with t text below i j rest firm firm' commas commas' gaps gaps' target at ej ef ec eg =
    rw (ej, ef, ec, eg) at

opened : (t : Bool) (more : List ℕ) → t ≡ eqb (first (opening t ∷ more)) left_brace
opened true more = refl
opened false more = refl

-- a brace comes first where it is an inline table
pub table_is : (t : Bool) (g : List Between) (ss : Slots) (text : List ℕ) → IsEnclosed t g ss text
    → t ≡ eqb (first text) left_brace
table_is t g ss text h = opened t (gap g (slots ss (closing t ∷ []))) ∙
    ap (λ (x : List ℕ). eqb (first x) left_brace) (sym h.spelled)

-- what stands behind a gap
pub stop_is : (text s : List ℕ) (t : Bool) (it : Slot) (c : List Between) (behind : List ℕ)
    → StandsAt text s t it c behind → past_gap (gap c behind) ≡ behind
stop_is text s t it c behind h = past_gap_again c behind h.between (item_gapless (first behind) h.ends)

-- a turn of the loop, where a comma stands behind the element or the member
pub turned : (t : Bool) (text : List ℕ) (below : Place) (i : ℕ) (rest target : List ℕ) (old new : Remainder)
    (f : Front t text below i rest old.firm.items old.with_comma.items old.without_comma.items target)
    (is_gone : Bool) (after stop next : List ℕ) → is_gone ≡ is_item_removed below i f.it
    → after ≡ gap f.gap_behind f.behind → stop ≡ f.behind → eqb (first f.behind) comma ≡ true
    → next ≡ past_gap (drop 1 f.behind)
    → (is_gone ≡ true → SkipsItem old new after stop next)
    → (is_gone ≡ false → AppendsItem old new rest stop next)
    → AtSlots t text below (i + 1) next new.firm.items new.with_comma.items new.without_comma.items target
turned t text below i rest target old new f true after stop next is behind at_stop comma_there comes leaves
    keeps =
    let w = leaves refl in
    at_with t text below (suc i) (i + 1) next old.firm.items new.firm.items
    (old.with_comma.items ++ before_end (past_blanks (drop 1 f.behind)) next) new.with_comma.items
    (old.without_comma.items ++ before_end (gap f.gap_behind f.behind) f.behind) new.without_comma.items
    target
    (f.left comma_there (sym is) next comes) (omega arith) w.firm
    (w.with_comma ∙ ap (λ (x : List ℕ). old.with_comma.items ++ before_end (past_blanks (drop 1 x)) next)
    at_stop)
    (w.without_comma ∙ ap (λ (x : List ℕ). old.without_comma.items ++ before_end after x) at_stop ∙
    ap (λ (x : List ℕ). old.without_comma.items ++ before_end x f.behind) behind)
turned t text below i rest target old new f false after stop next is behind at_stop comma_there comes leaves
    keeps =
    let w = keeps refl in
    at_with t text below (suc i) (i + 1) next
    ((old.firm.items ++ old.with_comma.items) ++ before_end rest f.behind) new.firm.items
    (before_end f.behind next) new.with_comma.items [] new.without_comma.items target
    (f.remains comma_there (sym is) next comes) (omega arith)
    (w.firm ∙ ap (λ (x : List ℕ). (old.firm.items ++ old.with_comma.items) ++ before_end rest x) at_stop)
    (w.with_comma ∙ ap (λ (x : List ℕ). before_end x next) at_stop)
    w.without_comma
