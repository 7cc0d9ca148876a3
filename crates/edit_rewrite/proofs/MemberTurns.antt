-- The loop over the members of an inline table: its positions, and its result member by member.
use Rattle.std.proofs.Common.{◌≡◌, ℕ, ◌+◌, ◌≤◌, true, false, eqb, List, [], ◌∷◌, ◌++◌, length, drop, refl, sym, true≢false, ap, ◌∙◌, append_assoc, arith}
use Rattle.std.proofs.lemmas.List.{length-append}
use Rattle.edit_syntax.specs.Characters.{comma, left_brace, right_brace}
use Rattle.edit_syntax.specs.Grammar.{Between, gap, Members}
use Rattle.edit_syntax.specs.Reading.{first, past_gap}
use Rattle.edit_syntax.proofs.GapLaws.{opens_gap, past_gap_again, gap_longer}
use Rattle.edit_tree.specs.Slots.{Slot, slot, Slots, no_slots, last_slot, more_slots, slots, AreSlots, of_members}
use Rattle.edit_tree.specs.SlotTexts.{Ends, StandsAt, TableAt}
use Rattle.edit_tree.proofs.Ends.{ends_past, ends_one, ends_gap}
use Rattle.edit_rewrite.proofs.SlotLaws.{gap_rest, slot_rest, slot_begins, members_text, members_valid}
use Rattle.edit_rewrite.proofs.SlotEnds.{slot_longer}

-- what is made of members one after the other, each with the text behind its value
abbrev pub folded : {S : Type 0} → (S → Slot → List ℕ → S) → S → Slots → List ℕ → S
folded turn made no_slots rest = made
folded turn made (last_slot s c) rest = turn made s (gap c rest)
folded turn made (more_slots s c d ss) rest =
    folded turn (turn made s (gap c (comma ∷ gap d (slots ss rest)))) ss rest

-- what stands from a member on, behind those of this number, of which this was made
pub record AtMembers {S : Type 0} (turn : S → Slot → List ℕ → S) (text after : List ℕ) (i : ℕ)
    (rest : List ℕ) (made target : S) : Type 0 where
  pub ss : Slots
  pub valid : AreSlots true ss
  pub spelled : rest ≡ slots ss (right_brace ∷ after)
  pub within : Ends text rest
  pub short : length rest + i ≤ length text
  pub total : target ≡ folded turn made ss (right_brace ∷ after)

-- ---- the start

members_gapless : (ss : Slots) (after : List ℕ) → AreSlots true ss
    → opens_gap (first (slots ss (right_brace ∷ after))) ≡ false
members_gapless no_slots after h = refl
members_gapless (last_slot s c) after h = (slot_begins true s _ h.0).gapless
members_gapless (more_slots s c d ss) after h = (slot_begins true s _ h.0).gapless

-- the members are well formed
pub table_valid : (text table : List ℕ) (g : List Between) (ms : Members) (after : List ℕ)
    → TableAt text table g ms after → AreSlots true (of_members ms)
table_valid text table g ms after h = members_valid ms h.valid.1 (let k = h.shallow in omega arith)

table_spelled : (text table : List ℕ) (g : List Between) (ms : Members) (after : List ℕ)
    → TableAt text table g ms after → table ≡ left_brace ∷ gap g (slots (of_members ms) (right_brace ∷ after))
table_spelled text table g ms after h =
    h.spelled ∙ ap (λ (x : List ℕ). left_brace ∷ gap g x) (sym (members_text ms (right_brace ∷ after)))

-- behind the brace and its gap the members come
pub members_come : (text table : List ℕ) (g : List Between) (ms : Members) (after : List ℕ)
    → TableAt text table g ms after → past_gap (drop 1 table) ≡ slots (of_members ms) (right_brace ∷ after)
members_come text table g ms after h =
    ap (λ (x : List ℕ). past_gap (drop 1 x)) (table_spelled text table g ms after h)
    ∙ past_gap_again g (slots (of_members ms) (right_brace ∷ after)) h.valid.0
    (members_gapless (of_members ms) after (table_valid text table g ms after h))

pub members_start : {S : Type 0} (turn : S → Slot → List ℕ → S) (text table : List ℕ) (g : List Between)
    (ms : Members) (after rest : List ℕ) (made : S) → TableAt text table g ms after
    → rest ≡ past_gap (drop 1 table)
    → AtMembers turn text after 0 rest made (folded turn made (of_members ms) (right_brace ∷ after))
members_start turn text table g ms after rest made h e =
    let inner = slots (of_members ms) (right_brace ∷ after) in
    let come : rest ≡ inner = e ∙ members_come text table g ms after h in
    let spelled = table_spelled text table g ms after h in
    let whole : Ends text (left_brace ∷ gap g inner) =
    (h.within.0, h.within.1 ∙ ap (λ (x : List ℕ). h.within.0 ++ x) spelled) in
    rw come (record {
      ss = of_members ms;
      valid = table_valid text table g ms after h;
      spelled = refl;
      within = ends_gap text g inner (ends_one text left_brace (gap g inner) whole);
      short = omega (
        arith,
        ap length whole.1,
        length-append whole.0 (left_brace ∷ gap g inner),
        gap_longer g inner,
      );
      total = refl;
    })

-- ---- the end

-- the closing brace comes
pub members_closed : {S : Type 0} (turn : S → Slot → List ℕ → S) (text after : List ℕ) (i : ℕ) (rest : List ℕ)
    (made target : S) → AtMembers turn text after i rest made target → eqb (first rest) right_brace ≡ true
    → target ≡ made
members_closed {S} turn text after i rest made target at shut = go at.ss at.valid at.spelled at.total
  where
    close : List ℕ
    close = right_brace ∷ after

    go : (ss : Slots) → AreSlots true ss → rest ≡ slots ss close → target ≡ folded turn made ss close
        → target ≡ made
    go no_slots h e total = total
    go (last_slot s c) h e total =
        absurd (true≢false (sym (rw e at shut) ∙ (slot_begins true s (gap c close) h.0).unshut))
    go (more_slots s c d ss) h e total =
        absurd (true≢false (sym (rw e at shut) ∙
        (slot_begins true s (gap c (comma ∷ gap d (slots ss close))) h.0).unshut))

some_slots : (ss : Slots) (after : List ℕ) → 1 ≤ length (slots ss (right_brace ∷ after))
some_slots no_slots after = omega arith
some_slots (last_slot s c) after = omega (arith, slot_longer s c (right_brace ∷ after))
some_slots (more_slots s c d ss) after =
    omega (arith, slot_longer s c (comma ∷ gap d (slots ss (right_brace ∷ after))))

-- the loop ends before so many turns
pub members_over : {S : Type 0} (turn : S → Slot → List ℕ → S) (text after : List ℕ) (i : ℕ) (rest : List ℕ)
    (made target : S) → AtMembers turn text after i rest made target → length text ≤ i → ⊥
members_over turn text after i rest made target at le =
    let k = at.short in omega (arith, ap length at.spelled, some_slots at.ss after)

-- ---- one member

-- it stands at the front, and is the last one or goes before others
pub record MemberFront {S : Type 0} (turn : S → Slot → List ℕ → S) (text after : List ℕ) (i : ℕ)
    (rest : List ℕ) (made target : S) : Type 0 where
  pub it : Slot
  pub gap_behind : List Between
  pub behind : List ℕ
  pub stands : StandsAt text rest true it gap_behind behind
  pub last : eqb (first behind) comma ≡ false → target ≡ turn made it (gap gap_behind behind)
  pub next : eqb (first behind) comma ≡ true → (next : List ℕ) → next ≡ past_gap (drop 1 behind)
      → AtMembers turn text after (i + 1) next (turn made it (gap gap_behind behind)) target

more_member : {S : Type 0} (turn : S → Slot → List ℕ → S) (text after : List ℕ) (i : ℕ) (rest : List ℕ)
    (made target : S) (s : Slot) (c d : List Between) (ss : Slots) → AreSlots true (more_slots s c d ss)
    → rest ≡ slots (more_slots s c d ss) (right_brace ∷ after) → Ends text rest
    → length rest + i ≤ length text
    → target ≡ folded turn made (more_slots s c d ss) (right_brace ∷ after)
    → MemberFront turn text after i rest made target
more_member turn text after i rest made target s c d ss h e ends short total =
    record {
      it = s;
      gap_behind = c;
      behind = behind;
      stands = record { valid = h.0; between = h.1; ends = refl; within = ends; spelled = e };
      last = λ k. absurd (true≢false k);
      next = λ k next n. rw (comes next n)
          (record { ss = ss; valid = h.3; spelled = refl; within = reaches; short = nearer; total = total });
    }
  where
    inner : List ℕ
    inner = slots ss (right_brace ∷ after)

    behind : List ℕ
    behind = comma ∷ gap d inner

    comes : (next : List ℕ) → next ≡ past_gap (gap d inner) → next ≡ inner
    comes next n = n ∙ past_gap_again d inner h.2 (members_gapless ss after h.3)

    parted : rest ≡ (slot s [] ++ gap c []) ++ behind
    parted = e ∙ slot_rest s (gap c behind) ∙ ap (λ (x : List ℕ). slot s [] ++ x) (gap_rest c behind)
        ∙ sym (append_assoc (slot s []) (gap c []) behind)

    reaches : Ends text inner
    reaches =
        let whole : Ends text ((slot s [] ++ gap c []) ++ behind) =
        (ends.0, ends.1 ∙ ap (λ (x : List ℕ). ends.0 ++ x) parted) in
        ends_gap text d inner
        (ends_one text comma (gap d inner) (ends_past text (slot s [] ++ gap c []) behind whole))

    nearer : length inner + (i + 1) ≤ length text
    nearer = omega (arith, ap length e, slot_longer s c behind, gap_longer d inner)

pub members_front : {S : Type 0} (turn : S → Slot → List ℕ → S) (text after : List ℕ) (i : ℕ) (rest : List ℕ)
    (made target : S) → AtMembers turn text after i rest made target → eqb (first rest) right_brace ≡ false
    → MemberFront turn text after i rest made target
members_front turn text after i rest made target at unshut = go at.ss at.valid at.spelled at.total
  where
    go : (ss : Slots) → AreSlots true ss → rest ≡ slots ss (right_brace ∷ after)
        → target ≡ folded turn made ss (right_brace ∷ after) → MemberFront turn text after i rest made target
    go no_slots h e total =
        absurd (true≢false (sym (ap (λ (x : List ℕ). eqb (first x) right_brace) e) ∙ unshut))
    go (last_slot s c) h e total =
        record {
          it = s;
          gap_behind = c;
          behind = right_brace ∷ after;
          stands = record { valid = h.0; between = h.1; ends = refl; within = at.within; spelled = e };
          last = λ _. total;
          next = λ k. absurd (true≢false (sym k));
        }
    go (more_slots s c d ss) h e total =
        more_member turn text after i rest made target s c d ss h e at.within at.short total
