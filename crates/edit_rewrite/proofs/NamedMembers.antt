-- The loop over the members of an inline table up to the one that names a place.
use Rattle.std.proofs.Common.{◌≡◌, ℕ, ◌+◌, ◌≤◌, Bool, subst, true, false, eqb, List, [], ◌∷◌, length, drop, Option, Some, None, refl, sym, ap, ◌∙◌, inl, true≢false, arith}
use Rattle.std.proofs.lemmas.Bool.Decides.{nat_tests}
use Rattle.edit_syntax.specs.Characters.{comma, left_brace, right_brace}
use Rattle.edit_syntax.specs.Depth.{members_depth}
use Rattle.edit_syntax.specs.Grammar.{Between, gap, Value, basic, literal, multi_basic, multi_literal, boolean, integer, float, datetime, array, inline, value, IsValue, Members, no_members, last_member, member, members, AreMembers}
use Rattle.edit_syntax.specs.Numbers.{integer_text, float_text, datetime_text}
use Rattle.edit_syntax.specs.Reading.{first, past_gap}
use Rattle.edit_syntax.specs.Strings.{Key}
use Rattle.edit_syntax.proofs.DateReadAgain.{datetime_start}
use Rattle.edit_syntax.proofs.GapLaws.{opens_gap, past_gap_again, gap_longer}
use Rattle.edit_syntax.proofs.MembersReadAgain.{pair_longer, value_longer}
use Rattle.edit_syntax.proofs.NumberReadAgain.{is_start, integer_start, float_start}
use Rattle.edit_tree.specs.Assertions.{Place}
use Rattle.edit_tree.specs.EditBytes.{part_to}
use Rattle.edit_rewrite.specs.PairOffsets.{StandsIn, HasPairOffsets}
use Rattle.edit_tree.specs.Slots.{of_pair}
use Rattle.edit_tree.specs.SlotTexts.{Ends, StandsAt}
use Rattle.edit_tree.specs.Statements.{placed_pair, paired_members, paired_value}
use Rattle.edit_tree.specs.Written.{PlacedValue}
use Rattle.edit_tree.proofs.Ends.{ends_one, ends_pair, ends_gap, ends_value}
use Rattle.edit_rewrite.proofs.SlotLaws.{slot_begins}
use Rattle.edit_rewrite.proofs.PairOffsetLemmas.{no_offsets, pair_around, more_offsets}

-- ---- inline tables by their first byte

abbrev is_inline : Value → Bool
is_inline (inline g ms) = true
is_inline _ = false

start_no_brace : (b : ℕ) → is_start b ≡ true → eqb b left_brace ≡ false
start_no_brace b h = grind (arith, nat_tests)

pub opens_inline : (v : Value) (rest : List ℕ) → IsValue v
    → eqb (first (value v rest)) left_brace ≡ is_inline v
opens_inline (basic ps) rest h = refl
opens_inline (literal text) rest h = refl
opens_inline (multi_basic ps) rest h = refl
opens_inline (multi_literal ps) rest h = refl
opens_inline (boolean true) rest h = refl
opens_inline (boolean false) rest h = refl
opens_inline (integer n) rest h = start_no_brace (first (integer_text n rest)) (integer_start n rest h)
opens_inline (float f) rest h = start_no_brace (first (float_text f rest)) (float_start f rest h)
opens_inline (datetime d) rest h = start_no_brace (first (datetime_text d rest)) (datetime_start d rest h)
opens_inline (array g es) rest h = refl
opens_inline (inline g ms) rest h = refl

-- ---- the loop

-- the members that are left after so many: what is found among them is found among all
pub record MembersLeft (text : List ℕ) (place : Place) (w : PlacedValue) (i size : ℕ) (rest : List ℕ) : Type 0
  where
    pub ms : Members
    pub valid : AreMembers ms
    pub shallow : members_depth ms ≤ 80
    pub spelled : rest ≡ members ms (right_brace ∷ w.after)
    pub within : Ends text rest
    pub short : length rest + i ≤ size
    pub offsets : (o : Option (ℕ × ℕ))
        → HasPairOffsets place (paired_members w.place ms (right_brace ∷ w.after)) o
        → HasPairOffsets place (paired_value w) o

-- ---- where a member stands

closes : (ms : Members) (after : List ℕ) → AreMembers ms → members_depth ms ≤ 80
    → opens_gap (first (members ms (right_brace ∷ after))) ≡ false
closes no_members after h d = refl
closes (last_member k a b v c) after h d =
    (slot_begins true (of_pair k a b v) (gap c (right_brace ∷ after)) (refl, h.0, h.1, h.2, h.3, d)).gapless
closes (member k a b v c e ms) after h d =
    (slot_begins true (of_pair k a b v) (gap c (comma ∷ gap e (members ms (right_brace ∷ after))))
    (refl, h.0, h.1, h.2, h.3, omega arith)).gapless

some_left : (ms : Members) (after : List ℕ) → 1 ≤ length (members ms (right_brace ∷ after))
some_left no_members after = omega arith
some_left (last_member k a b v c) after =
    omega (arith, pair_longer k a b (value v (gap c (right_brace ∷ after))))
some_left (member k a b v c e ms) after =
    omega (arith, pair_longer k a b (value v (gap c (comma ∷ gap e (members ms (right_brace ∷ after))))))

-- ---- the start

no_brace : {A : Type 0} (s t : List ℕ) → s ≡ t → eqb (first s) left_brace ≡ true
    → eqb (first t) left_brace ≡ false
    → A
no_brace s t e there none =
    absurd (true≢false (sym there ∙ ap (λ (x : List ℕ). eqb (first x) left_brace) e ∙ none))

pub members_start : (text s : List ℕ) (place : Place) (w : PlacedValue) (rest : List ℕ) → StandsIn text w
    → s ≡ value w.value w.after → eqb (first s) left_brace ≡ true → rest ≡ past_gap (drop 1 s)
    → MembersLeft text place w 0 (length s) rest
members_start text s place w rest stands e begun is = go w.value stands e
  where
    go : (v : Value) → StandsIn text (record w { value = v }) → s ≡ value v w.after
        → MembersLeft text place (record w { value = v }) 0 (length s) rest
    go (basic ps) st e = no_brace s _ e begun (opens_inline (basic ps) w.after st.valid)
    go (literal t) st e = no_brace s _ e begun (opens_inline (literal t) w.after st.valid)
    go (multi_basic ps) st e = no_brace s _ e begun (opens_inline (multi_basic ps) w.after st.valid)
    go (multi_literal ps) st e = no_brace s _ e begun (opens_inline (multi_literal ps) w.after st.valid)
    go (boolean b) st e = no_brace s _ e begun (opens_inline (boolean b) w.after st.valid)
    go (integer n) st e = no_brace s _ e begun (opens_inline (integer n) w.after st.valid)
    go (float f) st e = no_brace s _ e begun (opens_inline (float f) w.after st.valid)
    go (datetime d) st e = no_brace s _ e begun (opens_inline (datetime d) w.after st.valid)
    go (array g es) st e = no_brace s _ e begun (opens_inline (array g es) w.after st.valid)
    go (inline g ms) st e =
        let inner = members ms (right_brace ∷ w.after) in
        let deep : members_depth ms ≤ 80 = let d = st.shallow in omega arith in
        let here : rest ≡ inner =
        is ∙ ap (λ (x : List ℕ). past_gap (drop 1 x)) e
        ∙ past_gap_again g inner st.valid.0 (closes ms w.after st.valid.1 deep) in
        record {
          ms = ms;
          valid = st.valid.1;
          shallow = deep;
          spelled = here;
          within = rw here (ends_gap text g inner (ends_one text left_brace (gap g inner) st.ends));
          short = omega (arith, ap length here, ap length e, gap_longer g inner);
          offsets = λ o h. h;
        }

-- what is no inline table has no members
pub no_member_offsets : (text s : List ℕ) (place : Place) (w : PlacedValue) → StandsIn text w
    → s ≡ value w.value w.after
    → eqb (first s) left_brace ≡ false → HasPairOffsets place (paired_value w) None
no_member_offsets text s place w stands e shut = go w.value e
  where
    go : (v : Value) → s ≡ value v w.after → HasPairOffsets place (paired_value (record w { value = v })) None
    go (basic ps) e = no_offsets place [] (λ p m. absurd m)
    go (literal t) e = no_offsets place [] (λ p m. absurd m)
    go (multi_basic ps) e = no_offsets place [] (λ p m. absurd m)
    go (multi_literal ps) e = no_offsets place [] (λ p m. absurd m)
    go (boolean b) e = no_offsets place [] (λ p m. absurd m)
    go (integer n) e = no_offsets place [] (λ p m. absurd m)
    go (float f) e = no_offsets place [] (λ p m. absurd m)
    go (datetime d) e = no_offsets place [] (λ p m. absurd m)
    go (array g es) e = no_offsets place [] (λ p m. absurd m)
    go (inline g ms) e =
        absurd (true≢false (sym (ap (λ (x : List ℕ). eqb (first x) left_brace) e) ∙ shut))

-- ---- the end

unshut : {A : Type 0} (s t : List ℕ) → s ≡ t → eqb (first s) right_brace ≡ true
    → eqb (first t) right_brace ≡ false
    → A
unshut s t e there none =
    absurd (true≢false (sym there ∙ ap (λ (x : List ℕ). eqb (first x) right_brace) e ∙ none))

-- the closing brace comes
pub members_closed : (text : List ℕ) (place : Place) (w : PlacedValue) (i size : ℕ) (rest : List ℕ)
    → MembersLeft text place w i size rest → eqb (first rest) right_brace ≡ true
    → HasPairOffsets place (paired_value w) None
members_closed text place w i size rest at shut = go at.ms at.valid at.shallow at.spelled at.offsets
  where
    go : (ms : Members) → AreMembers ms → members_depth ms ≤ 80 → rest ≡ members ms (right_brace ∷ w.after)
        → ((o : Option (ℕ × ℕ)) → HasPairOffsets place (paired_members w.place ms (right_brace ∷ w.after)) o
        → HasPairOffsets place (paired_value w) o) → HasPairOffsets place (paired_value w) None
    go no_members h d e offsets = offsets None (no_offsets place [] (λ p m. absurd m))
    go (last_member k a b v c) h d e offsets =
        unshut rest _ e shut
        (slot_begins true (of_pair k a b v) (gap c (right_brace ∷ w.after))
        (refl, h.0, h.1, h.2, h.3, d)).unshut
    go (member k a b v c f ms) h d e offsets =
        unshut rest _ e shut
        (slot_begins true (of_pair k a b v) (gap c (comma ∷ gap f (members ms (right_brace ∷ w.after))))
        (refl, h.0, h.1, h.2, h.3, omega arith)).unshut

-- the loop ends before so many turns
pub members_over : (text : List ℕ) (place : Place) (w : PlacedValue) (i size : ℕ) (rest : List ℕ)
    → MembersLeft text place w i size rest → size ≤ i → ⊥
members_over text place w i size rest at le =
    let k = at.short in omega (arith, ap length at.spelled, some_left at.ms w.after)

-- ---- one member

-- it stands at the front, and names the place, or is the last one, or goes before others
pub record MemberFront (text : List ℕ) (place : Place) (w : PlacedValue) (i size : ℕ) (rest : List ℕ) : Type 0
  where
    pub k : Key
    pub a : List ℕ
    pub b : List ℕ
    pub v : Value
    pub c : List Between
    pub behind : List ℕ
    pub stands : StandsAt text rest true (of_pair k a b v) c behind
    pub found : (part : List ℕ) (r : ℕ × ℕ) → part_to place (placed_pair w.place k a b v (gap c behind))
        ≡ Some part
        → r.0 ≡ length part → r.1 ≡ length (gap c behind) → HasPairOffsets place (paired_value w) (Some r)
    pub last : part_to place (placed_pair w.place k a b v (gap c behind)) ≡ None
        → eqb (first behind) comma ≡ false
        → HasPairOffsets place (paired_value w) None
    pub next : part_to place (placed_pair w.place k a b v (gap c behind)) ≡ None
        → eqb (first behind) comma ≡ true
        → (next : List ℕ) → next ≡ past_gap (drop 1 behind) → MembersLeft text place w (i + 1) size next

pub members_front : (text : List ℕ) (place : Place) (w : PlacedValue) (i size : ℕ) (rest : List ℕ)
    → MembersLeft text place w i size rest → eqb (first rest) right_brace ≡ false
    → MemberFront text place w i size rest
members_front text place w i size rest at begun = go at.ms at.valid at.shallow at.spelled at.offsets
  where
    go : (ms : Members) → AreMembers ms → members_depth ms ≤ 80 → rest ≡ members ms (right_brace ∷ w.after)
        → ((o : Option (ℕ × ℕ)) → HasPairOffsets place (paired_members w.place ms (right_brace ∷ w.after)) o
        → HasPairOffsets place (paired_value w) o) → MemberFront text place w i size rest
    go no_members h d e offsets =
        absurd (true≢false (sym (ap (λ (x : List ℕ). eqb (first x) right_brace) e) ∙ begun))
    go (last_member k a b v c) h d e offsets =
        let behind = right_brace ∷ w.after in
        let p = placed_pair w.place k a b v (gap c behind) in
        record {
          k = k;
          a = a;
          b = b;
          v = v;
          c = c;
          behind = behind;
          stands = record {
            valid = (refl, h.0, h.1, h.2, h.3, d);
            between = h.4;
            ends = refl;
            within = at.within;
            spelled = e;
          };
          found =
              λ part r named from to. offsets (Some r) (pair_around place p (p ∷ []) part r (inl refl) named from
              to);
          last =
              λ none _. offsets None (more_offsets place p [] None none (no_offsets place [] (λ q m. absurd m)));
          next = λ none k. absurd (true≢false (sym k));
        }
    go (member k a b v c f ms) h d e offsets =
        let close = right_brace ∷ w.after in
        let inner = members ms close in
        let behind = comma ∷ gap f inner in
        let p = placed_pair w.place k a b v (gap c behind) in
        let others = paired_members w.place ms close in
        let deep : members_depth ms ≤ 80 = omega arith in
        let from = subst (Ends text) e at.within in
        record {
          k = k;
          a = a;
          b = b;
          v = v;
          c = c;
          behind = behind;
          stands = record {
            valid = (refl, h.0, h.1, h.2, h.3, omega arith);
            between = h.4;
            ends = refl;
            within = at.within;
            spelled = e;
          };
          found = λ part r named from to.
              offsets (Some r) (pair_around place p (p ∷ others) part r (inl refl) named from to);
          last = λ none k. absurd (true≢false k);
          next = λ none _ next is.
              let here : next ≡ inner = is ∙ past_gap_again f inner h.5 (closes ms w.after h.6 deep) in
              record {
                ms = ms;
                valid = h.6;
                shallow = deep;
                spelled = here;
                within = rw here (ends_gap text f inner (ends_one text comma (gap f inner)
                    (ends_gap text c behind (ends_value text v (gap c behind)
                    (ends_pair text k a b (value v (gap c behind)) from)))));
                short = let n = at.short in
                    omega (
                      arith,
                      ap length here,
                      ap length e,
                      pair_longer k a b (value v (gap c behind)),
                      value_longer v (gap c behind) h.3,
                      gap_longer c behind,
                      gap_longer f inner,
                    );
                offsets = λ o t. offsets o (more_offsets place p others o none t);
              };
        }
