-- The position of the innermost value around a place, and the text with that value replaced.
use Rattle.std.proofs.Common.{◌≡◌, ℕ, zero, suc, ◌-◌, ◌<◌, ◌≤◌, Bool, true, false, ◌||◌, eqb, List, [], ◌∷◌, ◌++◌, length, take, drop, Option, Some, None, refl, sym, ap, ap₂, subst, ◌∙◌, true≢false, append_assoc, length-append, arith}
use Rattle.std.specs.Prelude.{IsUtf8, Result, Ok, Err, IfOk}
use Rattle.std.specs.Bool.{Decides}
use Rattle.std.proofs.lemmas.Bool.Decides.{nat_tests}
use Rattle.std.proofs.lemmas.List.{take_rest, drop-map, length-map}
use Rattle.std.proofs.lemmas.Str.{IsCharBoundary-at_seam}
use Rattle.std.proofs.Math.Seq.{drop-append_seam}
use Rattle.std.specs.declared.alloc.Global.{Global}
use Rattle.std.specs.declared.string.String.{String}
use Rattle.edit_base.specs.declared.errors.Error.{Error}
use Rattle.edit_syntax.specs.Characters.{left_bracket, left_brace}
use Rattle.edit_syntax.specs.Grammar.{Value, basic, literal, multi_basic, multi_literal, boolean, integer, float, datetime, array, inline, value, IsValue, lines, byte_order_mark, Text, text}
use Rattle.edit_syntax.specs.Numbers.{integer_text, float_text, datetime_text}
use Rattle.edit_syntax.specs.Reading.{first}
use Rattle.edit_syntax.specs.Spans.{cut_from}
use Rattle.edit_syntax.proofs.DateReadAgain.{datetime_start}
use Rattle.edit_syntax.proofs.Members.{contained_among, among_all}
use Rattle.edit_syntax.proofs.NumberReadAgain.{is_start, integer_start, float_start}
use Rattle.edit_syntax.proofs.ValueEdges.{value_rest, value_enclosed}
use Rattle.edit_rewrite.specs.declared.remove_text.Around.{Around}
use Rattle.edit_tree.specs.declared.place.Step.{Step as WrittenStep}
use Rattle.edit_tree.specs.Assertions.{IsDocument, Place, Step, at}
use Rattle.edit_tree.specs.EditBytes.{before, with_splice}
use Rattle.edit_document.specs.Items.{step_view, place_view}
use Rattle.edit_tree.specs.RemovedBytes.{innermost, removed_text, lines_left, value_left}
use Rattle.edit_rewrite.specs.RemoveText.{IsFoundAt, IsAround, HasAround, StandsBetween}
use Rattle.edit_tree.specs.Slots.{IsContainer}
use Rattle.edit_rewrite.specs.StatementOffsets.{IsSuffix}
use Rattle.edit_tree.specs.Statements.{placed_statements}
use Rattle.edit_tree.specs.Tree.{is_value_at}
use Rattle.edit_tree.specs.Written.{PlacedValue, values, IsWrittenAt}
use Rattle.edit_tree.proofs.Ends.{Ends, text_behind}
use Rattle.edit_tree.proofs.FineValues.{values_fine}
use Rattle.edit_tree.proofs.Innermost.{none_around, same_around, value_around}
use Rattle.edit_rewrite.proofs.LeftTexts.{value_start}
use Rattle.edit_rewrite.proofs.SlotLaws.{before_is}
use Rattle.edit_rewrite.proofs.SuffixTexts.{whole_suffix, cut_suffixes, cut_rest}
use Rattle.edit_rewrite.proofs.StatementSuffixes.{suffix_of}
use Rattle.edit_rewrite.proofs.ValueSuffixes.{values_stand}

-- ---- where a value stands

-- a text may be cut behind a value
behind_value : (bytes : List ℕ) (v : Value) (after : List ℕ) → IsUtf8 bytes → IsValue v
    → Ends bytes (value v after) → IsSuffix bytes after
behind_value bytes v after u valid ends =
    let e = value_enclosed v valid in
    let front = ends.0 ++ e.before in
    let seam : bytes ≡ front ++ (e.last ∷ after) =
    ends.1 ∙ ap (λ (l : List ℕ). ends.0 ++ l) (value_rest v after ∙ ap (λ (l : List ℕ). l ++ after) e.ends
    ∙ append_assoc e.before (e.last ∷ []) after) ∙ sym (append_assoc ends.0 e.before (e.last ∷ after)) in
    let whole : bytes ≡ (front ++ (e.last ∷ [])) ++ after =
    seam ∙ sym (append_assoc front (e.last ∷ []) after) in
    let text = text_behind front after e.last e.last_ascii (subst IsUtf8 seam u) in
    let size = ap length whole ∙ length-append (front ++ (e.last ∷ [])) after in
    let at : length bytes - length after ≡ length (front ++ (e.last ∷ [])) = omega arith in
    record {
      front = front ++ (e.last ∷ []);
      seam = whole;
      fits = rw at (IsCharBoundary-at_seam bytes (front ++ (e.last ∷ [])) after whole text);
    }

pub stands_between : (bytes : List ℕ) (form : Text) (w : PlacedValue) (a : Around) → IsDocument bytes form
    → IsUtf8 bytes → IsFoundAt form w a → StandsBetween bytes w a.from a.to
stands_between bytes form w a m u f =
    let among = contained_among w (values form) f.listed in
    let valid = among_all (λ w. IsValue w.value) w (values form)
    (values_fine [] [] form.lines m.grammar.well_formed) among in
    let s = values_stand bytes form m u w among in
    record {
      valid = valid;
      shallow = s.shallow;
      start = suffix_of bytes (value w.value w.after) s.ends (value_start w.value w.after valid);
      end = behind_value bytes w.value w.after u valid s.ends;
      from_is = f.from;
      to_is = f.to;
    }

-- the code finds it by what follows
pub found_at : (bytes : List ℕ) (form : Text) (p : Place) (start end : ℕ) (a : Around) → IsDocument bytes form
    → IsUtf8 bytes → (r : IsWrittenAt form p start end) → a.steps ≡ length p → a.from ≡ length bytes - start
    → a.to ≡ length bytes - end → IsFoundAt form r.placed_value a
found_at bytes form p start end a m u r steps from to =
    let w = r.placed_value in
    let ends = (values_stand bytes form m u w (contained_among w (values form) r.listed)).ends in
    let size = ap length m.grammar.spelled in
    let long = ap length ends.1 ∙ length-append ends.0 (value w.value w.after) in
    let more = ap length (value_rest w.value w.after) ∙ length-append (value w.value []) w.after in
    let starts = r.starts in
    let finish = r.ends in
    record {
      listed = r.listed;
      steps = steps ∙ ap length (sym r.there);
      from = omega arith;
      to = omega arith;
    }

-- ---- other bytes there

-- the text between the offsets of a value is the value
pub value_between : (bytes : List ℕ) (w : PlacedValue) (from to : ℕ) → StandsBetween bytes w from to
    → cut_from bytes (length bytes - from) (length bytes - to) ≡ value w.value []
value_between bytes w from to s =
    cut_suffixes bytes (value w.value w.after) w.after from to s.start s.end
    (value w.value [], value_rest w.value w.after) s.from_is s.to_is
    ∙ before_is (value w.value w.after) (value w.value []) w.after (value_rest w.value w.after)

-- the text around it, with other bytes between
pub part_put : (bytes now one two three front back : List ℕ) (w : PlacedValue) (from to : ℕ) → IsUtf8 bytes
    → StandsBetween bytes w from to
    → front ≡ cut_from bytes (length bytes - length bytes) (length bytes - from)
    → back ≡ cut_from bytes (length bytes - to) (length bytes - 0) → one ≡ front → two ≡ one ++ now
    → three ≡ two ++ back
    → three ≡ with_splice bytes (record { from = value w.value w.after; to = w.after; now = now })
part_put bytes now one two three front back w from to u s f b e1 e2 e3 =
    let head : front ≡ before bytes (value w.value w.after) =
    f ∙ cut_suffixes bytes bytes (value w.value w.after) (length bytes) from (whole_suffix bytes u) s.start
    (s.start.front, s.start.seam) refl s.from_is in
    let tail : back ≡ w.after = b ∙ cut_rest bytes w.after to s.end s.to_is in
    e3 ∙ ap₂ (λ (x y : List ℕ). x ++ y) (e2 ∙ ap (λ (x : List ℕ). x ++ now) (e1 ∙ head)) tail
    ∙ append_assoc (before bytes (value w.value w.after)) now w.after

-- ---- arrays and inline tables

-- what begins an array or an inline table
abbrev pub opens_container : ℕ → Bool
opens_container b = eqb b left_bracket || eqb b left_brace

not_number : (b : ℕ) → is_start b ≡ true → opens_container b ≡ false
not_number b h = grind (arith, nat_tests)

never : {P : Type 0} (b : Bool) → b ≡ false → b ≡ true → P
never b f t = absurd (true≢false (sym t ∙ f))

-- the first byte distinguishes them from other values
pub first_tells : (v : Value) → IsValue v → Decides (opens_container (first (value v []))) (IsContainer v)
first_tells (array g es) h = ((λ e. tt), (λ e. refl))
first_tells (inline g ms) h = ((λ e. tt), (λ e. refl))
first_tells (basic ps) h = ((λ e. never _ refl e), (λ e. absurd e))
first_tells (literal t) h = ((λ e. never _ refl e), (λ e. absurd e))
first_tells (multi_basic ps) h = ((λ e. never _ refl e), (λ e. absurd e))
first_tells (multi_literal ps) h = ((λ e. never _ refl e), (λ e. absurd e))
first_tells (boolean true) h = ((λ e. never _ refl e), (λ e. absurd e))
first_tells (boolean false) h = ((λ e. never _ refl e), (λ e. absurd e))
first_tells (integer n) h =
    ((λ e. never _ (not_number (first (integer_text n [])) (integer_start n [] h)) e), (λ e. absurd e))
first_tells (float f) h =
    ((λ e. never _ (not_number (first (float_text f [])) (float_start f [] h)) e), (λ e. absurd e))
first_tells (datetime d) h =
    ((λ e. never _ (not_number (first (datetime_text d [])) (datetime_start d [] h)) e), (λ e. absurd e))

-- nothing goes from another value
pub plain_left : (gone place : Place) (v : Value) → (IsContainer v → ⊥)
    → value_left gone place v [] ≡ value v []
plain_left gone place (array g es) plain = absurd (plain tt)
plain_left gone place (inline g ms) plain = absurd (plain tt)
plain_left gone place (basic ps) plain = refl
plain_left gone place (literal t) plain = refl
plain_left gone place (multi_basic ps) plain = refl
plain_left gone place (multi_literal ps) plain = refl
plain_left gone place (boolean b) plain = refl
plain_left gone place (integer n) plain = refl
plain_left gone place (float f) plain = refl
plain_left gone place (datetime d) plain = refl

-- ---- the whole text

-- where a value is around the place
pub removed_inside : (form : Text) (gone : Place) (w : PlacedValue) → innermost gone form ≡ Some w
    → removed_text gone form
    ≡ with_splice (text form)
    (record { from = value w.value w.after; to = w.after; now = value_left gone w.place w.value [] })
removed_inside form gone w e = rw e refl

-- and where none is
pub removed_lines : (form : Text) (gone : Place) → innermost gone form ≡ None
    → removed_text gone form ≡ byte_order_mark form.has_byte_order_mark (lines_left gone (lines form.lines) (placed_statements form))
removed_lines form gone e = rw e refl

-- ---- the innermost value, step by step

-- a place that has steps ends with one
ends_so : (steps : List WrittenStep) (n : ℕ) → length steps ≡ suc n
    → (s : Step) × (place_view steps ≡ at (place_view (take n steps)) s)
ends_so [] n e = absurd cc
ends_so (x ∷ []) zero e = (step_view x, refl)
ends_so (x ∷ []) (suc n) e = absurd cc
ends_so (x ∷ y ∷ ys) zero e = absurd cc
ends_so (x ∷ y ∷ ys) (suc n) e =
    let shorter : length (y ∷ ys) ≡ suc n = cc in
    let r = ends_so (y ∷ ys) n shorter in
    (r.0, ap (λ (p : Place). step_view x ∷ p) r.1)

last_step : (steps : List WrittenStep) → 1 ≤ length steps
    → (s : Step) × (place_view steps ≡ at (place_view (take (length steps - 1) steps)) s)
last_step steps some = ends_so steps (length steps - 1) (omega arith)

-- nothing is around the root
pub none_around_root : (form : Text) (steps : List WrittenStep) → length steps < 1
    → innermost (place_view steps) form ≡ None
none_around_root form [] none = none_around form
none_around_root form (x ∷ xs) none = absurd (omega arith)

-- the value that stands one step above the place is the innermost one
pub some_around : (bytes : List ℕ) (form : Text) (steps : List WrittenStep) (start end : ℕ) (a : Around)
    → IsDocument bytes form → IsUtf8 bytes → 1 ≤ length steps
    → IsWrittenAt form (place_view (take (length steps - 1) steps)) start end
    → a.steps ≡ length (take (length steps - 1) steps) → a.from ≡ length bytes - start
    → a.to ≡ length bytes - end → IsAround form (place_view steps) a
some_around bytes form steps start end a m u some r count from to =
    let above = take (length steps - 1) steps in
    let last = last_step steps some in
    let among = contained_among r.placed_value (values form) r.listed in
    record {
      placed_value = r.placed_value;
      found = found_at bytes form (place_view above) start end a m u r
          (count ∙ sym (length-map above step_view)) from to;
      innermost_is = ap (λ (p : Place). innermost p form) last.1
          ∙ value_around form (place_view above) last.0 r.placed_value m.no_clash among r.there;
      below = last.0 ∷ [];
      parted = last.1 ∙ ap (λ (p : Place). at p last.0) (sym r.there);
    }

-- where none stands there, the innermost one around the place above is the innermost one
pub around_above : (form : Text) (steps : List WrittenStep) (r : Option Around) → 1 ≤ length steps
    → is_value_at form (place_view (take (length steps - 1) steps)) ≡ false
    → HasAround form (place_view (take (length steps - 1) steps)) r → HasAround form (place_view steps) r
around_above form steps r some none h = go r h
  where
    p : Place
    p = place_view (take (length steps - 1) steps)

    last : (s : Step) × (place_view steps ≡ at p s)
    last = last_step steps some

    same : innermost (place_view steps) form ≡ innermost p form
    same = ap (λ (q : Place). innermost q form) last.1 ∙ same_around form p last.0 none

    go : (r : Option Around) → HasAround form p r → HasAround form (place_view steps) r
    go None e = same ∙ e
    go (Some a) i = record {
      placed_value = i.placed_value;
      found = i.found;
      innermost_is = same ∙ i.innermost_is;
      below = at i.below last.0;
      parted = last.1 ∙ ap (λ (q : Place). at q last.0) i.parted
          ∙ append_assoc i.placed_value.place i.below (last.0 ∷ []);
    }

-- the steps behind those of the value lead to the place
pub steps_below : (steps : List WrittenStep) (n : ℕ) (place below : Place) → place_view steps ≡ place ++ below
    → n ≡ length place → place ++ place_view (take (length steps - n) (drop n steps)) ≡ place_view steps
steps_below steps n place below e is =
    ap (λ (l : List WrittenStep). place ++ place_view l) (take_rest steps n)
    ∙ ap (λ (p : Place). place ++ p) (sym (drop-map step_view n steps)
    ∙ ap₂ (λ (k : ℕ) (p : Place). drop k p) is e ∙ drop-append_seam place below)
    ∙ sym e

-- what holds of a result for each form
pub each_form : (bytes : List ℕ) (r : Result (String Global) Error) (P : Text → String Global → Type 0)
    → ((form : Text) → IsDocument bytes form → IfOk r (P form))
    → IfOk r (λ t. (form : Text) → IsDocument bytes form → P form t)
each_form bytes (Ok t) P h = h
each_form bytes (Err e) P h = tt
