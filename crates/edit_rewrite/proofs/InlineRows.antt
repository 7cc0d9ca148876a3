-- The rule for inserting a member into an inline table.
use Rattle.std.proofs.Common.{◌≡◌, ℕ, Bool, true, false, cond, List, [], ◌∷◌, ◌++◌, length, drop, Option, Some, None, option_map, refl, sym, ap, ◌∙◌, true≢false}
use Rattle.std.specs.Prelude.{IsUtf8, unwrap_or, codes}
use Rattle.edit_syntax.specs.Characters.{right_brace}
use Rattle.edit_syntax.specs.Grammar.{Between, gap, Value, basic, literal, multi_basic, multi_literal, boolean, integer, float, datetime, array, inline, value, Members, no_members, last_member, member, Text, text}
use Rattle.edit_syntax.proofs.Members.{Among, among_contained, contained_among}
use Rattle.edit_rewrite.specs.PairOffsets.{StandsIn}
use Rattle.edit_tree.specs.Assertions.{Place, same_place, AreCompatible, assertions, IsDocument}
use Rattle.edit_tree.specs.EditBytes.{Splice, put_before, first_of, behind_last, is_blank_gap, inline_grown, in_inline, in_section, in_dotted, in_inner_dotted, in_super, at_start, inserted}
use Rattle.edit_document.specs.Items.{is_inline}
use Rattle.edit_tree.specs.NewItems.{NewValue, new_pair}
use Rattle.edit_document.specs.Ranges.{is_table_value, StartsTable, HasTable}
use Rattle.edit_tree.specs.SlotTexts.{TableAt}
use Rattle.edit_tree.specs.Tree.{view_at, is_value_at}
use Rattle.edit_tree.specs.Written.{PlacedValue, values, start_of, IsWrittenAt}
use Rattle.edit_tree.proofs.Choices.{first_nothing}
use Rattle.edit_rewrite.proofs.InlineSuffixes.{inline_row}
use Rattle.edit_tree.proofs.SamePlace.{same_place_is}
use Rattle.edit_rewrite.proofs.SetBytes.{drop_front}
use Rattle.edit_tree.proofs.UniqueValues.{listed_value}
use Rattle.edit_rewrite.proofs.ValueAssertions.{value_shows}
use Rattle.edit_rewrite.proofs.ValueSuffixes.{values_stand}

-- ---- where an inline table begins

-- nothing is written where no value is
pub no_table : (form : Text) (place : Place) → is_value_at form place ≡ false → HasTable form place None
no_table form place none w listed there =
    absurd (true≢false (sym (ap (λ (p : Place). is_value_at form p) (sym there)
    ∙ listed_value form w (contained_among w (values form) listed)) ∙ none))

-- nor where nothing stands
pub no_view : (form : Text) (place : Place) → AreCompatible (assertions form) → view_at form place ≡ None
    → HasTable form place None
no_view form place clash none w listed there =
    absurd (never (is_table_value w.value) (sym (ap (option_map is_inline) none)
    ∙ ap (λ (p : Place). option_map is_inline (view_at form p)) (sym there)
    ∙ value_shows form w clash (contained_among w (values form) listed)))
  where
    never : (b : Bool) → None ≡ Some b → ⊥
    never b e = cc

-- what is written elsewhere is no table, where the place shows none
pub other_value : (form : Text) (place : Place) → AreCompatible (assertions form)
    → option_map is_inline (view_at form place) ≡ Some false → HasTable form place None
other_value form place clash none w listed there =
    some_same _ _ (sym (value_shows form w clash (contained_among w (values form) listed))
    ∙ ap (λ (p : Place). option_map is_inline (view_at form p)) there ∙ none)
  where
    some_same : (a b : Bool) → Some a ≡ Some b → a ≡ b
    some_same a b e = cc

table_parts : (v : Value) → is_table_value v ≡ true → (g : List Between) × (ms : Members) × (v ≡ inline g ms)
table_parts (inline g ms) e = (g, ms, refl)
table_parts (basic ps) e = absurd (true≢false (sym e))
table_parts (literal t) e = absurd (true≢false (sym e))
table_parts (multi_basic ps) e = absurd (true≢false (sym e))
table_parts (multi_literal ps) e = absurd (true≢false (sym e))
table_parts (boolean b) e = absurd (true≢false (sym e))
table_parts (integer n) e = absurd (true≢false (sym e))
table_parts (float f) e = absurd (true≢false (sym e))
table_parts (datetime d) e = absurd (true≢false (sym e))
table_parts (array g es) e = absurd (true≢false (sym e))

-- what is written there is one, where the place shows one
pub own_table : (form : Text) (place : Place) (start end : ℕ) → AreCompatible (assertions form)
    → IsWrittenAt form place start end → option_map is_inline (view_at form place) ≡ Some true
    → StartsTable form place start
own_table form place start end clash written shows =
    let w = written.placed_value in
    let is = some_same _ _ (sym (value_shows form w clash (contained_among w (values form) written.listed))
    ∙ ap (λ (p : Place). option_map is_inline (view_at form p)) written.there ∙ shows) in
    let parts = table_parts w.value is in
    record {
      placed_value = w;
      listed = written.listed;
      there = written.there;
      between = parts.0;
      all = parts.1;
      is = parts.2;
      starts = written.starts;
    }
  where
    some_same : (a b : Bool) → Some a ≡ Some b → a ≡ b
    some_same a b e = cc

-- ---- the row

-- a value begins at its offset
stands_from : (bytes : List ℕ) (form : Text) (w : PlacedValue) (start : ℕ) → IsDocument bytes form
    → StandsIn bytes w → start ≡ start_of (length (text form)) w → drop start bytes ≡ value w.value w.after
stands_from bytes form w start m stands e =
    ap (λ (n : ℕ). drop n bytes) e
    ∙ ap (λ (b : List ℕ). drop (start_of (length b) w) bytes) (sym m.grammar.spelled)
    ∙ drop_front bytes stands.ends.0 (value w.value w.after) stands.ends.1

-- a table begins at its offset
pub table_from : (bytes : List ℕ) (form : Text) (place : Place) (start : ℕ) → IsDocument bytes form
    → IsUtf8 bytes → (t : StartsTable form place start)
    → TableAt bytes (drop start bytes) t.between t.all t.placed_value.after
table_from bytes form place start m u t =
    let w = t.placed_value in
    let stands = values_stand bytes form m u w (contained_among w (values form) t.listed) in
    let from = stands_from bytes form w start m stands t.starts in
    record {
      valid = rw t.is at stands.valid;
      shallow = rw t.is at stands.shallow;
      within = (stands.ends.0, stands.ends.1 ∙ ap (λ (x : List ℕ). stands.ends.0 ++ x) (sym from));
      spelled = from ∙ ap (λ (v : Value). value v w.after) t.is;
    }

pub grown_some : (m : List ℕ) (g : List Between) (ms : Members) (after : List ℕ)
    → (s : Splice) × (inline_grown m (inline g ms) after ≡ Some s)
grown_some m g no_members after = go (is_blank_gap g) refl
  where
    go : (b : Bool) → is_blank_gap g ≡ b → (s : Splice)
        × (inline_grown m (inline g no_members) after ≡ Some s)
    go true e = (
      record {
        from = gap g (right_brace ∷ after);
        to = right_brace ∷ after;
        now = codes " " ++ (m ++ codes " ");
      },
      rw e refl,
    )
    go false e = (put_before (gap g (right_brace ∷ after)) (codes " " ++ m), rw e refl)
grown_some m g (last_member k a b v c) after =
    (put_before (behind_last (last_member k a b v c) (right_brace ∷ after)) (codes ", " ++ m), refl)
grown_some m g (member k a b v c d ms) after =
    (put_before (behind_last (member k a b v c d ms) (right_brace ∷ after)) (codes ", " ++ m), refl)

-- what is written there
pub table_inserted : (form : Text) (place : Place) (name : List ℕ) (v : NewValue) (start : ℕ)
    → AreCompatible (assertions form) → (t : StartsTable form place start)
    → (s : Splice) × (inline_grown (new_pair name v []) (inline t.between t.all) t.placed_value.after ≡ Some s)
    × (inserted place name v form ≡ s)
table_inserted form place name v start clash t =
    let m = new_pair name v [] in
    let w = t.placed_value in
    let s = grown_some m t.between t.all w.after in
    let row = inline_row form place m w s.0 clash (contained_among w (values form) t.listed) t.there
    (ap (λ (x : Value). inline_grown m x w.after) t.is ∙ s.1) in (
      s.0,
      s.1,
      ap (λ (o : Option Splice). unwrap_or (first_of (o ∷ in_section place m form ∷ in_dotted place m form
          ∷ in_inner_dotted place m form ∷ in_super place m form ∷ [])) (at_start m form)) row,
    )

-- what is no table does not grow
other_grown : (v : Value) (m after : List ℕ) → is_table_value v ≡ false → inline_grown m v after ≡ None
other_grown (inline g ms) m after e = absurd (true≢false e)
other_grown (basic ps) m after e = refl
other_grown (literal t) m after e = refl
other_grown (multi_basic ps) m after e = refl
other_grown (multi_literal ps) m after e = refl
other_grown (boolean b) m after e = refl
other_grown (integer n) m after e = refl
other_grown (float f) m after e = refl
other_grown (datetime d) m after e = refl
other_grown (array g es) m after e = refl

-- nothing is written into a value where no inline table is
pub no_inline : (form : Text) (place : Place) (m : List ℕ) → HasTable form place None
    → in_inline place m form ≡ None
no_inline form place m none =
    first_nothing _ (values form) (λ w among. go w (same_place w.place place) refl among)
  where
    go : (w : PlacedValue) (b : Bool) → same_place w.place place ≡ b → Among w (values form)
        → cond (same_place w.place place) (inline_grown m w.value w.after) None ≡ None
    go w true e among =
        ap (λ (b : Bool). cond b (inline_grown m w.value w.after) None) e
        ∙ other_grown w.value m w.after
        (none w (among_contained w (values form) among) (same_place_is w.place place e))
    go w false e among = ap (λ (b : Bool). cond b (inline_grown m w.value w.after) None) e
