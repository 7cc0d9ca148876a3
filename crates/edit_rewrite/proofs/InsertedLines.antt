-- The insertion of a member into a table that is not written as a value.
use Rattle.std.proofs.Common.{◌≡◌, ℕ, Bool, true, false, cond, List, [], ◌∷◌, ◌++◌, map, length, Option, Some, None, option_map, refl, sym, ap, ap₂, ◌∙◌}
use Rattle.std.specs.Prelude.{Result, Ok, Err, IfOk, not, ◌&&◌, is_some, unwrap_or, codes}
use Rattle.edit_syntax.specs.Grammar.{Statement, pair, header, element_header, Text}
use Rattle.edit_syntax.proofs.Members.{Among}
use Rattle.edit_rewrite.specs.declared.locate.Entry.{Entry}
use Rattle.edit_rewrite.specs.declared.inner.Inner.{Inner}
use Rattle.edit_rewrite.specs.Inner.{inner_of}
use Rattle.edit_tree.specs.Assertions.{Place, last_element_or_self}
use Rattle.edit_tree.specs.EditBytes.{Splice, put_before, before, first_of, first_result, last_result, new_line, is_pair, is_own, in_inline, in_section, in_inner_dotted, front_to, dotted_pair, in_dotted, in_super, at_start, inserted}
use Rattle.edit_rewrite.specs.Entries.{front_of, entry_of}
use Rattle.edit_tree.specs.NewItems.{NewValue, new_pair}
use Rattle.edit_rewrite.specs.StatementOffsets.{key_to, section_text, own_entry, dotted_entry, through_entry}
use Rattle.edit_tree.specs.Statements.{PlacedStatement, placed_statements, behind_part, front_parts, PlacedPair, paired_statement, inner_pairs, PlacedHeader, headed_statement}
use Rattle.edit_tree.proofs.Choices.{Alike, before_none, first_flat, first_none, last_none, first_chosen, last_chosen}
use Rattle.edit_rewrite.proofs.InnerRows.{InnerRow, inner_splice, inner_chosen, inner_nothing}

-- ---- the rows, statement by statement

cond_none : {A B : Type 0} (b : Bool) (x : A) (y : B) → cond b (Some x) None ≡ None
    → cond b (Some y) None ≡ None
cond_none true x y e = absurd cc
cond_none false x y e = refl

cond_some : {A : Type 0} (b : Bool) (x z : A) → cond b (Some x) None ≡ Some z → (b ≡ true) × (x ≡ z)
cond_some true x z e = (refl, cc)
cond_some false x z e = absurd cc

-- of a statement of the table's own
abbrev own_splice : Place → List ℕ → PlacedStatement → Option Splice
own_splice place m s = cond (is_own place s) (Some (new_line s.after m)) None

own_alike : (place : Place) (m : List ℕ) → Alike own_entry (own_splice place m) (entry_of place)
own_alike place m = record {
  none = λ s e. cond_none (is_own place s) (entry_of place s) (new_line s.after m) e;
  some = λ s b e. let r = cond_some (is_own place s) (entry_of place s) b e in
      (new_line s.after m, ap (λ (t : Bool). cond t (Some (new_line s.after m)) None) r.0);
}

-- of a pair
abbrev dotted_splice : Place → List ℕ → PlacedStatement → Option Splice
dotted_splice place m s = first_result (line_of s) (paired_statement s)
  where
    line_of : PlacedStatement → PlacedPair → Option Splice
    line_of s p = option_map (λ suffix. new_line s.after (dotted_pair p suffix m)) (front_to place p)

abbrev dotted_line : PlacedStatement → List ℕ → List ℕ → Splice
dotted_line s m suffix = new_line s.after (key_to s suffix ++ (codes "." ++ m))

dotted_is : (place : Place) (m : List ℕ) (s : PlacedStatement) → dotted_splice place m s
    ≡ cond (is_pair s.statement) (option_map (dotted_line s m) (front_of place s)) None
dotted_is place m s = go s.statement
  where
    go : (st : Statement) → dotted_splice place m (record s { statement = st })
        ≡ cond (is_pair st) (option_map (dotted_line (record s { statement = st }) m)
        (front_of place (record s { statement = st }))) None
    go (pair k a b v) =
        before_none (option_map (dotted_line (record s { statement = pair k a b v }) m)
        (front_of place (record s { statement = pair k a b v })))
    go (header a k b) = refl
    go (element_header a k b) = refl

pair_none : (p : Bool) (o : Option (List ℕ)) (x : Entry) (f : List ℕ → Splice)
    → cond (not (not p) && is_some (option_map length o)) (Some x) None ≡ None
    → cond p (option_map f o) None ≡ None
pair_none true None x f e = refl
pair_none true (Some s) x f e = absurd cc
pair_none false o x f e = refl

pair_some : (p : Bool) (o : Option (List ℕ)) (x z : Entry)
    → cond (not (not p) && is_some (option_map length o)) (Some x) None ≡ Some z
    → (suffix : List ℕ) × (p ≡ true) × (o ≡ Some suffix) × (x ≡ z)
pair_some true None x z e = absurd cc
pair_some true (Some s) x z e = (s, refl, refl, cc)
pair_some false o x z e = absurd cc

dotted_alike : (place : Place) (m : List ℕ) → Alike dotted_entry (dotted_splice place m) (entry_of place)
dotted_alike place m = record {
  none = λ s e. dotted_is place m s
      ∙ pair_none (is_pair s.statement) (front_of place s) (entry_of place s) (dotted_line s m) e;
  some = λ s b e. let r = pair_some (is_pair s.statement) (front_of place s) (entry_of place s) b e in (
    dotted_line s m r.0,
    dotted_is place m s
        ∙ ap₂ (λ (t : Bool) (o : Option (List ℕ)). cond t (option_map (dotted_line s m) o) None) r.1 r.2,
  );
}

-- of a header
abbrev through_splice : Place → List ℕ → PlacedStatement → Option Splice
through_splice place m s = first_result grow (headed_statement s)
  where
    grow : PlacedHeader → Option Splice
    grow h =
        option_map (λ suffix. put_before h.line (section_text (before h.from suffix) m))
        (behind_part (last_element_or_self h.earlier) place [] (front_parts h.parts))

abbrev through_section : PlacedStatement → List ℕ → List ℕ → Splice
through_section s m suffix = put_before s.line (section_text (key_to s suffix) m)

through_is : (place : Place) (m : List ℕ) (s : PlacedStatement) → through_splice place m s
    ≡ cond (is_pair s.statement) None (option_map (through_section s m) (front_of place s))
through_is place m s = go s.statement
  where
    go : (st : Statement) → through_splice place m (record s { statement = st })
        ≡ cond (is_pair st) None (option_map (through_section (record s { statement = st }) m)
        (front_of place (record s { statement = st })))
    go (pair k a b v) = refl
    go (header a k b) =
        before_none (option_map (through_section (record s { statement = header a k b }) m)
        (front_of place (record s { statement = header a k b })))
    go (element_header a k b) =
        before_none (option_map (through_section (record s { statement = element_header a k b }) m)
        (front_of place (record s { statement = element_header a k b })))

header_none : (p : Bool) (o : Option (List ℕ)) (x : Entry) (f : List ℕ → Splice)
    → cond (not p && is_some (option_map length o)) (Some x) None ≡ None → cond p None (option_map f o) ≡ None
header_none false None x f e = refl
header_none false (Some s) x f e = absurd cc
header_none true o x f e = refl

header_some : (p : Bool) (o : Option (List ℕ)) (x z : Entry)
    → cond (not p && is_some (option_map length o)) (Some x) None ≡ Some z
    → (suffix : List ℕ) × (p ≡ false) × (o ≡ Some suffix) × (x ≡ z)
header_some false None x z e = absurd cc
header_some false (Some s) x z e = (s, refl, refl, cc)
header_some true o x z e = absurd cc

through_alike : (place : Place) (m : List ℕ) → Alike through_entry (through_splice place m) (entry_of place)
through_alike place m = record {
  none = λ s e. through_is place m s
      ∙ header_none (is_pair s.statement) (front_of place s) (entry_of place s) (through_section s m) e;
  some = λ s b e. let r = header_some (is_pair s.statement) (front_of place s) (entry_of place s) b e in (
    through_section s m r.0,
    through_is place m s
        ∙ ap₂ (λ (t : Bool) (o : Option (List ℕ)). cond t None (option_map (through_section s m) o)) r.1 r.2,
  );
}

-- ---- the rows of a text

-- of the pair that is written
pub row_of : (form : Text) (place : Place) (name : List ℕ) (v : NewValue) (m : List ℕ)
    → in_inline place m form ≡ None
    → m ≡ new_pair name v [] → in_inline place (new_pair name v []) form ≡ None
row_of form place name v m none is = ap (λ (x : List ℕ). in_inline place x form) (sym is) ∙ none

module _ (form : Text) (place : Place) (name : List ℕ) (v : NewValue)
    (no_table : in_inline place (new_pair name v []) form ≡ None)
    (inner : Option Inner) (found : inner ≡ last_result (inner_of place) (inner_pairs form)) (es : List Entry)
    (all : es ≡ map (entry_of place) (placed_statements form)) where
  abbrev rows : Option Splice → Option Splice → Option Splice → Option Splice → Option Splice → Splice
  rows a b c d e = unwrap_or (first_of (a ∷ b ∷ c ∷ d ∷ e ∷ [])) (at_start (new_pair name v []) form)

  outside : inserted place name v form
      ≡ rows None (in_section place (new_pair name v []) form) (in_dotted place (new_pair name v []) form)
      (in_inner_dotted place (new_pair name v []) form) (in_super place (new_pair name v []) form)
  outside =
      ap (λ (a : Option Splice). rows a (in_section place (new_pair name v []) form)
      (in_dotted place (new_pair name v []) form) (in_inner_dotted place (new_pair name v []) form)
      (in_super place (new_pair name v []) form)) no_table

  -- behind the last statement of the table's own
  pub own_row : (e : Entry) → last_result own_entry es ≡ Some e
      → (s : PlacedStatement) × Among s (placed_statements form) × (e ≡ entry_of place s)
      × (inserted place name v form ≡ new_line s.after (new_pair name v []))
  own_row e h =
      let m = new_pair name v [] in
      let ch = last_chosen own_entry (own_splice place m) (entry_of place) (own_alike place m) (placed_statements form) e
      (ap (last_result own_entry) (sym all) ∙ h) in
      let r = cond_some (is_own place ch.one) (entry_of place ch.one) e ch.made in
      let made : in_section place m form ≡ Some (new_line ch.one.after m) =
      ch.is ∙ ap (λ (t : Bool). cond t (Some (new_line ch.one.after m)) None) r.0 in (
        ch.one,
        ch.among,
        sym r.1,
        outside
            ∙ ap (λ (b : Option Splice). rows None b (in_dotted place m form)
            (in_inner_dotted place m form) (in_super place m form)) made,
      )

  no_section : last_result own_entry es ≡ None → in_section place (new_pair name v []) form ≡ None
  no_section h =
      let m = new_pair name v [] in
      last_none own_entry (own_splice place m) (entry_of place) (own_alike place m) (placed_statements form)
      (ap (last_result own_entry) (sym all) ∙ h)

  -- behind the last pair whose key goes on behind the table
  pub dotted_row : (e : Entry) → last_result own_entry es ≡ None → last_result dotted_entry es ≡ Some e
      → (s : PlacedStatement) × Among s (placed_statements form) × (e ≡ entry_of place s)
      × (suffix : List ℕ) × (front_of place s ≡ Some suffix)
      × (inserted place name v form ≡ dotted_line s (new_pair name v []) suffix)
  dotted_row e none h =
      let m = new_pair name v [] in
      let ch = last_chosen dotted_entry (dotted_splice place m) (entry_of place) (dotted_alike place m)
      (placed_statements form) e
      (ap (last_result dotted_entry) (sym all) ∙ h) in
      let r = pair_some (is_pair ch.one.statement) (front_of place ch.one)
      (entry_of place ch.one) e ch.made in
      let made : in_dotted place m form ≡ Some (dotted_line ch.one m r.0) =
      ch.is ∙ dotted_is place m ch.one
      ∙ ap₂ (λ (t : Bool) (o : Option (List ℕ)). cond t (option_map (dotted_line ch.one m) o) None) r.1 r.2
      in (
        ch.one,
        ch.among,
        sym r.3,
        r.0,
        r.2,
        outside
            ∙ ap₂ (λ (b c : Option Splice). rows None b c (in_inner_dotted place m form)
            (in_super place m form))
            (no_section none) made,
      )

  no_dotted : last_result dotted_entry es ≡ None → in_dotted place (new_pair name v []) form ≡ None
  no_dotted h =
      let m = new_pair name v [] in
      last_none dotted_entry (dotted_splice place m) (entry_of place) (dotted_alike place m) (placed_statements form)
      (ap (last_result dotted_entry) (sym all) ∙ h)

  -- behind the last pair, of an inline table, whose key goes on behind the table
  pub inner_row : (e : Inner) → last_result own_entry es ≡ None → last_result dotted_entry es ≡ None
      → inner ≡ Some e → (r : InnerRow place form (new_pair name v []) e)
      × (inserted place name v form ≡ inner_splice r.pair r.suffix (new_pair name v []))
  inner_row e none no_pair h =
      let m = new_pair name v [] in
      let r = inner_chosen form place m e (sym found ∙ h) in (
        r,
        outside
            ∙ ap₂ (λ (b c : Option Splice). rows None b c (in_inner_dotted place m form)
            (in_super place m form))
            (no_section none) (no_dotted no_pair)
            ∙ ap (λ (d : Option Splice). rows None None None d (in_super place m form)) r.row,
      )

  no_lines : last_result own_entry es ≡ None → last_result dotted_entry es ≡ None → inner ≡ None
      → inserted place name v form ≡ rows None None None None (in_super place (new_pair name v []) form)
  no_lines none no_pair no_inner =
      let m = new_pair name v [] in
      outside
      ∙ ap₂ (λ (b c : Option Splice). rows None b c (in_inner_dotted place m form) (in_super place m form))
      (no_section none) (no_dotted no_pair)
      ∙ ap (λ (d : Option Splice). rows None None None d (in_super place m form))
      (inner_nothing form place m (sym found ∙ no_inner))

  flat : (m : List ℕ) → in_super place m form ≡ first_result (through_splice place m) (placed_statements form)
  flat m = first_flat _ headed_statement (placed_statements form)

  -- before the first header whose key goes on behind the table
  pub through_row : (e : Entry) → last_result own_entry es ≡ None → last_result dotted_entry es ≡ None
      → inner ≡ None → first_result through_entry es ≡ Some e
      → (s : PlacedStatement) × Among s (placed_statements form) × (e ≡ entry_of place s)
      × (suffix : List ℕ) × (front_of place s ≡ Some suffix)
      × (inserted place name v form ≡ through_section s (new_pair name v []) suffix)
  through_row e none no_pair no_inner h =
      let m = new_pair name v [] in
      let ch = first_chosen through_entry (through_splice place m) (entry_of place) (through_alike place m)
      (placed_statements form) e (ap (first_result through_entry) (sym all) ∙ h) in
      let r = header_some (is_pair ch.one.statement) (front_of place ch.one)
      (entry_of place ch.one) e ch.made in
      let made : in_super place m form ≡ Some (through_section ch.one m r.0) =
      flat m ∙ ch.is ∙ through_is place m ch.one
      ∙ ap₂ (λ (t : Bool) (o : Option (List ℕ)). cond t None (option_map (through_section ch.one m) o)) r.1
      r.2 in (
        ch.one,
        ch.among,
        sym r.3,
        r.0,
        r.2,
        no_lines none no_pair no_inner ∙ ap (λ (d : Option Splice). rows None None None None d) made,
      )

  -- at the start of the text
  pub start_row : last_result own_entry es ≡ None → last_result dotted_entry es ≡ None → inner ≡ None
      → first_result through_entry es ≡ None
      → inserted place name v form ≡ at_start (new_pair name v []) form
  start_row none no_pair no_inner h =
      let m = new_pair name v [] in
      let made : in_super place m form ≡ None =
      flat m
      ∙ first_none through_entry (through_splice place m) (entry_of place) (through_alike place m)
      (placed_statements form)
      (ap (first_result through_entry) (sym all) ∙ h) in
      no_lines none no_pair no_inner ∙ ap (λ (d : Option Splice). rows None None None None d) made

-- ---- what the code promises

-- what holds for each holds of the value for each
pub each_ok : {T E X : Type 0} (r : Result T E) (P : X → T → Type 0) → ((x : X) → IfOk r (P x))
    → IfOk r (λ t. (x : X) → P x t)
each_ok (Ok t) P h = h
each_ok (Err e) P h = tt
