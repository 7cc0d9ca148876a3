-- The texts with a member inserted into a table that is not written as a value: each call follows its rule.
use Rattle.std.proofs.Common.{◌≡◌, ℕ, List, [], ◌++◌, map, length, Option, Some, None, String, Global, string_bytes, sym, ap, ap₂, ◌∙◌}
use Rattle.std.specs.Prelude.{IsUtf8, Result, Ok, Err, IfOk, codes}
use Rattle.edit_syntax.specs.Grammar.{Text, text}
use Rattle.edit_syntax.proofs.Members.{Among}
use Rattle.edit_rewrite.specs.declared.locate.Entry.{Entry}
use Rattle.edit_rewrite.specs.declared.inner.Inner.{Inner}
use Rattle.edit_rewrite.specs.Inner.{inner_of, HasInner}
use Rattle.edit_tree.specs.Assertions.{IsDocument, Place}
use Rattle.edit_tree.specs.EditBytes.{Splice, put_before, with_splice, first_result, last_result, new_line, in_inline, front_to, dotted_pair, at_start, inserted, inserted_text}
use Rattle.edit_tree.specs.NewItems.{NewValue, new_pair}
use Rattle.edit_rewrite.specs.Entries.{front_of, entry_of}
use Rattle.edit_rewrite.specs.StatementOffsets.{IsSuffix, HasOffsets, key_to, section_text, own_entry, dotted_entry, through_entry}
use Rattle.edit_tree.specs.Statements.{PlacedStatement, placed_statements, PlacedPair, inner_pairs}
use Rattle.edit_rewrite.proofs.InnerRows.{InnerRow, inner_splice, inner_stands}
use Rattle.edit_rewrite.proofs.InsertedLines.{row_of, own_row, dotted_row, inner_row, through_row, start_row}
use Rattle.edit_rewrite.proofs.StatementSuffixes.{stated_offsets}

-- a call's text is the one with the splice that the row gives
spliced : {E : Type 0} (r : Result (String Global) E) (bytes spelled : List ℕ) (was is : Splice)
    → bytes ≡ spelled → is ≡ was → IfOk r (λ t. string_bytes t ≡ with_splice bytes was)
    → IfOk r (λ t. string_bytes t ≡ with_splice spelled is)
spliced (Ok t) bytes spelled was is b s e = e ∙ ap₂ with_splice b (sym s)
spliced (Err x) bytes spelled was is b s e = tt

module _ {E : Type 0} (r : Result (String Global) E) (bytes pair : List ℕ) (utf8 : IsUtf8 bytes)
    (form : Text) (place : Place) (name : List ℕ) (v : NewValue) (m : IsDocument bytes form)
    (none : in_inline place pair form ≡ None) (inner : Option Inner)
    (found : inner ≡ last_result (inner_of place) (inner_pairs form)) (is : pair ≡ new_pair name v [])
    (es : List Entry) (all : es ≡ map (entry_of place) (placed_statements form)) where
  -- it is the text with what a row makes of the pair
  written : (make : List ℕ → Splice) → inserted place name v form ≡ make (new_pair name v [])
      → IfOk r (λ t. string_bytes t ≡ with_splice bytes (make pair))
      → IfOk r (λ t. string_bytes t ≡ inserted_text place name v form)
  written make row = spliced r bytes (text form) (make pair) (inserted place name v form)
      m.grammar.spelled (row ∙ ap make (sym is))

  -- behind the last statement of the table's own
  pub own_text : (e : Entry) → last_result own_entry es ≡ Some e
      → ((rest : List ℕ) → IsSuffix bytes rest → e.after ≡ length rest
      → IfOk r (λ t. string_bytes t ≡ with_splice bytes (new_line rest pair)))
      → IfOk r (λ t. string_bytes t ≡ inserted_text place name v form)
  own_text e h call =
      let row = own_row form place name v (row_of form place name v pair none is) inner found es all e h in
      go row.0 row.1 row.2 row.3
    where
      go : (s : PlacedStatement) → Among s (placed_statements form) → e ≡ entry_of place s
          → inserted place name v form ≡ new_line s.after (new_pair name v [])
          → IfOk r (λ t. string_bytes t ≡ inserted_text place name v form)
      go s among at row = written (new_line s.after) row
          (call s.after (stated_offsets bytes form m utf8 s among).after (ap (λ (x : Entry). x.after) at))

  -- behind the last pair whose key goes on behind the table
  pub dotted_text : (e : Entry) → last_result own_entry es ≡ None → last_result dotted_entry es ≡ Some e
      → ((p : Place) (s : PlacedStatement) (suffix : List ℕ) → HasOffsets bytes s → e ≡ entry_of p s
      → front_of p s ≡ Some suffix → IfOk r (λ t. string_bytes t
      ≡ with_splice bytes (new_line s.after (key_to s suffix ++ (codes "." ++ pair)))))
      → IfOk r (λ t. string_bytes t ≡ inserted_text place name v form)
  dotted_text e no_own h call =
      let row = dotted_row form place name v (row_of form place name v pair none is) inner found es all e
      no_own h in
      go row.0 row.1 row.2 row.3 row.4 row.5
    where
      go : (s : PlacedStatement) → Among s (placed_statements form) → e ≡ entry_of place s → (suffix : List ℕ)
          → front_of place s ≡ Some suffix
          → inserted place name v form
          ≡ new_line s.after (key_to s suffix ++ (codes "." ++ new_pair name v []))
          → IfOk r (λ t. string_bytes t ≡ inserted_text place name v form)
      go s among at suffix front row =
          written (λ (p : List ℕ). new_line s.after (key_to s suffix ++ (codes "." ++ p))) row
          (call place s suffix (stated_offsets bytes form m utf8 s among) at front)

  -- behind the last pair, of an inline table, whose key goes on behind the table
  pub inner_text : (e : Inner) → last_result own_entry es ≡ None → last_result dotted_entry es ≡ None
      → inner ≡ Some e
      → ((p : Place) (q : PlacedPair) (suffix : List ℕ) → HasInner bytes q suffix → front_to p q ≡ Some suffix
      → inner_of p q ≡ Some e → IfOk r (λ t. string_bytes t
      ≡ with_splice bytes (put_before q.behind (codes ", " ++ dotted_pair q suffix pair))))
      → IfOk r (λ t. string_bytes t ≡ inserted_text place name v form)
  inner_text e no_own no_pair h call =
      let row = inner_row form place name v (row_of form place name v pair none is) inner found es all e
      no_own no_pair h in
      go row.0 row.1
    where
      go : (w : InnerRow place form (new_pair name v []) e)
          → inserted place name v form ≡ inner_splice w.pair w.suffix (new_pair name v [])
          → IfOk r (λ t. string_bytes t ≡ inserted_text place name v form)
      go w row =
          written (inner_splice w.pair w.suffix) row
          (call place w.pair w.suffix (inner_stands bytes form place w.pair w.suffix m utf8 w.among w.front)
          w.front w.is)

  -- before the first header whose key goes on behind the table
  pub through_text : (e : Entry) → last_result own_entry es ≡ None → last_result dotted_entry es ≡ None
      → inner ≡ None → first_result through_entry es ≡ Some e
      → ((p : Place) (s : PlacedStatement) (suffix : List ℕ) → HasOffsets bytes s → e ≡ entry_of p s
      → front_of p s ≡ Some suffix → IfOk r (λ t. string_bytes t
      ≡ with_splice bytes (put_before s.line (section_text (key_to s suffix) pair))))
      → IfOk r (λ t. string_bytes t ≡ inserted_text place name v form)
  through_text e no_own no_pair no_inner h call =
      let row = through_row form place name v (row_of form place name v pair none is) inner found es all e
      no_own no_pair no_inner h in
      go row.0 row.1 row.2 row.3 row.4 row.5
    where
      go : (s : PlacedStatement) → Among s (placed_statements form) → e ≡ entry_of place s → (suffix : List ℕ)
          → front_of place s ≡ Some suffix
          → inserted place name v form ≡ put_before s.line (section_text (key_to s suffix) (new_pair name v []))
          → IfOk r (λ t. string_bytes t ≡ inserted_text place name v form)
      go s among at suffix front row =
          written (λ (p : List ℕ). put_before s.line (section_text (key_to s suffix) p)) row
          (call place s suffix (stated_offsets bytes form m utf8 s among) at front)

  -- at the start of the text
  pub start_text : last_result own_entry es ≡ None → last_result dotted_entry es ≡ None → inner ≡ None
      → first_result through_entry es ≡ None
      → IfOk r (λ t. string_bytes t ≡ with_splice bytes (at_start pair form))
      → IfOk r (λ t. string_bytes t ≡ inserted_text place name v form)
  start_text no_own no_pair no_inner h call =
      written (λ (p : List ℕ). at_start p form)
      (start_row form place name v (row_of form place name v pair none is) inner found es all no_own no_pair
      no_inner h) call
