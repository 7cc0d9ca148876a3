-- From the results of the parser and the walk to the definitions: a text is a document, with this tree,
-- exactly where the walk succeeds.
use Rattle.std.proofs.Common.{◌≡◌, ℕ, ◌+◌, length, Bool, true, false, ◌==◌, ◌&&◌, ◌||◌, List, Option, Some, None, refl, sym, ap, subst, ◌∙◌, true≢false}
use Rattle.std.specs.Prelude.{map, not}
use Rattle.std.specs.Str.{is_utf8}
use Rattle.std.proofs.lemmas.Str.{IsUtf8-from_is_utf8}
use Rattle.std.proofs.lemmas.Bool.{eqb-true}
use Rattle.std.proofs.lemmas.Option.{same_Some}
use Rattle.edit_syntax.specs.Grammar.{Text, Lines, Spells}
use Rattle.edit_tree.specs.Assertions.{Place, key, same_step, same_place, IsDocument, assertions}
use Rattle.edit_tree.specs.Tree.{View, string, truth, whole, fractional, moment, static_array, table_array, inline_table, table, view_at}
use Rattle.edit_tree.specs.DocumentViews.{node_at}
use Rattle.edit_syntax.specs.FormOf.{form_of}
use Rattle.edit_syntax.specs.SyntaxTokens.{tokens_of_text}
use Rattle.edit_syntax.specs.Reading.{◌>>=◌, read_text, lines_at, begins_with_byte_order_mark, skip_byte_order_mark}
use Rattle.edit_tree.specs.Walk.{State, start, state_after}
use Rattle.edit_tree.specs.Written.{values}
use Rattle.edit_document.specs.DocumentLayout.{placed, model_nodes_of, node_views}
use Rattle.edit_syntax.proofs.TextLaws.{lines_found, lines_read}
use Rattle.edit_document.proofs.WalkedLines.{Walked, ended, stuck, text_even}
use Rattle.edit_tree.proofs.SamePlace.{same_step_is, same_place_is}
use Rattle.edit_document.proofs.ShownTrees.{tree_shown}
use Rattle.edit_document.proofs.Documents.{Read, walk_of, text_full, no_document}

-- the text is a document, and the view stands at the place of its tree
pub record Shows (bytes : List ℕ) (place : Place) (view : View) : Type 0 where
  pub form : Text
  pub document : IsDocument bytes form
  pub stands : view_at form place ≡ Some view

-- the text is no document, whatever form it is given
abbrev pub IsNone : List ℕ → Type 0
IsNone bytes = (form : Text) → IsDocument bytes form → ⊥

-- ---- the form

-- what is read is in the grammar
pub form_spells : (bytes : List ℕ) (form : Text) → form_of bytes ≡ Some form → Spells bytes form
unfolding read_text
form_spells bytes form e = go (lines_at 80 (length (skip_byte_order_mark bytes) + 1) (skip_byte_order_mark bytes)) refl
  where
    never : (f : Text) → None ≡ Some f → ⊥
    never f h = cc

    go : (o : Option Lines)
        → lines_at 80 (length (skip_byte_order_mark bytes) + 1) (skip_byte_order_mark bytes) ≡ o
        → Spells bytes form
    go None h = let no : None ≡ Some form =
        sym (ap (λ (o : Option Lines). o >>= λ ls. Some (record { has_byte_order_mark = begins_with_byte_order_mark bytes; lines = ls }))
        h) ∙ e in absurd (never form no)
    go (Some ls) h =
        let is : Some (record { has_byte_order_mark = begins_with_byte_order_mark bytes; lines = ls })
        ≡ Some form = sym (ap
        (λ (o : Option Lines). o >>= λ ls. Some (record { has_byte_order_mark = begins_with_byte_order_mark bytes; lines = ls })) h) ∙ e in
        let r = lines_read 80 (skip_byte_order_mark bytes) ls h in
        subst (Spells bytes) (same_Some _ _ is) (lines_found 80 bytes ls r.0 r.1.valid r.1.shallow).spells

-- ---- the tree

-- the nodes of the walk over the tokens of a form
abbrev nodes_along : List ℕ → Option Text → List (Place × View)
nodes_along bytes o = node_views (o >>= λ form. state_after bytes (tokens_of_text form) start >>= λ st. Some st.models)

abbrev nodes_after : Option State → List (Place × View)
nodes_after o = node_views (o >>= λ st. Some st.models)

-- what a node of the walk shows stands in the tree
node_shows : (bytes : List ℕ) (place : Place) (view : View) → is_utf8 bytes ≡ true
    → node_at (node_views (model_nodes_of bytes)) place ≡ Some view → Shows bytes place view
node_shows bytes place view utf8 e = go (form_of bytes) refl
  where
    never : None ≡ Some view → ⊥
    never h = cc

    walk : (form : Text) → form_of bytes ≡ Some form → (r : Read bytes form)
        → Walked (assertions form) (map placed (values form)) (state_after bytes (tokens_of_text form) start)
        → Shows bytes place view
    walk form h r (ended now tables w st) = record {
      form = form;
      document = record { grammar = r.spells; short = st.clear.short; no_clash = st.clear.apart };
      stands = sym (tree_shown (assertions form) (map placed (values form)) now place st (text_even form)
          (text_full form))
          ∙ sym (ap (λ (o : Option State). node_at (nodes_after o) place) w) ∙
          sym (ap (λ (o : Option Text). node_at (nodes_along bytes o) place) h) ∙ e;
    }
    walk form h r (stuck w clash) =
        absurd (never (sym (ap (λ (o : Option State). node_at (nodes_after o) place) w) ∙
        sym (ap (λ (o : Option Text). node_at (nodes_along bytes o) place) h) ∙ e))

    go : (o : Option Text) → form_of bytes ≡ o → Shows bytes place view
    go None h = absurd (never (sym (ap (λ (o : Option Text). node_at (nodes_along bytes o) place) h) ∙ e))
    go (Some form) h =
        let r : Read bytes form =
        record { spells = form_spells bytes form h; utf8 = IsUtf8-from_is_utf8 bytes utf8 } in
        walk form h r (walk_of bytes form r)

-- ---- tests, which compute where an equation of long texts does not

abbrev same_text : List ℕ → List ℕ → Bool
same_text a b = same_step (key a) (key b)

abbrev same_view : View → View → Bool
same_view (string a) (string b) = same_text a b
same_view (truth a) (truth b) = (a && b) || (not a && not b)
same_view (whole a) (whole b) = same_text a b
same_view (fractional a) (fractional b) = same_text a b
same_view (moment a) (moment b) = same_text a b
same_view (static_array m) (static_array n) = m == n
same_view (table_array m) (table_array n) = m == n
same_view (inline_table a) (inline_table b) = same_place a b
same_view (table a) (table b) = same_place a b
same_view _ _ = false

abbrev pub is_seen : Option View → View → Bool
is_seen None v = false
is_seen (Some u) v = same_view u v

same_text_is : (a b : List ℕ) → same_text a b ≡ true → a ≡ b
same_text_is a b e = let is : key a ≡ key b = same_step_is (key a) (key b) e in cc

same_truth : (a b : Bool) → ((a && b) || (not a && not b)) ≡ true → a ≡ b
same_truth true true e = refl
same_truth true false e = absurd (true≢false (sym e))
same_truth false true e = absurd (true≢false (sym e))
same_truth false false e = refl

same_view_is : (u v : View) → same_view u v ≡ true → u ≡ v
same_view_is (string a) (string b) e = ap string (same_text_is a b e)
same_view_is (truth a) (truth b) e = ap truth (same_truth a b e)
same_view_is (whole a) (whole b) e = ap whole (same_text_is a b e)
same_view_is (fractional a) (fractional b) e = ap fractional (same_text_is a b e)
same_view_is (moment a) (moment b) e = ap moment (same_text_is a b e)
same_view_is (static_array m) (static_array n) e = ap static_array (eqb-true m n e)
same_view_is (table_array m) (table_array n) e = ap table_array (eqb-true m n e)
same_view_is (inline_table a) (inline_table b) e = ap inline_table (same_place_is a b e)
same_view_is (table a) (table b) e = ap table (same_place_is a b e)
same_view_is _ _ e = absurd (true≢false (sym e))

seen_is : (o : Option View) (v : View) → is_seen o v ≡ true → o ≡ Some v
seen_is None v e = absurd (true≢false (sym e))
seen_is (Some u) v e = ap Some (same_view_is u v e)

-- what is seen at a node of the walk stands in the tree
pub shows : (bytes : List ℕ) (place : Place) (view : View) → is_utf8 bytes ≡ true
    → is_seen (node_at (node_views (model_nodes_of bytes)) place) view ≡ true → Shows bytes place view
shows bytes place view utf8 e = node_shows bytes place view utf8
    (seen_is (node_at (node_views (model_nodes_of bytes)) place) view e)

-- where the walk stops, no document is
pub is_none : (bytes : List ℕ) → is_utf8 bytes ≡ true → model_nodes_of bytes ≡ None → IsNone bytes
is_none bytes utf8 e form document = no_document bytes (IsUtf8-from_is_utf8 bytes utf8) e form document
