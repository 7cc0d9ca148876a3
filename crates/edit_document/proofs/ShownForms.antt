-- A document has the tree of its syntax tree.
use Rattle.std.proofs.Common.{◌≡◌, ℕ, List, map, sym, ap, ◌∙◌, subst}
use Rattle.std.specs.Prelude.{string_bytes}
use Rattle.edit_document.specs.declared.document.Document.TheInside.{Inside}
use Rattle.edit_syntax.specs.Grammar.{Text}
use Rattle.edit_tree.specs.Assertions.{IsDocument, Place}
use Rattle.edit_tree.specs.Tree.{View, view_at}
use Rattle.edit_tree.specs.DocumentViews.{DocumentViews, node_at, ShowsTree}
use Rattle.edit_tree.specs.Nodes.{model_node_view}
use Rattle.edit_document.specs.DocumentLayout.{node_views, document_view_of, document_view_by, IsRead}
use Rattle.edit_tree.specs.Pieces.{pieces_of, IsRange}
use Rattle.edit_tree.proofs.Shallow.{one_form}

-- ---- the form that was read is the only one

pub shown_bytes : (inside : Inside) (shown : DocumentViews) → document_view_of inside ≡ shown
    → string_bytes inside.text ≡ shown.bytes
unfolding document_view_by
shown_bytes inside shown view = ap (λ (s : DocumentViews). s.bytes) view

pub form_same : (inside : Inside) (shown : DocumentViews) (form : Text) → (read : IsRead inside)
    → document_view_of inside ≡ shown → IsDocument shown.bytes form → form ≡ read.form
form_same inside shown form read view manifest =
    let here : IsDocument (string_bytes inside.text) form =
    subst (λ (b : List ℕ). IsDocument b form) (sym (shown_bytes inside shown view)) manifest in
    one_form (string_bytes inside.text) form read.form here read.manifest

pub open_models : (inside : Inside) (shown : DocumentViews) → (read : IsRead inside)
    → document_view_of inside ≡ shown
    → shown.nodes ≡ map model_node_view read.models
unfolding document_view_by
open_models inside shown read view = ap (λ (s : DocumentViews). s.nodes) (sym view) ∙ ap node_views read.found

pub shows_tree : (inside : Inside) (shown : DocumentViews) (form : Text) → IsRead inside
    → document_view_of inside ≡ shown
    → IsDocument shown.bytes form → ShowsTree shown form
shows_tree inside shown form read view manifest place =
    ap (λ (ns : List (Place × View)). node_at ns place) (open_models inside shown read view) ∙
    read.views place ∙ ap (λ (t : Text). view_at t place)
    (sym (form_same inside shown form read view manifest))

-- ---- the pieces

-- the pieces of the text are the range written last and the text around it
pub pieces_written : (inside : Inside) (shown : DocumentViews) → document_view_of inside ≡ shown
    → shown.pieces ≡ pieces_of shown.bytes inside.written
unfolding document_view_by
pieces_written inside shown view =
    ap (λ (s : DocumentViews). s.pieces) (sym view)
    ∙ ap (λ (b : List ℕ). pieces_of b inside.written) (shown_bytes inside shown view)

-- and the text may be cut there
pub range_written : (inside : Inside) (shown : DocumentViews) → IsRead inside → document_view_of inside ≡ shown
    → IsRange shown.bytes inside.written
range_written inside shown read view =
    subst (λ (b : List ℕ). IsRange b inside.written) (shown_bytes inside shown view) read.written

-- another range of the text may be the one written last
pub read_again : (inside : Inside) (shown : DocumentViews) (w : ℕ × ℕ) → IsRead inside
    → document_view_of inside ≡ shown
    → IsRange shown.bytes w → IsRead (record { text = inside.text; nodes = inside.nodes; written = w })
read_again inside shown w read view range = record {
  models = read.models;
  found = read.found;
  form = read.form;
  manifest = read.manifest;
  holds = read.holds;
  written = subst (λ (b : List ℕ). IsRange b w) (sym (shown_bytes inside shown view)) range;
  tree = read.tree;
  views = read.views;
  spans = read.spans;
}

-- what is shown then
pub shown_again : (inside : Inside) (shown : DocumentViews) (w : ℕ × ℕ) → document_view_of inside ≡ shown
    → document_view_of (record { text = inside.text; nodes = inside.nodes; written = w })
    ≡ record { bytes = shown.bytes; nodes = shown.nodes; pieces = pieces_of shown.bytes w }
unfolding document_view_by
shown_again inside shown w view =
    ap (λ (s : DocumentViews). record { bytes = s.bytes; nodes = s.nodes; pieces = pieces_of s.bytes w }) view
