use Rattle.std.proofs.Common.{◌≡◌, ℕ, List, None, cond, ap, sym, subst, ◌∙◌, rules}
use Rattle.edit_base.specs.Errors.{IsMemory}
use Rattle.edit_document.specs.Items.{place_view}
use Rattle.edit_document.specs.Ranges.{one_edit}
use Rattle.edit_tree.specs.Replaces.{replaced, tree_without_below, is_below_any}
use Rattle.edit_tree.specs.DocumentViews.{tree_of}
use Rattle.edit_tree.specs.Tree.{View, view_at}
use Rattle.std.specs.Prelude.{string_bytes}
use Rattle.edit_tree.specs.Assertions.{IsDocument, Place}
use Rattle.edit_tree.specs.DocumentViews.{node_at}
use Rattle.edit_tree.specs.Literals.{literal_bytes}
use Rattle.edit_tree.specs.Pieces.{pieces_of, IsAmong}
use Rattle.edit_tree.proofs.PieceLaws.{literal_among, literal_some, most_pieces}
use Rattle.edit_tree.proofs.ReplacedStrings.{written_same}
use Rattle.edit_document.proofs.document.Document.set_literal.Goals as goal

pub returns-in_err-new-clause-error : goal.returns-in_err-new-clause-error
returns-in_err-new-clause-error c =
    let edit = one_edit (place_view c.args.place.now) c.args.text.now in
    let r = (c.in_ok-new_text.ensures {u = tt}).replaces in
    let manifest = subst (λ (b : List ℕ). IsDocument b (replaced edit r.form))
    (sym c.as_str.ensures.value) r.is in
    let memory : IsMemory c.in_err-new.field-0.0 = (c.in_err-new.ensures {u = tt}).only
    (replaced edit r.form) manifest in
    search rules

pub returns-clause-tree : goal.returns-clause-tree
returns-clause-tree c at =
    let edit = one_edit (place_view c.args.place.now) c.args.text.now in
    let r = (c.in_ok-new_text.ensures {u = tt}).replaces in
    let manifest = subst (λ (b : List ℕ). IsDocument b (replaced edit r.form))
    (sym c.as_str.ensures.value) r.is in
    ap (λ (ns : List (Place × View)). node_at ns at) c.with_last_edit.ensures.nodes
    ∙ (c.in_ok-new.ensures {u = tt}).only (replaced edit r.form) manifest at ∙ r.tree at
    ∙ written_same edit (tree_without_below edit (view_at r.form)) (tree_without_below edit (tree_of c.args.self.now)) at
    (ap (λ v. cond (is_below_any edit at) None v) (sym (c.lemma_form.ensures.shows r.form r.was at)))

pub returns-clause-piece : goal.returns-clause-piece
returns-clause-piece c =
    let new = string_bytes c.in_ok-new_text.new_text in
    let new_pieces : c.with_last_edit.result.pieces ≡ pieces_of new c.in_ok-new_text.written =
    c.with_last_edit.ensures.pieces
    ∙ ap (λ (b : List ℕ). pieces_of b c.in_ok-new_text.written) ((c.in_ok-new.ensures {u = tt}).bytes ∙
    c.as_str.ensures.value) in
    subst (IsAmong (literal_bytes c.args.text.now)) (sym new_pieces)
    (literal_among c.args.self.now.bytes (literal_bytes c.args.text.now) new c.in_ok-new_text.written
    (c.in_ok-new_text.ensures {u = tt}).swapped (literal_some c.args.text.now))

pub returns-clause-pieces : goal.returns-clause-pieces
returns-clause-pieces c =
    let new = string_bytes c.in_ok-new_text.new_text in
    let spliced = c.lemma_pieces.ensures in
    let new_pieces : c.with_last_edit.result.pieces ≡ pieces_of new c.in_ok-new_text.written =
    c.with_last_edit.ensures.pieces
    ∙ ap (λ (b : List ℕ). pieces_of b c.in_ok-new_text.written) ((c.in_ok-new.ensures {u = tt}).bytes ∙
    c.as_str.ensures.value) in
    let most = most_pieces c.args.self.now.bytes (literal_bytes c.args.text.now) new c.in_ok-new_text.written
    spliced.0
    (c.in_ok-new_text.ensures {u = tt}).swapped spliced.1 in
    rw (new_pieces, spliced.2) most
