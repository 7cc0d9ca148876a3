use Rattle.std.proofs.Common.{ℕ, List, ap, sym, subst, ◌∙◌}
use Rattle.edit_tree.specs.Pieces.{pieces_of, IsRange}
use Rattle.edit_document.proofs.ShownForms.{pieces_written, range_written}
use Rattle.edit_document.proofs.document.Document.with_pieces_of.Goals as goal

pub with_last_edit-requires : goal.with_last_edit-requires
with_last_edit-requires c = record {
  range =
      subst (λ (b : List ℕ). IsRange b c.other.inside.written) (sym c.requires.same)
      (range_written c.other.inside c.args.other.now c.other.invariant c.other.view_is);
}

pub returns-clause-pieces : goal.returns-clause-pieces
returns-clause-pieces c =
    c.with_last_edit.ensures.pieces ∙ ap (λ (b : List ℕ). pieces_of b c.other.inside.written) c.requires.same
    ∙ sym (pieces_written c.other.inside c.args.other.now c.other.view_is)
