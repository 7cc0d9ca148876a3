use Rattle.edit_document.proofs.ShownForms.{pieces_written, range_written}
use Rattle.edit_document.proofs.document.Document.lemma_pieces.Goals as goal

pub returns : goal.returns
returns c = (
  c.self.inside.written,
  range_written c.self.inside c.args.self.now c.self.invariant c.self.view_is,
  pieces_written c.self.inside c.args.self.now c.self.view_is,
)
