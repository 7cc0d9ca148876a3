use Rattle.std.proofs.Common.{ap}
use Rattle.edit_tree.specs.DocumentViews.{DocumentViews}
use Rattle.edit_document.proofs.ShownForms.{read_again, shown_again}
use Rattle.edit_document.proofs.document.Document.with_last_edit.Goals as goal

pub invariant_of-result : goal.invariant_of-result
invariant_of-result c =
    read_again c.self.inside c.args.self c.args.written c.self.invariant c.self.view_is c.requires.range

pub returns-clause-bytes : goal.returns-clause-bytes
returns-clause-bytes c =
    ap (λ (s : DocumentViews). s.bytes) (shown_again c.self.inside c.args.self c.args.written c.self.view_is)

pub returns-clause-nodes : goal.returns-clause-nodes
returns-clause-nodes c =
    ap (λ (s : DocumentViews). s.nodes) (shown_again c.self.inside c.args.self c.args.written c.self.view_is)

pub returns-clause-pieces : goal.returns-clause-pieces
returns-clause-pieces c =
    ap (λ (s : DocumentViews). s.pieces) (shown_again c.self.inside c.args.self c.args.written c.self.view_is)
