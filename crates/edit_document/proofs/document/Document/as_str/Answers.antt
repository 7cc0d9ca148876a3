use Rattle.std.proofs.Common.{ap, ◌∙◌}
use Rattle.edit_tree.specs.DocumentViews.{DocumentViews}
use Rattle.edit_document.specs.DocumentLayout.{document_view_by}
use Rattle.edit_document.proofs.document.Document.as_str.Goals as goal

pub returns : goal.returns
unfolding document_view_by
returns c = c.as_str.ensures.value ∙ ap (λ (s : DocumentViews). s.bytes) c.self.view_is
