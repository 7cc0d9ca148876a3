use Rattle.std.proofs.Common.{ℕ, List, sym, ap, ◌∙◌}
use Rattle.edit_document.specs.DocumentLayout.{document_view_by, node_views, model_nodes_of}
use Rattle.edit_tree.specs.DocumentViews.{DocumentViews}
use Rattle.edit_document.proofs.document.Document.lemma_text.Goals as goal

pub returns : goal.returns
unfolding document_view_by
returns c =
    let same = c.self.view_is in
    ap (λ (s : DocumentViews). s.nodes) (sym same) ∙ ap (λ (bytes : List ℕ). node_views (model_nodes_of bytes))
    (ap (λ (s : DocumentViews). s.bytes) same)
