use Rattle.std.proofs.Common.{ap, ◌∙◌}
use Rattle.edit_document.specs.EntryParts.{entry_document}
use Rattle.edit_document.specs.NewItemViews.{new_item_view}
use Rattle.edit_tree.specs.DocumentViews.{DocumentViews, tree_of}
use Rattle.edit_document.proofs.EntryTrees.{entry_tree}
use Rattle.edit_document.proofs.new_item.NewItem.view.Goals as goal

pub returns-clause-document : goal.returns-clause-document
returns-clause-document c q =
    ap (λ (d : DocumentViews). tree_of d q)
    (c.of_part.ensures.document ∙ ap (λ x. entry_document (new_item_view x)) c.entry_root.ensures.0)
    ∙ entry_tree (new_item_view c.args.self.now) q
