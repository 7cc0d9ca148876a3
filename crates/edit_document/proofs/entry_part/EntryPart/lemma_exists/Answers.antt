use Rattle.edit_document.specs.NewItemViews.{new_item_view}
use Rattle.edit_document.proofs.EntryPartViews.{part_stands}
use Rattle.edit_document.proofs.entry_part.EntryPart.lemma_exists.Goals as goal

pub returns : goal.returns
returns c = part_stands (new_item_view c.args.self.item.now) c.args.self.part c.args.self.stands
