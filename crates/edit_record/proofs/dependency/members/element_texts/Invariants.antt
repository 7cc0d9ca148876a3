use Rattle.std.proofs.Common.{◌≡◌, Ok}
use Rattle.edit_record.specs.ReadEntries.{first_texts}
use Rattle.edit_record.specs.RecordViews.{item_tree, texts_view}
use Rattle.edit_record.proofs.dependency.members.element_texts.Given as goal

-- the texts of the elements so far
abbrev pub invariant-loop-index : goal.invariant-loop-index
invariant-loop-index l = first_texts (item_tree l.array) l.dep l.index ≡ Ok (texts_view l.texts)
