use Rattle.edit_document.specs.ItemViews.{view_of}
use Rattle.edit_record.specs.RecordViews.{item_tree}
use Rattle.edit_record.proofs.EntryLemmas.{no_array}
use Rattle.edit_record.proofs.dependency.members.feature_texts.Goals as goal

pub returns-in_ok-wrong_type-in-None-clause-error :
    goal.returns-in_ok-wrong_type-in-None-clause-error
returns-in_ok-wrong_type-in-None-clause-error c =
    no_array (item_tree c.args.item) c.args.dep.now (view_of c.args.item) _
    c.in-None.ensures c.in_ok-wrong_type-in-None.ensures
