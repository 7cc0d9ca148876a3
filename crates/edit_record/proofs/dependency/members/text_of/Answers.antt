use Rattle.edit_document.specs.ItemViews.{view_of}
use Rattle.edit_record.proofs.EntryLemmas.{no_text}
use Rattle.edit_record.proofs.dependency.members.text_of.Goals as goal

pub returns-in_ok-wrong_type-in-None-clause-error :
    goal.returns-in_ok-wrong_type-in-None-clause-error
returns-in_ok-wrong_type-in-None-clause-error c =
    no_text c.args.dep.now c.args.name.now (view_of c.args.item) _
    c.in-None.ensures c.in_ok-wrong_type-in-None.ensures
