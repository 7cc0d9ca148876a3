use Rattle.std.proofs.Common.{◌<◌, arith}
use Rattle.std.proofs.lemmas.Result.{err_from_is_err_and}
use Rattle.edit_record.specs.RecordViews.{item_tree, texts_view}
use Rattle.edit_document.specs.ItemViews.{view_of}
use Rattle.edit_record.proofs.EntryLemmas.{wrong_element}
use Rattle.edit_record.proofs.dependency.members.element_texts.Goals as goal

pub returns-in_err-text-clause-error : goal.returns-in_err-text-clause-error
returns-in_err-text-clause-error c =
    let p = err_from_is_err_and c.from_residual.result c.from_residual.ensures.1 in
    let lt : c.loop-index.index < c.len-index-end.result = omega arith in
    rw (p.1, p.2, ← c.len-index-end.ensures)
    (wrong_element (item_tree c.args.array) c.args.dep.now c.loop-index.index _
    (texts_view c.loop-index.texts)
    (view_of c.in-Some.item) _ c.loop-index.invariant c.in-Some.ensures.2 c.in_err-text.ensures.error lt)
