use Rattle.std.proofs.Common.{ap}
use Rattle.std.proofs.lemmas.Result.{err_from_is_err_and}
use Rattle.edit_document.specs.ItemViews.{document_of, place_of}
use Rattle.edit_tree.specs.DocumentViews.{tree_of}
use Rattle.edit_policy.proofs.FaultLemmas.{element_fault}
use Rattle.edit_policy.proofs.texts.element_texts.Goals as goal

pub returns-in_err-text-clause-error : goal.returns-in_err-text-clause-error
returns-in_err-text-clause-error c =
    let p = err_from_is_err_and c.from_residual.result c.from_residual.ensures.1 in
    let there = c.in-Some.ensures in
    rw (p.1, p.2)
    (element_fault (tree_of (document_of c.in-Some.element)) (tree_of (document_of c.args.array))
    (place_of c.args.array) (place_of c.in-Some.element) c.loop-index.index _ (ap tree_of there.0) there.1
    c.in_err-text.ensures.error)
