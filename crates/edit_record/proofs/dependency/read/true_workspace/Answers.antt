use Rattle.std.proofs.Common.{ap, ◌∙◌, sym, Some}
use Rattle.edit_document.specs.ItemViews.{view_of}
use Rattle.edit_record.proofs.EntryLemmas.{false_workspace, no_truth}
use Rattle.edit_record.proofs.dependency.read.true_workspace.Goals as goal

pub returns-in_ok-from_str-in-Some-clause-error :
    goal.returns-in_ok-from_str-in-Some-clause-error
returns-in_ok-from_str-in-Some-clause-error c =
    false_workspace c.args.dep.now (view_of c.args.item) _
    (ap Some (sym c.if-truth.false) ∙ c.in-Some.ensures) c.in_ok-from_str-in-Some.ensures.ok

pub returns-in_ok-wrong_type-in-None-clause-error :
    goal.returns-in_ok-wrong_type-in-None-clause-error
returns-in_ok-wrong_type-in-None-clause-error c =
    no_truth c.args.dep.now (view_of c.args.item) _ c.in-None.ensures c.in_ok-wrong_type-in-None.ensures
