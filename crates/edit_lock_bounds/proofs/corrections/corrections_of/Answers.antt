use Rattle.std.proofs.lemmas.List.Elements.{All-same}
use Rattle.std.proofs.lemmas.Result.{IfOk-weaker}
use Rattle.edit_lock_bounds.specs.Corrections.{corrections}
use Rattle.edit_lock_bounds.specs.CorrectionLaws.{IsOfChange, IsRight}
use Rattle.edit_lock_bounds.specs.CorrectionViews.{corrections_view}
use Rattle.edit_lock_bounds.specs.Views.{change_view, limits_view}
use Rattle.edit_lock_bounds.proofs.CorrectionLemmas.{corrections-of_change, corrections-right}
use Rattle.edit_lock_bounds.proofs.corrections.corrections_of.Goals as goal

pub returns-clause-change : goal.returns-clause-change
returns-clause-change c =
    let change = change_view c.args.change.now in
    let limits = limits_view c.args.bounds.now in
    IfOk-weaker c.corrections_in.result _ _
    (λ v e. All-same (IsOfChange change) (corrections_view v.items) (corrections change limits) e
    (corrections-of_change change limits))
    c.corrections_in.ensures.ok

pub returns-clause-right : goal.returns-clause-right
returns-clause-right c =
    let change = change_view c.args.change.now in
    let limits = limits_view c.args.bounds.now in
    IfOk-weaker c.corrections_in.result _ _
    (λ v e. All-same (IsRight limits) (corrections_view v.items) (corrections change limits) e
    (corrections-right change limits))
    c.corrections_in.ensures.ok
