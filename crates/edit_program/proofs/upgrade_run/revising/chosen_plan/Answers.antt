use Rattle.std.proofs.Common.{List, ap, subst, sym}
use Rattle.std.specs.Global.{Vec}
use Rattle.edit_metadata.specs.declared.input.Input.{Input}
use Rattle.edit_report.specs.declared.row.Row.{Row}
use Rattle.edit_upgrade.specs.Revisions.{AreRowsOf}
use Rattle.edit_program.proofs.RevisionLemmas.{chosen_over, chosen_rows_of, documents_of, utf8_of}
use Rattle.edit_program.proofs.upgrade_run.revising.chosen_plan.Goals as goal

pub revised_plan-requires-clause-documents : goal.revised_plan-requires-clause-documents
revised_plan-requires-clause-documents c =
    documents_of c.args.target.now.documents.items c.args.target.now.inputs.items c.deref-3.result.now
    c.deref-2.result.now c.deref-3.ensures.value c.deref-2.ensures.value c.requires.documents

pub revised_plan-requires-clause-utf8 : goal.revised_plan-requires-clause-utf8
revised_plan-requires-clause-utf8 c =
    utf8_of c.args.target.now.documents.items c.args.target.now.inputs.items c.deref-3.result.now
    c.deref-2.result.now c.deref-3.ensures.value c.deref-2.ensures.value c.requires.utf8

pub revised_plan-requires-clause-rows : goal.revised_plan-requires-clause-rows
revised_plan-requires-clause-rows c =
    subst (λ (xs : List Input). AreRowsOf xs c.in_ok-rows.rows.items) (sym c.deref-2.ensures.value)
    (chosen_rows_of c.args.choice.now c.args.target.now.inputs.items c.args.plan.rows.items
    c.in_ok-rows.rows.items c.in_ok-rows.ensures.rows c.requires.rows)

pub returns-clause-chosen : goal.returns-clause-chosen
returns-clause-chosen c =
    chosen_over c.args.choice.now c.args.target.now.inputs.items c.deref-2.result.now c.args.plan
    c.in_ok-plan.plan c.deref.result.now c.in_ok-rows.rows.items c.deref-2.ensures.value c.deref.ensures.value
    c.in_ok-check_choice.ensures.ok c.in_ok-rows.ensures.rows
    (ap (λ (v : Vec Row). v.items) c.in_ok-plan.ensures.rows) c.in_ok-plan.ensures.outputs
    c.in_ok-plan.ensures.lists c.in_ok-plan.ensures.others
