use Rattle.std.proofs.Common.{◌+◌, List, arith, drop, subst, sym}
use Rattle.std.proofs.lemmas.List.{take_rest}
use Rattle.edit_report.specs.declared.output.Output.{Output}
use Rattle.edit_report.specs.declared.row.Row.{Row}
use Rattle.edit_upgrade.proofs.FurtherInputs.{given-at}
use Rattle.edit_upgrade.proofs.RevisedInputs.{IsRevisedUpTo, enough_rows, outputs_end, outputs_next, outputs_start}
use Rattle.edit_upgrade.proofs.RevisionLemmas.{utf8_at}
use Rattle.edit_upgrade.proofs.revision.revised_outputs.Goals as goal

pub inputs-init : goal.inputs-init
inputs-init c =
    outputs_start c.args.inputs.now c.args.rows.now c.new-all.result.items c.new-all.ensures.items c.requires.rows

pub input_outputs-requires : goal.input_outputs-requires
input_outputs-requires c = record {
  document = given-at c.args.inputs.now c.args.documents.now c.inputs.i c.index-inputs-i.result _
      c.requires.documents c.inputs-test.true c.index-inputs-i.is c.document_at-document.ensures;
  utf8 = utf8_at c.args.inputs.now c.args.documents.now c.inputs.i c.index-inputs-i.result _
      c.requires.documents c.requires.utf8 c.inputs-test.true c.index-inputs-i.is
      c.document_at-document.ensures;
  rows = enough_rows c.args.inputs.now c.args.rows.now c.inputs.i _ c.inputs.all.items c.index-inputs-i.result
      c.inputs.invariant c.inputs-test.true c.index-inputs-i.is;
}

pub inputs-preserved : goal.inputs-preserved
inputs-preserved c =
    let behind = drop c.in_ok-found.found.1 c.inputs.rest.now in
    subst (λ (rs : List Row). IsRevisedUpTo c.args.inputs.now c.args.rows.now (c.inputs.i + 1) rs
    c.push_all.new.list.items) (sym (take_rest c.inputs.rest.now c.in_ok-found.found.1))
    (subst (λ (os : List Output). IsRevisedUpTo c.args.inputs.now c.args.rows.now (c.inputs.i + 1) behind os)
    (sym c.in_ok-push_all.ensures.ok)
    (outputs_next c.args.inputs.now c.args.rows.now c.inputs.i c.inputs.rest.now c.in_ok-found.found.1
    c.inputs.all.items c.in_ok-found.found.0.items c.index-inputs-i.result c.inputs.invariant c.inputs-test.true
    c.index-inputs-i.is c.in_ok-found.ensures.outputs))

pub returns-clause-outputs : goal.returns-clause-outputs
returns-clause-outputs c =
    outputs_end c.args.inputs.now c.args.rows.now c.inputs.i _ c.inputs.all.items c.inputs.invariant
    (omega (arith, c.inputs-test.false))
