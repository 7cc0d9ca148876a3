use Rattle.edit_diagnostics.proofs.FailureLemmas.{entry-place, input-found, input-place}
use Rattle.edit_diagnostics.proofs.upgrade.explain_upgrade.Goals as goal

pub returns-in-Some-clause-place : goal.returns-in-Some-clause-place
returns-in-Some-clause-place g c =
    input-place c.args.inputs.now c.args.failure c.at_byte.result.place c.in-Some-Input.field-0
    c.in-Some-Input.i
    c.in-Some.input.now c.as_str.result.now c.deref.result.now c.in-Some-Input.is c.in-Some-Input.field-0-is
    (input-found c.args.inputs.now c.in-Some-Input.i c.in-Some.input.now c.in-Some.ensures.lookup.3.0
    c.in-Some.ensures.lookup.1) c.as_str.ensures.value c.deref.ensures.value c.at_byte.ensures.place

pub returns-in-Some-Some-clause-place : goal.returns-in-Some-Some-clause-place
returns-in-Some-Some-clause-place g c =
    entry-place c.args.inputs.now c.args.failure c.explain_entry.result.place c.in-Some-Entry.field-0
    c.in-Some-Entry.input c.in-Some-Entry.place c.in-Some-Some.input.now c.in-Some-Entry.is
    c.in-Some-Entry.field-0-is
    (input-found c.args.inputs.now c.in-Some-Entry.input c.in-Some-Some.input.now
    c.in-Some-Some.ensures.lookup.3.0 c.in-Some-Some.ensures.lookup.1) c.explain_entry.ensures.place
