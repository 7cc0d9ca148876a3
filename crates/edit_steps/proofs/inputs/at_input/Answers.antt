use Rattle.std.proofs.Common.{subst}
use Rattle.std.proofs.lemmas.List.Elements.{All-more}
use Rattle.edit_base.specs.Errors.{number_of}
use Rattle.edit_steps.specs.Places.{PassesWith}
use Rattle.edit_steps.proofs.FirstLemmas.{place_of_first}
use Rattle.edit_steps.proofs.inputs.at_input.Goals as goal

-- the input at the index is the first whose manifest fails so
pub returns-in-Ok-true-clause-place : goal.returns-in-Ok-true-clause-place
returns-in-Ok-true-clause-place c =
    place_of_first c.args.inputs.now c.inputs.input-index c.input-item.result c.as_str.result.now
    c.deref.result.now c.args.error c.at_byte.result.place c.inputs-test.true c.input-item.is
    c.as_str.ensures.value c.deref.ensures.value c.inputs.invariant
    (c.in-Ok-true.ensures.fails c.in-Ok-true.field-0-test) c.at_byte.ensures.place

-- the manifest of one more input is not the cause
pub inputs-preserved : goal.inputs-preserved
inputs-preserved c =
    All-more (PassesWith (number_of c.args.error)) c.args.inputs.now c.inputs.input-index c.input-item.result
    c.inputs-test.true c.inputs.invariant
    (subst (PassesWith (number_of c.args.error)) c.input-item.is
    (c.in-Ok-false.ensures.passes c.in-Ok-false.field-0-test))
