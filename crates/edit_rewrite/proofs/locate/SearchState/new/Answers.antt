use Rattle.std.proofs.Common.{arith}
use Rattle.std.proofs.lemmas.List.{length-map}
use Rattle.edit_document.specs.Items.{step_view, place_view}
use Rattle.edit_rewrite.proofs.Ways.{way_root}
use Rattle.edit_rewrite.proofs.locate.SearchState.new.Goals as goal

pub returns-clause-none : goal.returns-clause-none
returns-clause-none c = record {
  under = way_root (place_view c.args.place.now);
  size = omega (
    arith,
    c.steps.invariant.0,
    c.steps-test.false,
    c.steps.auto._step-end,
    length-map c.args.place.now step_view,
  );
  counts = λ d le. c.steps.invariant.1 d;
}
