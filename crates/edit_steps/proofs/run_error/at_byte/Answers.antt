use Rattle.std.proofs.lemmas.Option.{IfSome_then}
use Rattle.edit_steps.specs.Places.{of_offset}
use Rattle.edit_steps.proofs.run_error.at_byte.Goals as goal

pub returns-clause-place : goal.returns-clause-place
returns-clause-place c =
    IfSome_then c.shown_position-place.result c.shown_position-place.ensures
    (λ s shown. of_offset c.in-NotToml.at c.in-NotToml.is shown)
