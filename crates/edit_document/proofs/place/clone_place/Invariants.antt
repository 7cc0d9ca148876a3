use Rattle.std.proofs.Common.{◌≡◌, take}
use Rattle.edit_document.specs.Items.{place_view}
use Rattle.edit_document.proofs.place.clone_place.Given as goal

abbrev pub invariant-steps : goal.invariant-steps
invariant-steps l = place_view l.place.items ≡ place_view (take l.step-index l.steps)
