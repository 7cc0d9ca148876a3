use Rattle.std.proofs.Common.{◌+◌, ◌<◌, take}
use Rattle.edit_syntax.specs.Grammar.{Text}
use Rattle.edit_document.specs.Compared.{IsNumber}
use Rattle.edit_document.specs.Items.{place_view}
use Rattle.edit_tree.specs.Assertions.{IsDocument}
use Rattle.edit_compare.proofs.RemainingSteps.{RemainsSoFar}
use Rattle.edit_compare.proofs.remaining_parts.steps_to_remaining.Given as goal

-- of what the steps so far lead to, the innermost that is left whatever goes
abbrev pub invariant-steps : goal.invariant-steps
invariant-steps l =
    IsNumber l.document (place_view (take l.index l.place)) l.number
    × (l.remaining < l.index + 1) × (0 < l.index → l.remaining < l.index)
    × ((form : Text) → IsDocument l.document.bytes form → RemainsSoFar form l.place l.remaining l.index)
