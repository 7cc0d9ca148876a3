use Rattle.std.proofs.Common.{◌≡◌, ℕ, ◌<◌, Some}
use Rattle.edit_tree.specs.Assertions.{Step, at}
use Rattle.edit_document.specs.Items.{node_place, node_view, step_view}
use Rattle.edit_document.specs.Compared.{SameButOrderBelow, nth_part}
use Rattle.edit_document.specs.ItemRemoval.{moved_place}
use Rattle.edit_compare.proofs.removed.moved_parts.Given as goal

-- of the parts so far each but the one is the same where it moved to
abbrev pub invariant-parts : goal.invariant-parts
invariant-parts l =
    (i : ℕ) → i < l.index → (part : Step) → nth_part (node_view l.document l.number) i ≡ Some part
    → (part ≡ step_view l.step → ⊥)
    → SameButOrderBelow l.document (at (node_place l.document l.number) part) l.other
    (moved_place (step_view l.step) (node_place l.other l.there) part)
