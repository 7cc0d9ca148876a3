use Rattle.std.proofs.Common.{◌≡◌, ℕ, ◌<◌, Some}
use Rattle.edit_tree.specs.Assertions.{Step, at}
use Rattle.edit_document.specs.Items.{node_place, node_view, step_view}
use Rattle.edit_document.specs.Compared.{SameBelow, nth_part}
use Rattle.edit_compare.proofs.equal_around.same_parts_but.Given as goal

-- of the parts so far each but the one is the same
abbrev pub invariant-parts : goal.invariant-parts
invariant-parts l =
    (i : ℕ) → i < l.index → (part : Step) → nth_part (node_view l.document l.number) i ≡ Some part
    → (part ≡ step_view l.step → ⊥)
    → SameBelow l.document (at (node_place l.document l.number) part) l.other
    (at (node_place l.other l.there) part)
