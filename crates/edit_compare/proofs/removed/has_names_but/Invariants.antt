use Rattle.std.proofs.Common.{◌≡◌, ℕ, ◌<◌, List, Some, None}
use Rattle.std.specs.Prelude.{slice_get}
use Rattle.edit_tree.specs.Assertions.{key, at}
use Rattle.edit_tree.specs.DocumentViews.{tree_of}
use Rattle.edit_document.specs.Items.{node_place, node_view, names_in, step_view}
use Rattle.edit_compare.proofs.removed.has_names_but.Given as goal

-- the names so far are there, but the one
abbrev pub invariant-names : goal.invariant-names
invariant-names l =
    (i : ℕ) (name : List ℕ) → i < l.index → slice_get (names_in (node_view l.document l.number)) i ≡ Some name
    → (key name ≡ step_view l.step → ⊥)
    → tree_of l.other (at (node_place l.other l.there) (key name)) ≡ None → ⊥
