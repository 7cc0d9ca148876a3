use Rattle.std.proofs.Common.{◌≡◌, ℕ, ◌<◌, List, Some, None}
use Rattle.std.specs.Prelude.{slice_get}
use Rattle.edit_tree.specs.Assertions.{key, at}
use Rattle.edit_tree.specs.DocumentViews.{tree_of}
use Rattle.edit_document.specs.Items.{node_place, node_view, names_in}
use Rattle.edit_compare.proofs.unordered.has_names_of.Given as goal

-- the names so far are there
abbrev pub invariant-names : goal.invariant-names
invariant-names l =
    (i : ℕ) (name : List ℕ) → i < l.index → slice_get (names_in (node_view l.document l.number)) i ≡ Some name
    → tree_of l.other (at (node_place l.other l.there) (key name)) ≡ None → ⊥
