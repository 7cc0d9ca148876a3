use Rattle.std.proofs.Common.{◌≡◌, ℕ, ◌<◌, Some}
use Rattle.std.specs.Prelude.{slice_get}
use Rattle.edit_document.specs.Items.{node_view, names_in}
use Rattle.edit_compare.proofs.grown.name_index.Given as goal

-- the names so far are others
abbrev pub invariant-names : goal.invariant-names
invariant-names l = (i : ℕ) → i < l.index → slice_get (names_in (node_view l.document l.number)) i
    ≡ Some l.key → ⊥
