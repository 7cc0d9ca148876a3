use Rattle.std.proofs.Common.{◌≡◌, ℕ, suc, ◌<◌, ◌≤◌}
use Rattle.std.specs.Prelude.{slice_get}
use Rattle.edit_document.specs.Items.{node_view, names_in}
use Rattle.edit_compare.proofs.grown.grown_names.Given as goal

-- the names so far are the same, those before the new one and those behind it
abbrev pub invariant-names : goal.invariant-names
invariant-names l =
    ((i : ℕ) → i < l.index → i < l.added
    → slice_get (names_in (node_view l.document l.number)) i
    ≡ slice_get (names_in (node_view l.other l.there)) i)
    × ((i : ℕ) → i < l.index → l.added ≤ i
    → slice_get (names_in (node_view l.document l.number)) i
    ≡ slice_get (names_in (node_view l.other l.there)) (suc i))
