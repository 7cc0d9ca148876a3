use Rattle.std.proofs.Common.{◌≡◌, take}
use Rattle.edit_document.specs.Items.{node_view, names_in}
use Rattle.edit_compare.proofs.compare.same_names.Given as goal

-- the names so far are the same
abbrev pub invariant-names : goal.invariant-names
invariant-names l = take l.index (names_in (node_view l.document l.number))
    ≡ take l.index (names_in (node_view l.other l.there))
