use Rattle.std.proofs.Common.{take}
use Rattle.edit_document.specs.Items.{place_view}
use Rattle.edit_tree.specs.DocumentViews.{tree_of}
use Rattle.edit_document.specs.Compared.{SameBeside, IsNumber}
use Rattle.edit_compare.proofs.equal_around.find_equal_around.Given as goal

-- the same but at the steps so far, which lead to the nodes
abbrev pub invariant-steps : goal.invariant-steps
invariant-steps l =
    let p = place_view (take l.step-index l.place) in
    SameBeside p (tree_of l.document) (tree_of l.other) × IsNumber l.document p l.number × IsNumber l.other p l.there
