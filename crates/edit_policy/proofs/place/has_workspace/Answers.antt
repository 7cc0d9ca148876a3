use Rattle.std.proofs.Common.{◌∙◌, ap}
use Rattle.std.specs.Prelude.{is_some}
use Rattle.edit_document.specs.Items.{place_view}
use Rattle.edit_tree.specs.DocumentViews.{tree_of}
use Rattle.edit_policy.proofs.ItemLemmas.{found_some}
use Rattle.edit_policy.proofs.place.has_workspace.Goals as goal

pub returns : goal.returns
returns c =
    let d = c.args.document.now in
    c.is_some.ensures ∙ found_some d (place_view c.deref.result.now) c.item.result c.item.ensures
    ∙ ap (λ q. is_some (tree_of d q)) (ap place_view c.deref.ensures.value ∙ c.in_ok-place.ensures)
