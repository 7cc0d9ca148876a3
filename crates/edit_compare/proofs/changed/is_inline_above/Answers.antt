use Rattle.std.proofs.Common.{◌≡◌, Some, sym, ap, ◌∙◌, arith}
use Rattle.edit_document.specs.Items.{place_view, node_view}
use Rattle.edit_tree.specs.IntendedTrees.{above, is_inline_table}
use Rattle.edit_tree.specs.DocumentViews.{tree_of}
use Rattle.edit_compare.proofs.ReplacedEntries.{above_seen, inline_kind}
use Rattle.edit_compare.proofs.changed.is_inline_above.Goals as goal

pub returns-in-Some : goal.returns-in-Some
returns-in-Some c =
    let n = c.in-Some.ensures {u = tt} in
    let upper = above_seen c.args.place.now c.saturating_sub.result
    (omega (arith, c.saturating_sub.ensures)) in
    let view : tree_of c.args.document.now (above (place_view c.args.place.now))
    ≡ Some (node_view c.args.document.now c.in-Some.number) = ap (tree_of c.args.document.now) (sym upper) ∙
    n.0 in
    inline_kind (node_view c.args.document.now c.in-Some.number) c.kind.result c.kind.ensures
    ∙ sym (ap is_inline_table view)

pub returns-in-None : goal.returns-in-None
returns-in-None c =
    let upper = above_seen c.args.place.now c.saturating_sub.result
    (omega (arith, c.saturating_sub.ensures)) in
    sym (ap is_inline_table (ap (tree_of c.args.document.now) (sym upper) ∙ c.in-None.ensures {u = tt}))
