use Rattle.std.proofs.Common.{◌∙◌, [], string_bytes, arith}
use Rattle.edit_tree.specs.NewItems.{new_pair}
use Rattle.edit_document.specs.NewItemViews.{new_pair_view, new_value_view}
use Rattle.edit_tree.proofs.NewItemTexts.{joined_more, table_done, on_appended}
use Rattle.edit_document.proofs.new_item.push_table.Goals as goal

pub others-preserved : goal.others-preserved
others-preserved c =
    joined_more (λ m. new_pair (string_bytes m.0) (new_value_view m.1) []) _ c.others.member-index
    c.member-item.result _ _ _ _ c.others-test.true c.member-item.is c.others.invariant
    c.in_ok-push_str-2.ensures.bytes (c.in_ok-push_pair-2.ensures {u = tt})

pub returns : goal.returns
returns c =
    let start = string_bytes c.args.out.now in
    on_appended c.push_str-3.result _ _ _ c.push_str-3.ensures.bytes
    (λ last. last
    ∙ table_done new_pair_view c.args.members.now c.first-item.result c.others.member-index start _ _ _
    (omega arith) c.first-item.is c.others-test.false c.in_ok-push_str.ensures.bytes
    (c.in_ok-push_pair.ensures {u = tt})
    c.others.invariant)
