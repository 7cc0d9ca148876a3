use Rattle.std.proofs.lemmas.Result.{on_ok_weaker}
use Rattle.edit_document.specs.NewItemViews.{new_value_view}
use Rattle.edit_tree.proofs.NewItemTexts.{pair_done}
use Rattle.edit_document.proofs.new_item.push_member.Goals as goal

pub returns : goal.returns
returns c =
    on_ok_weaker c.push_value.result
    (λ last. pair_done c.args.name.now (new_value_view c.args.value.now) _ _ _ _
    (c.in_ok-push_key.ensures {u = tt}) c.in_ok-push_str.ensures.bytes last)
    c.push_value.ensures
