use Rattle.std.proofs.Common.{◌++◌, ◌∙◌, [], List, ℕ, string_bytes, ap}
use Rattle.std.proofs.lemmas.Result.{on_ok_weaker}
use Rattle.edit_tree.specs.NewItems.{new_pair}
use Rattle.edit_document.specs.NewItemViews.{new_value_view}
use Rattle.edit_document.proofs.new_item.push_pair.Goals as goal

pub returns : goal.returns
returns c =
    on_ok_weaker c.push_member.result
    (λ e. e ∙ ap (λ (n : List ℕ). string_bytes c.args.out.now ++ new_pair n
    (new_value_view c.args.member.now.1) [])
    c.as_str.ensures.value)
    c.push_member.ensures
