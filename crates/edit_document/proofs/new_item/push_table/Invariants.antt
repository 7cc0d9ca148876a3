use Rattle.std.proofs.Common.{◌≡◌, ◌++◌, [], string_bytes, take}
use Rattle.edit_tree.specs.NewItems.{new_pair}
use Rattle.edit_document.specs.NewItemViews.{new_value_view}
use Rattle.edit_tree.proofs.NewItemTexts.{joined}
use Rattle.edit_document.proofs.new_item.push_table.Given as goal

abbrev pub invariant-others : goal.invariant-others
invariant-others l = string_bytes l.out
    ≡ string_bytes l.initial.out ++ joined (λ m. new_pair (string_bytes m.0) (new_value_view m.1) [])
    (take l.member-index l.others)
