use Rattle.std.proofs.Common.{◌≡◌, ◌++◌, string_bytes, take}
use Rattle.edit_tree.specs.Literals.{literal_bytes}
use Rattle.edit_tree.proofs.NewItemTexts.{joined}
use Rattle.edit_document.proofs.new_item.push_list.Given as goal

abbrev pub invariant-others : goal.invariant-others
invariant-others l = string_bytes l.out ≡ string_bytes l.initial.out ++ joined
    (λ s. literal_bytes (string_bytes s)) (take l.text-index l.others)
