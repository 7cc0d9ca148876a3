use Rattle.std.proofs.Common.{ap, sym, ◌∙◌}
use Rattle.std.specs.Prelude.{[], option_map}
use Rattle.edit_document.specs.EntryParts.{part_view, part_value_view}
use Rattle.edit_document.specs.NewItemViews.{new_item_view}
use Rattle.edit_tree.specs.Tree.{string}
use Rattle.edit_document.proofs.EntryPartViews.{part_said}
use Rattle.edit_document.proofs.entry_part.EntryPart.part_value.Goals as goal

pub returns-in-Whole : goal.returns-in-Whole
returns-in-Whole c =
    let item = new_item_view c.args.self.item.now in
    part_said item c.args.self.part c.args.self.stands (part_value_view c.entry.result)
    (ap (λ p. part_view item p []) c.in-Whole.is ∙ c.entry.ensures)

pub returns-in-Member : goal.returns-in-Member
returns-in-Member c =
    let item = new_item_view c.args.self.item.now in
    part_said item c.args.self.part c.args.self.stands (part_value_view c.value.result)
    (ap (λ p. part_view item p []) c.in-Member.is ∙ c.value.ensures)

pub returns-in-Element : goal.returns-in-Element
returns-in-Element c =
    let item = new_item_view c.args.self.item.now in
    part_said item c.args.self.part c.args.self.stands (string c.unwrap.result.now)
    (ap (λ p. part_view item p []) c.in-Element.is ∙ sym c.text.ensures
    ∙ ap (option_map (λ s. string s.now)) c.unwrap.ensures)

pub returns-in-MemberElement : goal.returns-in-MemberElement
returns-in-MemberElement c =
    let item = new_item_view c.args.self.item.now in
    part_said item c.args.self.part c.args.self.stands (string c.unwrap-in-MemberElement.result.now)
    (ap (λ p. part_view item p []) c.in-MemberElement.is ∙ sym c.text-in-MemberElement.ensures
    ∙ ap (option_map (λ s. string s.now)) c.unwrap-in-MemberElement.ensures)
