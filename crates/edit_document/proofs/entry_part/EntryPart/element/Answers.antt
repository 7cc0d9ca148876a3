use Rattle.std.proofs.Common.{ap, sym, subst, ◌∙◌, inl, inr}
use Rattle.std.specs.Prelude.{[], ◌∷◌, false, is_some, option_map}
use Rattle.edit_tree.specs.Assertions.{index}
use Rattle.edit_document.specs.EntryParts.{IsPart, part_view}
use Rattle.edit_tree.specs.IntendedTrees.{item_view}
use Rattle.edit_document.specs.NewItemViews.{new_item_view, new_value_view}
use Rattle.edit_tree.specs.Tree.{string}
use Rattle.edit_document.proofs.EntryPartViews.{part_absent, below_element}
use Rattle.edit_document.proofs.entry_part.EntryPart.element.Goals as goal

pub invariant_of-result-in-Some-text : goal.invariant_of-result-in-Some-text
invariant_of-result-in-Some-text c =
    let here = subst (IsPart (new_item_view c.args.self.item.now)) c.in-Member.is c.args.self.stands in
    record {
      stands = (
        λ q. here.0 (index c.args.index ∷ q),
        ap is_some (sym c.text-in-Member.ensures ∙ ap (option_map (λ s. string s.now)) c.in-Some-text.is),
      );
    }

pub returns-in-None : goal.returns-in-None
returns-in-None c =
    let item = new_item_view c.args.self.item.now in
    part_absent item c.args.self.part (index c.args.index) c.args.self.stands
    (ap (λ p. part_view item p (index c.args.index ∷ [])) c.in-Whole.is
    ∙ ap (λ x. item_view false (new_item_view x) (index c.args.index ∷ [])) c.in-Value.is
    ∙ sym c.text.ensures ∙ ap (option_map (λ s. string s.now)) c.in-None.is)

pub returns-in-Inline : goal.returns-in-Inline
returns-in-Inline c =
    let item = new_item_view c.args.self.item.now in
    part_absent item c.args.self.part (index c.args.index) c.args.self.stands
    (ap (λ p. part_view item p (index c.args.index ∷ [])) c.in-Whole.is
    ∙ ap (λ x. item_view false (new_item_view x) (index c.args.index ∷ [])) c.in-Inline.is)

pub returns-in-None-text : goal.returns-in-None-text
returns-in-None-text c =
    let item = new_item_view c.args.self.item.now in
    part_absent item c.args.self.part (index c.args.index) c.args.self.stands
    (ap (λ p. part_view item p (index c.args.index ∷ [])) c.in-Member.is
    ∙ sym c.text-in-Member.ensures ∙ ap (option_map (λ s. string s.now)) c.in-None-text.is)

pub returns-in-Element : goal.returns-in-Element
returns-in-Element c =
    let item = new_item_view c.args.self.item.now in
    let i = index c.args.index in
    part_absent item c.args.self.part i c.args.self.stands
    (elim c.in-Element.is [
      | inl e ↦ ap (λ p. part_view item p (i ∷ [])) e.2 ∙ below_element (new_value_view e.0.now) e.1 i
      | inr e ↦ ap (λ p. part_view item p (i ∷ [])) e.2 ∙ below_element (new_value_view e.0.now.1) e.1 i
    ])
