use Rattle.std.proofs.Common.{refl, ap, sym, ◌∙◌, inl, inr}
use Rattle.std.specs.Prelude.{List, ℕ, [], ◌∷◌, false, Option, find, option_and_then, option_map}
use Rattle.edit_document.specs.declared.entry_part.Part.{Part}
use Rattle.edit_tree.specs.Assertions.{at, key, same_bytes}
use Rattle.edit_document.specs.EntryParts.{part_place, part_view}
use Rattle.edit_tree.specs.IntendedTrees.{item_view, new_view}
use Rattle.edit_tree.specs.NewItems.{NewValue}
use Rattle.edit_document.specs.NewItemViews.{new_item_view, new_pair_view, new_pair_views, new_value_view}
use Rattle.edit_document.proofs.EntryPartViews.{part_absent, below_element, no_member, member_name, member_shows, value_stands}
use Rattle.edit_document.proofs.entry_part.EntryPart.member.Goals as goal

pub invariant_of-result : goal.invariant_of-result
invariant_of-result c =
    let m = new_pair_view c.in-Some.member.now in
    let ms = new_pair_views c.in-Inline.members.items in
    let n = c.args.name.now in
    let is = ap (λ xs. find (λ x. same_bytes x.0 n) (new_pair_views xs)) (sym c.as_slice.ensures.value)
    ∙ sym c.first_named.ensures ∙ ap (option_map (λ x. new_pair_view x.now)) c.in-Some.is in
    record {
      stands = (
        λ q. ap (λ x. item_view false (new_item_view x) (key m.0 ∷ q)) c.in-Inline.is
            ∙ member_shows ms n m is c.in-Inline.dotted q,
        value_stands m.1,
      );
    }

pub returns-in-Value : goal.returns-in-Value
returns-in-Value c =
    let item = new_item_view c.args.self.item.now in
    let n = c.args.name.now in
    part_absent item c.args.self.part (key n) c.args.self.stands
    (ap (λ p. part_view item p (key n ∷ [])) c.in-Whole.is
    ∙ ap (λ x. item_view false (new_item_view x) (key n ∷ [])) c.in-Value.is
    ∙ no_member (new_value_view c.in-Value.field-0) n)

pub returns-in-Some : goal.returns-in-Some
returns-in-Some c =
    let n = c.args.name.now in
    let m = new_pair_view c.in-Some.member.now in
    let is = sym c.first_named.ensures ∙ ap (option_map (λ x. new_pair_view x.now)) c.in-Some.is in (
      refl,
      ap (λ (k : List ℕ). key k ∷ []) (member_name (new_pair_views c.as_slice.result.now) n m is)
          ∙ ap (λ p. at (part_place p) (key n)) (sym c.in-Whole.is),
    )

pub returns-in-None : goal.returns-in-None
returns-in-None c =
    let item = new_item_view c.args.self.item.now in
    let n = c.args.name.now in
    let none = ap (λ xs. find (λ x. same_bytes x.0 n) (new_pair_views xs)) (sym c.as_slice.ensures.value)
    ∙ sym c.first_named.ensures ∙ ap (option_map (λ x. new_pair_view x.now)) c.in-None.is in
    part_absent item c.args.self.part (key n) c.args.self.stands
    (ap (λ p. part_view item p (key n ∷ [])) c.in-Whole.is
    ∙ ap (λ x. item_view false (new_item_view x) (key n ∷ [])) c.in-Inline.is
    ∙ ap (λ (o : Option (List ℕ × NewValue)). option_and_then (λ x. new_view x.1 []) o) none)

pub returns-in-Member : goal.returns-in-Member
returns-in-Member c =
    let item = new_item_view c.args.self.item.now in
    let n = c.args.name.now in
    part_absent item c.args.self.part (key n) c.args.self.stands
    (let at_part = λ (p : Part). part_view item p (key n ∷ []) in
    elim c.in-Member.is [
      | inl m ↦ ap at_part m.1 ∙ no_member (new_value_view m.0.now.1) n
      | inr r ↦ elim r [
        | inl e ↦ ap at_part e.2 ∙ below_element (new_value_view e.0.now) e.1 (key n)
        | inr e ↦ ap at_part e.2 ∙ below_element (new_value_view e.0.now.1) e.1 (key n)
      ]
    ])
