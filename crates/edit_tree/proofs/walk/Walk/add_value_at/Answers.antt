use Rattle.std.proofs.Common.{◌≡◌, Some, ap, sym, ◌∙◌, refl}
use Rattle.edit_tree.specs.Nodes.{shape_of}
use Rattle.edit_tree.specs.Walk.{last_of}
use Rattle.edit_tree.proofs.WalkSteps.{if_ok_map, settles_element, settles_named}
use Rattle.edit_tree.proofs.walk.Walk.add_value_at.Goals as goal

pub returns-in-None : goal.returns-in-None
returns-in-None c = record {
  goes = λ st w.
      let text = c.args.text.now in
      let top : last_of c.args.self.now.tables.items ≡ Some c.in-Some.number =
      ap last_of (sym c.deref.ensures.value) ∙ sym c.last.ensures.value ∙ sym c.copied.ensures ∙ c.in-Some.is in
      if_ok_map c.add_element.result (c.add_element.ensures.added text st.models w.holds)
      (λ r puts. settles_element c.args.self.now _ st
      (shape_of text c.args.content) c.args.span c.in-Some.number r w top c.in-None.is puts refl refl refl);
}

pub returns-in-Some-name : goal.returns-in-Some-name
returns-in-Some-name c = record {
  goes = λ st w.
      let text = c.args.text.now in
      let top : last_of c.args.self.now.tables.items ≡ Some c.in-Some.number =
      ap last_of (sym c.deref.ensures.value) ∙ sym c.last.ensures.value ∙ sym c.copied.ensures ∙ c.in-Some.is in
      if_ok_map c.define_pending.result (c.define_pending.ensures.goes st w)
      (λ r settles. settles_named c.args.self.now _ st
      (shape_of text c.args.content) c.args.span c.in-Some.number c.in-Some-name.field-0 r w top
      c.in-Some-name.is settles);
}
