use Rattle.std.proofs.Common.{ℕ, List, Some, None, ap, sym, ◌∙◌, subst, length}
use Rattle.std.specs.Prelude.{option_map, map}
use Rattle.edit_tree.specs.Nodes.{bytes_of, shape_of}
use Rattle.edit_tree.specs.Walk.{front_shape, is_dotted_within, fronts_followed}
use Rattle.edit_tree.specs.WalkState.{HasNodeAt}
use Rattle.edit_tree.proofs.WalkSteps.{if_ok_map, settled_unnamed, reach_of, settled_unreached, settles}
use Rattle.edit_tree.proofs.walk.Walk.define_pending.Goals as goal

pub returns-in_default : goal.returns-in_default
returns-in_default c = record {
  goes = λ st w.
      let text = c.args.text.now in
      settled_unnamed st c.args.number c.args.front (shape_of text c.args.content) c.args.taken c.args.span
      (sym w.name ∙ ap (option_map (bytes_of text)) (sym c.take.ensures.value ∙ c.in_default.is));
}

pub returns-in_default-2 : goal.returns-in_default-2
returns-in_default-2 c = record {
  goes = λ st w.
      let text = c.args.text.now in
      let name = sym w.name ∙ ap (option_map (bytes_of text)) (sym c.take.ensures.value ∙ c.in-Some.is) in
      let none : HasNodeAt text c.follow_fronts.new.nodes.items
      (fronts_followed st.models c.args.number (map (bytes_of text) c.deref.result.now)
      (front_shape c.is_dotted_inline-is_inline.result) c.args.front) None =
      subst (HasNodeAt text c.follow_fronts.new.nodes.items
      (fronts_followed st.models c.args.number (map (bytes_of text) c.deref.result.now)
      (front_shape c.is_dotted_inline-is_inline.result) c.args.front)) c.in_default-2.is
      ((c.in_ok-table.ensures {u = tt}).made st.models w.holds) in
      settled_unreached st c.args.number c.args.front (shape_of text c.args.content) c.args.taken c.args.span
      (bytes_of text c.in-Some.name) name
      (reach_of text c.follow_fronts.new.nodes.items st c.args.number
      (map (bytes_of text) c.deref.result.now) c.is_dotted_inline-is_inline.result c.args.front None
      (ap (map (bytes_of text)) c.deref.ensures.value ∙ w.fronts) (c.is_dotted_inline-is_inline.ensures ∙
      ap (λ (ts : List ℕ). is_dotted_within (length ts) c.args.front) w.tables) none);
}

pub returns : goal.returns
returns c = record {
  goes = λ st w.
      let text = c.args.text.now in
      let name = sym w.name ∙ ap (option_map (bytes_of text)) (sym c.take.ensures.value ∙ c.in-Some.is) in
      let some : HasNodeAt text c.follow_fronts.new.nodes.items
      (fronts_followed st.models c.args.number (map (bytes_of text) c.deref.result.now)
      (front_shape c.is_dotted_inline-is_inline.result) c.args.front) (Some c.in-Some-2.table) =
      subst (HasNodeAt text c.follow_fronts.new.nodes.items
      (fronts_followed st.models c.args.number (map (bytes_of text) c.deref.result.now)
      (front_shape c.is_dotted_inline-is_inline.result) c.args.front)) c.in-Some-2.is
      ((c.in_ok-table.ensures {u = tt}).made st.models w.holds) in
      let r = reach_of text c.follow_fronts.new.nodes.items st c.args.number
      (map (bytes_of text) c.deref.result.now) c.is_dotted_inline-is_inline.result c.args.front
      (Some c.in-Some-2.table)
      (ap (map (bytes_of text)) c.deref.ensures.value ∙ w.fronts) (c.is_dotted_inline-is_inline.ensures ∙
      ap (λ (ts : List ℕ). is_dotted_within (length ts) c.args.front) w.tables) some in
      if_ok_map c.assert_member.result (c.assert_member.ensures.made r.0 r.2)
      (λ q puts. settles text
      (record {
        nodes = c.assert_member.new.nodes;
        tables = c.args.self.now.tables;
        fronts = c.clear.new.self;
        name = c.take.new.self;
      }) st c.args.number c.args.front
      (shape_of text c.args.content) c.args.taken c.args.span
      (bytes_of text c.in-Some.name) r.0 c.in-Some-2.table q
      name r.1 w.tables c.clear.ensures.items c.take.ensures.after puts);
}
