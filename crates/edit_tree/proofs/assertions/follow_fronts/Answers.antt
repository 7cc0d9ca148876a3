use Rattle.std.proofs.Common.{◌≡◌, ◌+◌, [], Some, None, drop, subst}
use Rattle.std.specs.Prelude.{map}
use Rattle.std.proofs.lemmas.List.{drop_all}
use Rattle.edit_tree.specs.Nodes.{bytes_of, shape_of}
use Rattle.edit_tree.specs.Walk.{front_shape, fronts_followed}
use Rattle.edit_tree.proofs.KeyFronts.{Reaches, reaches_next, front_made, reaches_turn, reaches_stop, reaches_end}
use Rattle.edit_tree.proofs.assertions.follow_fronts.Goals as goal

pub returns-in-None : goal.returns-in-None
returns-in-None c = record {
  made = λ models holds.
      let text = c.args.text.now in
      let total = fronts_followed models c.args.number (map (bytes_of text) c.args.fronts.now)
      (front_shape c.args.is_inline) c.args.taken in
      let left = map (bytes_of text) (drop (c.fronts.front-index + 1) c.args.fronts.now) in
      let here = reaches_next c.fronts.nodes.items total c.fronts.table c.fronts.front-index c.args.fronts.now
      c.front-item.result (front_shape c.args.is_inline) c.args.taken c.fronts-test.true c.front-item.is
      (c.fronts.invariant models holds) in
      reaches_stop c.fronts.nodes.items total c.fronts.table (bytes_of text c.front-item.result) left
      (front_shape c.args.is_inline) c.args.taken here
      (front_made text c.assert_member.new.nodes.items here.models c.fronts.table
      (bytes_of text c.in_ok-name.name) (bytes_of text c.front-item.result)
      (shape_of text c.front_content-content.result)
      (front_shape c.args.is_inline) c.args.taken c.in_ok-next.field-0 None
      ((c.in_ok-name.ensures {u = tt}).same text) (c.front_content-content.ensures text) c.in-None.is
      ((c.in_ok-next.ensures {u = tt}).made here.models here.holds));
}

pub fronts-preserved : goal.fronts-preserved
fronts-preserved c models holds =
    let text = c.args.text.now in
    let total = fronts_followed models c.args.number (map (bytes_of text) c.args.fronts.now)
    (front_shape c.args.is_inline) c.args.taken in
    let left = map (bytes_of text) (drop (c.fronts.front-index + 1) c.args.fronts.now) in
    let here = reaches_next c.fronts.nodes.items total c.fronts.table c.fronts.front-index c.args.fronts.now
    c.front-item.result (front_shape c.args.is_inline) c.args.taken c.fronts-test.true c.front-item.is
    (c.fronts.invariant models holds) in
    reaches_turn c.fronts.nodes.items c.assert_member.new.nodes.items total c.fronts.table c.in-Some.next
    (bytes_of text c.front-item.result) left (front_shape c.args.is_inline) c.args.taken here
    (front_made text c.assert_member.new.nodes.items here.models c.fronts.table
    (bytes_of text c.in_ok-name.name) (bytes_of text c.front-item.result)
    (shape_of text c.front_content-content.result)
    (front_shape c.args.is_inline) c.args.taken c.in_ok-next.field-0 (Some c.in-Some.next)
    ((c.in_ok-name.ensures {u = tt}).same text) (c.front_content-content.ensures text) c.in-Some.is
    ((c.in_ok-next.ensures {u = tt}).made here.models here.holds))

pub returns : goal.returns
returns c = record {
  made = λ models holds.
      let text = c.args.text.now in
      let total = fronts_followed models c.args.number (map (bytes_of text) c.args.fronts.now)
      (front_shape c.args.is_inline) c.args.taken in
      let left : drop c.fronts.front-index c.args.fronts.now ≡ [] =
      drop_all c.fronts.front-index c.args.fronts.now c.fronts-test.false in
      let done : Reaches text c.fronts.nodes.items total c.fronts.table []
      (front_shape c.args.is_inline) c.args.taken =
      subst (λ ns. Reaches text c.fronts.nodes.items total c.fronts.table (map (bytes_of text) ns)
      (front_shape c.args.is_inline) c.args.taken) left (c.fronts.invariant models holds) in
      reaches_end c.fronts.nodes.items total c.fronts.table (front_shape c.args.is_inline) c.args.taken done;
}
