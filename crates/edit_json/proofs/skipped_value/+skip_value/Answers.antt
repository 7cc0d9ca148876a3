use Rattle.std.proofs.Common.{◌-◌, arith}
use Rattle.edit_json.proofs.TakenValueLemmas.{array_taken, items_begin, items_go_on, key_taken-shorter, members_begin, members_go_on, object_taken, text_taken, value_taken-shorter}
use Rattle.edit_json.proofs.skipped_value.+skip_value.Goals as goal

pub skip_value-returns-in_ok-rest-in-34 : goal.skip_value-returns-in_ok-rest-in-34
skip_value-returns-in_ok-rest-in-34 t c =
    record { value = text_taken c.args.depth c.args.text.now c.in_ok-rest-in-34.rest.now c.in_ok-rest-in-34.ensures.token }

pub skip_array-loop-after-init : goal.skip_array-loop-after-init
skip_array-loop-after-init t c = items_begin (c.args.depth - 1) c.in_ok-rest.rest.now

pub skip_array-loop-after-preserved : goal.skip_array-loop-after-preserved
skip_array-loop-after-preserved t c =
    items_go_on (c.args.depth - 1) c.in_ok-rest.rest.now c.loop-after.rest.now c.in_ok-rest-2.rest.now c.loop-after.invariant c.in_ok-rest-2.ensures.value

pub skip_array-loop-after-smaller : goal.skip_array-loop-after-smaller
skip_array-loop-after-smaller t c = value_taken-shorter (c.args.depth - 1) c.loop-after.rest.now c.in_ok-rest-2.rest.now c.in_ok-rest-2.ensures.value

pub skip_array-returns-in-Some : goal.skip_array-returns-in-Some
skip_array-returns-in-Some t c = record {
  value = array_taken c.args.depth c.args.text.now c.in_ok-rest.rest.now c.loop-after.rest.now c.in-Some.after.now (omega arith)
      c.in_ok-rest.ensures.token c.loop-after.invariant c.in-Some.ensures.token;
}

pub skip_object-loop-after-init : goal.skip_object-loop-after-init
skip_object-loop-after-init t c = members_begin (c.args.depth - 1) c.in_ok-rest.rest.now

pub skip_object-loop-after-preserved : goal.skip_object-loop-after-preserved
skip_object-loop-after-preserved t c =
    members_go_on (c.args.depth - 1) c.in_ok-rest.rest.now c.loop-after.rest.now c.in_ok-member.member.now c.in_ok-rest-2.rest.now
    c.loop-after.invariant c.in_ok-member.ensures.token c.in_ok-rest-2.ensures.value

pub skip_object-loop-after-smaller : goal.skip_object-loop-after-smaller
skip_object-loop-after-smaller t c =
    let key = key_taken-shorter c.loop-after.rest.now c.in_ok-member.member.now c.in_ok-member.ensures.token in
    let value = value_taken-shorter (c.args.depth - 1) c.in_ok-member.member.now c.in_ok-rest-2.rest.now c.in_ok-rest-2.ensures.value in
    omega arith

pub skip_object-returns-in-Some : goal.skip_object-returns-in-Some
skip_object-returns-in-Some t c = record {
  value = object_taken c.args.depth c.args.text.now c.in_ok-rest.rest.now c.loop-after.rest.now c.in-Some.after.now (omega arith)
      c.in_ok-rest.ensures.token c.loop-after.invariant c.in-Some.ensures.token;
}
