use Rattle.std.proofs.Common.{◌-◌, ◌+◌, length, arith}
use Rattle.edit_json.specs.Taken.{BeginsWithValue}
use Rattle.edit_json.proofs.TakenValueLemmas.{remembered}
use Rattle.edit_json.proofs.TakenLemmas.{takes_here}
use Rattle.edit_json.proofs.skipped_value.skip_new_value.Goals as goal

pub returns-then-is_empty : goal.returns-then-is_empty
returns-then-is_empty c = record { value = takes_here (BeginsWithValue c.args.depth) c.args.text.now c.in_ok-rest.rest.now c.in_ok-rest.ensures.value }

pub invariant_of-result : goal.invariant_of-result
invariant_of-result c =
    let t = c.args.text.now in
    let r = c.in_ok-rest.rest.now in
    record { local = remembered c.args.depth (length t - length r + 1) t r c.in_ok-rest.ensures.value (grind arith) (omega arith) }

pub returns : goal.returns
returns c = record { value = takes_here (BeginsWithValue c.args.depth) c.args.text.now c.in_ok-rest.rest.now c.in_ok-rest.ensures.value }
