use Rattle.std.proofs.Common.{◌≡◌, ◌≢◌, ℕ, ◌<◌, List, [], length, get_or, arith, rules, Bor}
use Rattle.std.proofs.lemmas.List.{map_more, drop_more}
use Rattle.edit_base.proofs.paths.common_count.Goals as goal

pub returns-then-ne-clause-longest : goal.returns-then-ne-clause-longest
returns-then-ne-clause-longest c =
    let none : Bor (List ℕ) = record { ref_ptr = (0, 0); now = [] } in
    let within_to : c.loop-count.count < length c.args.to.now = omega arith in
    let within_from : c.loop-count.count < length c.args.from.now = omega arith in
    let apart : (get_or c.args.to.now c.loop-count.count none).now
    ≢ (get_or c.args.from.now c.loop-count.count none).now = search rules in
    rw (
      drop_more c.args.to.now c.loop-count.count none within_to,
      drop_more c.args.from.now
          c.loop-count.count none within_from,
    ) apart

pub loop-count-preserved : goal.loop-count-preserved
loop-count-preserved c =
    let none : Bor (List ℕ) = record { ref_ptr = (0, 0); now = [] } in
    let within_to : c.loop-count.count < length c.args.to.now = omega arith in
    let within_from : c.loop-count.count < length c.args.from.now = omega arith in
    let same : (get_or c.args.to.now c.loop-count.count none).now
    ≡ (get_or c.args.from.now c.loop-count.count none).now = search rules in
    let to_more = map_more (λ (x : Bor (List ℕ)). x.now) c.args.to.now c.loop-count.count none within_to in
    let from_more = map_more (λ (x : Bor (List ℕ)). x.now) c.args.from.now c.loop-count.count none
    within_from in
    (omega arith, omega arith, cc)
