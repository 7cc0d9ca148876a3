use Rattle.std.proofs.Common.{arith}
use Rattle.edit_rewrite.proofs.ClosestTables.{closest_is}
use Rattle.edit_rewrite.proofs.inner.table_above.Goals as goal

pub returns : goal.returns
returns c form m =
    closest_is form c.args.place.now c.ends.end c.ends.found c.ends-test.false (omega arith)
    (c.ends.invariant form m)
