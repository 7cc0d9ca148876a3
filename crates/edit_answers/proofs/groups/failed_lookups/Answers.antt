use Rattle.edit_answers.proofs.GroupLemmas.{missed-more, missed-same}
use Rattle.edit_answers.proofs.groups.failed_lookups.Goals as goal

pub loop-pair-preserved-in_default : goal.loop-pair-preserved-in_default
loop-pair-preserved-in_default c =
    missed-same c.args.standing c.args.offline c.args.pairs.now c.loop-pair.pair-index _ c.loop-pair-test.true
    c.loop-pair.found.items c.failure_with.result c.failure_with.ensures c.in_default.is c.loop-pair.invariant

pub loop-pair-preserved : goal.loop-pair-preserved
loop-pair-preserved c =
    missed-more c.args.standing c.args.offline c.args.pairs.now c.loop-pair.pair-index _ c.loop-pair-test.true
    c.loop-pair.found.items c.push.new.self.items c.failure_with.result c.in-Some.failure
    c.failure_with.ensures c.in-Some.is c.in_ok-push.ensures.items c.loop-pair.invariant
