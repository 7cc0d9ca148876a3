use Rattle.std.proofs.Common.{◌+◌, arith, refl}
use Rattle.edit_words.proofs.FilledLemmas.{all_pushed, got, pushed}
use Rattle.edit_words.proofs.option_defaults.insert_defaults.Goals as goal

pub loop-at-preserved : goal.loop-at-preserved
loop-at-preserved c = pushed c.loop-at.ended c.has_ended-ended.result c.args.args.now c.loop-at.at
    _ _ _ _ _ _ c.loop-at-test.true refl
    (got c.get.result c.args.args.now (c.loop-at.at + 1) c.get.ensures.lookup.3)
    c.has_ended-ended.ensures
    c.in_ok-push_with_default.ensures c.loop-at.invariant

pub returns : goal.returns
returns c = all_pushed c.loop-at.ended c.args.args.now c.loop-at.at _ _ (omega (arith, c.loop-at-test.false))
    c.loop-at.invariant
