use Rattle.std.proofs.Common.{◌<◌, length, map, ◌∙◌, arith}
use Rattle.edit_lookups.specs.Lookups.{lookup_text}
use Rattle.edit_answers.proofs.FollowLemmas.{follows-more}
use Rattle.edit_answers.proofs.SettleLemmas.{lookup-at, settled-err, settled-more, settled-refused}
use Rattle.edit_answers.proofs.lookups.settle_all.Goals as goal

pub returns-in_err-push-in-Ok-clause-changes : goal.returns-in_err-push-in-Ok-clause-changes
returns-in_err-push-in-Ok-clause-changes g c =
    let within : c.loop-i.i < length c.args.lookups.now = c.loop-i-test.true in
    settled-refused _ c.args.places.now (map lookup_text c.args.lookups.now) c.loop-i.outcomes.items
    c.in-Ok.outcome _ _ _ _ _ c.from_residual.ensures.1
    (lookup-at lookup_text c.args.lookups.now _ c.loop-i.i _ c.loop-i.invariant.0 within)
    c.loop-i.invariant.1 c.in-Ok.ensures.changes

pub returns-in-Err-clause-changes : goal.returns-in-Err-clause-changes
returns-in-Err-clause-changes g c =
    let within : c.loop-i.i < length c.args.lookups.now = c.loop-i-test.true in
    settled-err c.args.places.now (map lookup_text c.args.lookups.now) _ c.loop-i.outcomes.items _ _ _ _ _
    (lookup-at lookup_text c.args.lookups.now _ c.loop-i.i _ c.loop-i.invariant.0 within)
    c.loop-i.invariant.1 c.in-Err.ensures.changes

pub loop-i-preserved : goal.loop-i-preserved
loop-i-preserved g c =
    let within : c.loop-i.i < length c.args.lookups.now = c.loop-i-test.true in (
      omega (arith, c.in_ok-push-in-Ok.ensures.len, c.loop-i.invariant.0),
      settled-more c.args.places.now (map lookup_text c.args.lookups.now) c.loop-i.outcomes.items
          c.push.new.self.items c.in-Ok.outcome _ _ _ _ c.in_ok-push-in-Ok.ensures.items
          (lookup-at lookup_text c.args.lookups.now _ c.loop-i.i _ c.loop-i.invariant.0 within)
          c.loop-i.invariant.1 c.in-Ok.ensures.changes,
      λ t. follows-more c.args.places.now (map lookup_text c.args.lookups.now) c.args.offline c.args.answers.now
          _ _ _ c.loop-i.outcomes.items c.push.new.self.items c.in-Ok.outcome _ c.loop-i.i _
          c.loop-i.invariant.0
          c.answer_at-answer.ensures c.in_ok-push-in-Ok.ensures.items
          (lookup-at lookup_text c.args.lookups.now _ c.loop-i.i _ c.loop-i.invariant.0 within)
          (c.loop-i.invariant.1.done t) (c.in-Ok.ensures.follows (c.loop-i.invariant.1.tells ∙ t))
          (c.in-Ok.ensures.stores (c.loop-i.invariant.1.tells ∙ t))
          (c.in-Ok.ensures.changes.done (c.loop-i.invariant.1.tells ∙ t)) (c.loop-i.invariant.2 t),
    )
