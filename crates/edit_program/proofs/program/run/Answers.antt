use Rattle.std.proofs.Common.{arith, inl, inr}
use Rattle.edit_program.proofs.RunLemmas.{ended_done, ended_found}
use Rattle.edit_program.proofs.program.run.Goals as goal

pub returns-in-Ok-clause-done : goal.returns-in-Ok-clause-done
returns-in-Ok-clause-done g c zero t =
    ended_done _ c.in-Ok.status _ _ _
    (c.in-Ok.ensures.ended (λ two. omega (arith, zero, two)) t) zero

pub returns-in-Ok-clause-failed : goal.returns-in-Ok-clause-failed
returns-in-Ok-clause-failed g c one = inl (
  c.in-Ok.ensures.requested one,
  λ t. ended_found _ c.in-Ok.status _ _ _ (c.in-Ok.ensures.ended (λ two. omega (arith, one, two)) t) one,
)

pub returns-in-Err-clause-failed : goal.returns-in-Err-clause-failed
returns-in-Err-clause-failed g c one = inr (record {
  error = c.in-Err.failure.error;
  cause = c.in-Err.ensures.why;
  counted = c.in-Err.ensures.counted;
  printed = g.E.Write.contents c.try_run.new.err;
  left = c.in-Err.ensures.error;
})
