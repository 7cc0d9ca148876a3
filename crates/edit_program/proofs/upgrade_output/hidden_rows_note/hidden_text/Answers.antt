use Rattle.std.proofs.Common.{Bor, List, ℕ, ap, map}
use Rattle.edit_program.specs.StderrText.{reasons}
use Rattle.edit_program.proofs.NoteLemmas.{line_more}
use Rattle.edit_program.proofs.upgrade_output.hidden_rows_note.hidden_text.Goals as goal

pub reasons-preserved : goal.reasons-preserved
reasons-preserved c =
    line_more (map (λ r. r.now) c.args.rows.now) reasons c.as_slice-reason-items.result.now
    c.reasons.reason-index _ _ _ _ (ap (map (λ (x : Bor (List ℕ)). x.now)) c.as_slice-reason-items.ensures)
    c.reasons-test.true c.reasons.invariant c.in_ok-add_line.ensures.ok
