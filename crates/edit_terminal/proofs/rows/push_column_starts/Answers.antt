use Rattle.std.proofs.Common.{◌∙◌, true, false, sym}
use Rattle.std.proofs.lemmas.List.{append-nil}
use Rattle.edit_terminal.specs.Rows as spec
use Rattle.edit_terminal.proofs.RowLemmas.{starts_more}
use Rattle.edit_terminal.proofs.rows.push_column_starts.Goals as goal
use Rattle.edit_terminal.proofs.rows.push_column_starts.Goals.{then-is_start+in_ok-push, else-is_start}

pub loop-at-preserved : goal.loop-at-preserved
loop-at-preserved c =
    elim c.if-is_start.branch [
      | then-is_start+in_ok-push w ↦ rw w.starts-is
          (starts_more (spec.is_start c.args.line.now) _ _ _ c.loop-at.at true
          (sym w.if-is_start.true ∙ c.is_start.ensures) c.loop-at.invariant w.in_ok-push.ensures.items)
      | else-is_start w ↦ rw w.starts-is (starts_more (spec.is_start c.args.line.now) _ _ _ c.loop-at.at false
          (sym w.if-is_start.false ∙ c.is_start.ensures) c.loop-at.invariant (sym (append-nil _)))
    ]
