use Rattle.std.proofs.Common.{◌∙◌, sym}
use Rattle.edit_terminal.proofs.LineLemmas.{status_long}
use Rattle.edit_terminal.proofs.lines.beginning.Goals as goal

pub returns-then-is_status-clause-within : goal.returns-then-is_status-clause-within
returns-then-is_status-clause-within c =
    status_long c.args.line.now (sym c.is_status.ensures ∙ c.if-is_status.true)
