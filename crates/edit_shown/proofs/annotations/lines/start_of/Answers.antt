use Rattle.std.proofs.Common.{subst, sym}
use Rattle.edit_document.specs.Items.{place_view}
use Rattle.edit_shown.specs.InputDocuments.{IsDocumentFor}
use Rattle.edit_shown.proofs.RequirementLineLemmas.{line_none}
use Rattle.edit_shown.proofs.annotations.lines.start_of.Goals as goal

-- no line is known where there is no document
pub returns-in-None-clause-ok : goal.returns-in-None-clause-ok
returns-in-None-clause-ok c = λ bytes is.
    sym (line_none bytes (place_view c.args.entry.now) (subst (IsDocumentFor bytes) c.in-None.is is))
