use Rattle.std.proofs.Common.{subst}
use Rattle.std.specs.Prelude.{IsUtf8}
use Rattle.edit_document.specs.Items.{place_view}
use Rattle.edit_shown.proofs.RequirementLineLemmas.{line_is}
use Rattle.edit_shown.proofs.annotations.lines.start_in.Goals as goal

pub returns-clause-ok : goal.returns-clause-ok
returns-clause-ok c =
    let form = c.lemma_form.ensures.some.0 in
    let document = c.lemma_form.ensures.some.1 in
    line_is c.args.document.now.bytes form (place_view c.args.entry.now) c.in_ok-start.start
    (subst IsUtf8 c.as_str-text.ensures c.as_str-text.utf8) document
    (c.in_ok-start.ensures.ok form document)
