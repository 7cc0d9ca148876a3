use Rattle.std.proofs.Common.{◌∙◌, Some, ap, option_map, sym}
use Rattle.edit_shown.specs.RequirementLines.{line_number}
use Rattle.edit_shown.proofs.annotations.documents.requirement_line.Goals as goal

pub returns-clause-line : goal.returns-clause-line
returns-clause-line c =
    ap Some (c.line_at-own.ensures.line ∙ ap (line_number c.args.bytes.now) c.line_at-own.ensures.at)
    ∙ sym (ap (option_map (line_number c.args.bytes.now)) c.in-Some.is)
    ∙ c.in_ok-start.ensures.ok c.args.bytes.now c.requires.document
