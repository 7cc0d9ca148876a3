use Rattle.std.proofs.Common.{◌<◌, arith, length}
use Rattle.std.proofs.lemmas.Grind.{common_steps}
use Rattle.edit_shown.proofs.LineLemmas.{is_cut}
use Rattle.edit_shown.proofs.diff.lines.first_line.Goals as goal

pub returns : goal.returns
returns c =
    let some : 0 < length c.args.text.now = grind (arith, common_steps) in
    is_cut c.args.text.now c.line_length.result _ _ some c.line_length.ensures.same
    c.split_at.ensures.front c.split_at.ensures.back
