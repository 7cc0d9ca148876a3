use Rattle.std.proofs.Common.{◌∙◌}
use Rattle.edit_syntax.proofs.EscapeRuns.{coded_says}
use Rattle.edit_syntax.proofs.read.decode.char_from_hex.Goals as goal

pub returns : goal.returns
returns c digits rest spelled h = c.unwrap_or.ensures ∙
    coded_says c.args.n c.args.bytes.now digits rest 65533 c.scalar.result spelled h c.scalar.ensures
