use Rattle.std.proofs.Common.{refl, arith}
use Rattle.edit_syntax.specs.declared.read.bytes.TheConstants.{CLASSES}
use Rattle.edit_syntax.specs.Characters.{is_literal_ch}
use Rattle.edit_syntax.proofs.Tables.{agree_below, from_table}
use Rattle.edit_syntax.proofs.read.bytes.is_literal_ch.Goals as goal

pub returns : goal.returns
unfolding agree_below
returns c = from_table CLASSES 8 is_literal_ch c.args.b (omega arith) refl
