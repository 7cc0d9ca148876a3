use Rattle.std.proofs.Common.{refl, arith}
use Rattle.edit_syntax.specs.declared.read.bytes.TheConstants.{CLASSES}
use Rattle.edit_syntax.specs.Characters.{is_basic_ch}
use Rattle.edit_syntax.proofs.Tables.{agree_below, from_table}
use Rattle.edit_syntax.proofs.read.bytes.is_basic_ch.Goals as goal

pub returns : goal.returns
unfolding agree_below
returns c = from_table CLASSES 4 is_basic_ch c.args.b (omega arith) refl
