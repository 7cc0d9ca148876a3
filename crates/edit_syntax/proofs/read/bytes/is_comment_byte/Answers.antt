use Rattle.std.proofs.Common.{refl, arith}
use Rattle.edit_syntax.specs.declared.read.bytes.TheConstants.{CLASSES}
use Rattle.edit_syntax.specs.Characters.{is_comment_byte}
use Rattle.edit_syntax.proofs.Tables.{agree_below, from_table}
use Rattle.edit_syntax.proofs.read.bytes.is_comment_byte.Goals as goal

pub returns : goal.returns
unfolding agree_below
returns c = from_table CLASSES 1 is_comment_byte c.args.b (omega arith) refl
