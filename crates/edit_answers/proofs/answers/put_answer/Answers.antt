use Rattle.edit_answers.proofs.TableLemmas.{has-before, has-set}
use Rattle.edit_answers.proofs.answers.put_answer.Goals as goal

pub returns-then-is_none-clause-has : goal.returns-then-is_none-clause-has
returns-then-is_none-clause-has c k e w = has-set _ c.args.number c.args.answer k e w

pub returns-else-is_none-clause-has : goal.returns-else-is_none-clause-has
returns-else-is_none-clause-has c k e w =
    has-before _ c.args.number _ _ k c.if-is_none.ensures c.index.ensures e w
