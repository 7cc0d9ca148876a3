use Rattle.edit_syntax.proofs.FirstLines.{next_is, next_none, next_end}
use Rattle.edit_syntax.proofs.read.line_by_line.next_line.Goals as goal

pub returns-in-Some-clause-next : goal.returns-in-Some-clause-next
returns-in-Some-clause-next c e rest same =
    next_is c.args.text.now c.in-Some.rest.now e rest c.in-Some.ensures same

pub returns-in-Some-clause-end : goal.returns-in-Some-clause-end
returns-in-Some-clause-end c same = next_end c.args.text.now c.in-Some.rest.now c.in-Some.ensures same

pub returns-in-None-clause-next : goal.returns-in-None-clause-next
returns-in-None-clause-next c e rest same = absurd (next_none c.args.text.now e rest c.in-None.ensures same)
