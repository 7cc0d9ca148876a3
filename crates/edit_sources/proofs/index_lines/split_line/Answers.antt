use Rattle.std.proofs.lemmas.List.{take_rest}
use Rattle.edit_sources.proofs.SplitLineLemmas.{lines_of-none, lines_of-some}
use Rattle.edit_sources.proofs.index_lines.split_line.Goals as goal

pub returns-in-Some-clause-lines : goal.returns-in-Some-clause-lines
returns-in-Some-clause-lines c = rw take_rest (lines_of-some c.args.text.now c.in-Some.end c.in-Some.ensures)

pub returns-in-None-clause-lines : goal.returns-in-None-clause-lines
returns-in-None-clause-lines c = lines_of-none c.args.text.now c.in-None.ensures
