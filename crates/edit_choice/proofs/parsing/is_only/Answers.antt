use Rattle.edit_choice.proofs.PartLemmas.{only_by}
use Rattle.edit_choice.proofs.parsing.is_only.Goals as goal

pub returns-then-parts-eq1 : goal.returns-then-parts-eq1
returns-then-parts-eq1 c =
    only_by c.args.parts.now c.args.word.now _ c.eq.result c.if-parts-eq1.true c.eq.ensures
