use Rattle.std.proofs.Common.{◌∙◌, ap, option_map, sym, true}
use Rattle.std.specs.Option.{option_map_or}
use Rattle.edit_version.specs.Levels.{level_of}
use Rattle.edit_unify.specs.Ranges.{is_higher}
use Rattle.edit_unify.specs.Stands.{stand_view}
use Rattle.edit_unify.proofs.GroupLemmas.{best_added, best_kept}
use Rattle.edit_unify.proofs.leaders.add_stand.Goals as goal

pub returns-in_ok-insert : goal.returns-in_ok-insert
returns-in_ok-insert c = λ own.
    best_added (level_of c.args.levels) own c.args.stand c.args.leaders.now c.insert.new.self c.group_of-group.result
    c.group_of-group.ensures
    (ap (λ o. option_map_or (λ b. is_higher (stand_view c.args.stand).caret b.caret) (option_map stand_view o)
    true) (sym c.get.ensures.value)
    ∙ sym c.is_better.ensures ∙ c.if-is_better.true)
    c.in_ok-insert.ensures.updates.0

pub returns-else-is_better : goal.returns-else-is_better
returns-else-is_better c = λ own.
    best_kept (level_of c.args.levels) own (stand_view c.args.stand) c.args.leaders.now c.group_of-group.result
    c.group_of-group.ensures
    (ap (λ o. option_map_or (λ b. is_higher (stand_view c.args.stand).caret b.caret) (option_map stand_view o)
    true) (sym c.get.ensures.value)
    ∙ sym c.is_better.ensures ∙ c.if-is_better.false)
