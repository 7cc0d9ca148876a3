use Rattle.std.proofs.Common.{◌≡◌, map, option_map, take}
use Rattle.edit_version.specs.Levels.{level_of}
use Rattle.edit_unify.specs.Groups.{best_of}
use Rattle.edit_unify.specs.Leaders.{leader}
use Rattle.edit_unify.specs.Stands.{Required, stand_view}
use Rattle.edit_unify.proofs.leaders.leaders_of.Given as goal

-- the best rows so far
abbrev pub invariant-stands : goal.invariant-stands
invariant-stands l = (own : Required) → best_of (level_of l.levels) l.leaders own
    ≡ leader (level_of l.levels) own (map (option_map stand_view) (take l.stand-index l.stands))
