use Rattle.std.proofs.Common.{◌≡◌, map, option_map, take}
use Rattle.edit_unify.specs.Firsts.{caret_for, first_caret}
use Rattle.edit_unify.specs.Groups.{CrateAt}
use Rattle.edit_unify.specs.Stands.{stand_view}
use Rattle.edit_unify.proofs.apart.first_numbers.Given as goal

-- the numbers of the first of the rows so far of each crate
abbrev pub invariant-stands : goal.invariant-stands
invariant-stands l = (krate : CrateAt) → caret_for l.firsts krate
    ≡ first_caret (map (option_map stand_view) (take l.stand-index l.stands)) krate
