use Rattle.std.proofs.Common.{◌≡◌, ◌++◌, map, take}
use Rattle.std.specs.List.{flat_map}
use Rattle.edit_program.specs.ChosenVersions.{chosen_of, pair_of}
use Rattle.edit_program.proofs.upgrade_run.chosen_versions.push_rows.Given as goal

abbrev pub invariant-rows : goal.invariant-rows
invariant-rows l = map pair_of l.chosen.items ≡ map pair_of l.initial.chosen.items
    ++ flat_map (chosen_of l.lock_plan) (take l.row-index l.rows)
