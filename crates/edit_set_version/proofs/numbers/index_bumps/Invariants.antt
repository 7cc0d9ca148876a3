use Rattle.std.proofs.Common.{take}
use Rattle.edit_set_version.specs.Crates.{bumps_view}
use Rattle.edit_set_version.specs.BumpsByFolder.{HasFirstBumps}
use Rattle.edit_set_version.proofs.numbers.index_bumps.Given as goal

abbrev pub invariant-bumps : goal.invariant-bumps
invariant-bumps l = HasFirstBumps (bumps_view (take l.number l.bumps)) l.numbers
