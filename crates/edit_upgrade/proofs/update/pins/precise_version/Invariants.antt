use Rattle.std.proofs.Common.{◌≡◌, map, option_map, take}
use Rattle.semver.specs.Identifiers.{comparator_view, parts_of}
use Rattle.edit_upgrade.specs.Pins.{precise_version}
use Rattle.edit_upgrade.proofs.update.pins.precise_version.Given as goal

abbrev pub invariant-comparators : goal.invariant-comparators
invariant-comparators l =
    option_map parts_of l.best
    ≡ precise_version (map comparator_view (take l.comparator-index l.comparators))
