use Rattle.std.proofs.Common.{◌≡◌, take}
use Rattle.std.specs.List.{filter_map}
use Rattle.edit_policy.specs.Merged.{crate_level}
use Rattle.edit_version.specs.Levels.{crate_levels}
use Rattle.edit_policy.proofs.merge.merge_crate_levels.Given as goal

abbrev pub invariant-crates : goal.invariant-crates
invariant-crates l = crate_levels l.levels.items ≡ filter_map crate_level (take l.krate-index l.krate-items)
