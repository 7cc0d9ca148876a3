use Rattle.std.proofs.Common.{◌≡◌, map, string_bytes, take}
use Rattle.edit_sources.specs.Configured.{paths_of}
use Rattle.edit_steps.proofs.upgrade_read.shared.has_paths.Given as goal

abbrev pub invariant-loop-i : goal.invariant-loop-i
invariant-loop-i l = take l.i (paths_of l.list) ≡ take l.i (map string_bytes l.paths)
