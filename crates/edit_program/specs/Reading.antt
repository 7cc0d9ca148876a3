-- The files that an upgrade reads before it follows the policy.
use Rattle.std.specs.Prelude.{ℕ, List, Option}
use Rattle.edit_store.specs.Store.{Files}
use Rattle.edit_steps.specs.Sources.{AreRead}
use Rattle.edit_steps.specs.declared.upgrade_read.sources.Sources.{Sources}
use Rattle.edit_program.specs.Planned.{to_request}
use Rattle.edit_program.specs.declared.upgrade_run.upgrade_args.UpgradeArgs.{UpgradeArgs}

-- the given manifests and configurations were read
abbrev pub IsRead : UpgradeArgs → List ℕ → Option (List ℕ) → Files → Sources → Type 0
IsRead args current home files s = AreRead files current home (to_request args) s
