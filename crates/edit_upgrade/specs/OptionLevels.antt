-- The level for each crate, by the options of an upgrade.
use Rattle.edit_version.specs.Levels.{CrateBounds, level_for}
use Rattle.edit_upgrade.specs.declared.decision.options.Options.{Options}

-- the level for the crate of a name: its own, where the options have one, else the one for all crates
unfoldable pub level_in : Options → CrateBounds
level_in o name = level_for o.level o.crate_levels.items name
