-- The plan that is carried out: unified and restricted to chosen rows, as requested.
use Rattle.std.specs.Prelude.{◌≡◌, ℕ, List, Option, String, map, string_bytes}
use Rattle.std.specs.Global.{Vec}
use Rattle.std.specs.declared.alloc.Global.{Global}
use Rattle.edit_base.specs.declared.errors.Error.{Error}
use Rattle.edit_metadata.specs.declared.input.Input.{Input}
use Rattle.edit_sources.specs.declared.config.Config.{Config}
use Rattle.edit_upgrade.specs.OptionLevels.{level_in}
use Rattle.edit_upgrade.specs.declared.upgrade.UpgradePlan.{UpgradePlan}
use Rattle.edit_unify.specs.Apart.{AreNames, apart_names}
use Rattle.edit_unify.specs.Stands.{stands_of}
use Rattle.edit_program.specs.Choosing.{HasMissingRow, IsChosenOrSame}
use Rattle.edit_program.specs.Unifying.{IsUnifiedOrSame}
use Rattle.edit_program.specs.declared.upgrade_run.upgrade_args.UpgradeArgs.{UpgradeArgs}

-- the names are those of the crates that the plan leaves in more than one compatible range
abbrev pub AreApart : List (Option (List ℕ)) → UpgradePlan → List (List ℕ) → Type 0
AreApart addresses p names = (found : List (String Global)) × (names ≡ map string_bytes found)
    × AreNames (apart_names (stands_of addresses p.rows.items)) found

-- the plan that is carried out, after the plan of each entry by itself, and the crates that it leaves in more
-- than one compatible range, none where it is not unified
pub record IsRevised (args : UpgradeArgs) (inputs : List Input) (configs : List (Vec Config))
    (single p : UpgradePlan) (apart : List (List ℕ)) : Type 0 where
  pub unified : UpgradePlan
  pub addresses : List (Option (List ℕ))
  pub unifies : IsUnifiedOrSame args.unify (level_in args.options) inputs configs single unified addresses
  pub chosen : IsChosenOrSame args.rows inputs unified p
  pub names : AreApart addresses p apart

-- a row is chosen that the unified plan has not
pub record IsRevisionError (args : UpgradeArgs) (inputs : List Input) (configs : List (Vec Config))
    (single : UpgradePlan) (e : Error) : Type 0 where
  pub unified : UpgradePlan
  pub addresses : List (Option (List ℕ))
  pub unifies : IsUnifiedOrSame args.unify (level_in args.options) inputs configs single unified addresses
  pub missing : HasMissingRow args.rows unified.rows.items e
