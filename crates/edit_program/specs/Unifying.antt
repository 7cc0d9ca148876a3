-- A plan with one requirement for each crate of a registry in each compatible range.
use Rattle.std.specs.Prelude.{◌≡◌, ℕ, Bool, List, [], Option, false, true}
use Rattle.std.specs.Global.{Vec}
use Rattle.edit_metadata.specs.declared.input.Input.{Input}
use Rattle.edit_sources.specs.declared.config.Config.{Config}
use Rattle.edit_upgrade.specs.Lists.{HasRowLists}
use Rattle.edit_upgrade.specs.Revisions.{HasRevisedOutputs, HasRowAddresses}
use Rattle.edit_upgrade.specs.declared.upgrade.UpgradePlan.{UpgradePlan}
use Rattle.edit_unify.specs.Unified.{AreUnified, HasOneText}
use Rattle.edit_version.specs.Levels.{CrateBounds}

-- the plan after another one, with the addresses of the registries of its rows: each row has the highest
-- requirement of those that require its crate in its range, so that these have one text; the outputs and
-- lists of names are those of the rows, all else stays
pub record IsUnifiedOver (level : CrateBounds) (inputs : List Input) (configs : List (Vec Config))
    (single p : UpgradePlan) (addresses : List (Option (List ℕ))) : Type 0 where
  pub are : HasRowAddresses inputs configs addresses
  pub rows : AreUnified level addresses single.rows.items p.rows.items
  pub one : HasOneText level addresses p.rows.items
  pub outputs : HasRevisedOutputs inputs p.rows.items p.outputs.items
  pub lists : HasRowLists p
  pub looks : p.looks ≡ single.looks
  pub warnings : p.warnings ≡ single.warnings
  pub missing : p.missing ≡ single.missing

-- a unified plan where that is requested, else the same one and no addresses
abbrev pub IsUnifiedOrSame : Bool → CrateBounds → List Input → List (Vec Config) → UpgradePlan → UpgradePlan
    → List (Option (List ℕ)) → Type 0
IsUnifiedOrSame true level inputs configs single p addresses =
    IsUnifiedOver level inputs configs single p addresses
IsUnifiedOrSame false level inputs configs single p addresses = (p ≡ single) × (addresses ≡ [])
