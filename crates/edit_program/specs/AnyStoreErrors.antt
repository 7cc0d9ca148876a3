-- The errors that a subcommand may return over any store, besides out of memory, device errors and failed
-- prints (own).
use Rattle.std.specs.Prelude.{◌⊎◌, ℕ, List}
use Rattle.std.specs.Global.{Vec}
use Rattle.edit_base.specs.declared.errors.Error.{Error}
use Rattle.edit_metadata.specs.Metadata.{WorkspaceModel}
use Rattle.edit_metadata.specs.declared.input.Input.{Input}
use Rattle.edit_set_version.specs.Bumps.{target_of}
use Rattle.edit_set_version.specs.PlanRefused.{IsCauseOf}
use Rattle.edit_set_version.specs.Selections.{selection_view}
use Rattle.edit_sources.specs.declared.config.Config.{Config}
use Rattle.edit_steps.specs.Errors.{IsSourceError, IsWorkspaceError}
use Rattle.edit_upgrade.specs.declared.decision.options.Options.{Options}
use Rattle.edit_program.specs.NoIndex.{no_view}
use Rattle.edit_program.specs.Planned.{IsPlanCause, to_request}
use Rattle.edit_program.specs.declared.set_version_run.set_version_args.SetVersionArgs.{SetVersionArgs}
use Rattle.edit_program.specs.declared.upgrade_run.upgrade_args.UpgradeArgs.{UpgradeArgs}

-- the plan of `set-version` fails with this error for some workspace and its manifests
pub record IsVersionPlanError (args : SetVersionArgs) (e : Error) : Type 0 where
  pub workspace : WorkspaceModel
  pub inputs : List Input
  pub cause : IsCauseOf (target_of args.target) (selection_view args.selection) workspace inputs e

-- an error of `set-version`: that of reading the metadata and their manifests, or that of the plan
abbrev pub IsVersionError : SetVersionArgs → Error → Type 0
IsVersionError args e = IsWorkspaceError e ⊎ IsVersionPlanError args e

-- the plan of `looks`, which has an empty index, fails with this error for some manifests and their
-- configurations
pub record IsLookupPlanError (options : Options) (e : Error) : Type 0 where
  pub inputs : List Input
  pub configs : List (Vec Config)
  pub cause : IsPlanCause options inputs configs no_view e

-- an error of `looks`: that of reading the manifests and configurations, or that of the plan
abbrev pub IsLookupsError : UpgradeArgs → List ℕ → Error → Type 0
IsLookupsError args current e =
    IsSourceError current (to_request args) e ⊎ IsLookupPlanError args.options e
