-- The plan of `set-version`, as `plan_set_version` guarantees it.
use Rattle.std.specs.Prelude.{List, All}
use Rattle.edit_metadata.specs.Metadata.{WorkspaceModel}
use Rattle.edit_metadata.specs.declared.input.Input.{Input}
use Rattle.edit_set_version.specs.Bumps.{Target}
use Rattle.edit_set_version.specs.Chosen.{SelectionView}
use Rattle.edit_set_version.specs.Plan.{IsPlan}
use Rattle.edit_set_version.specs.Projects.{HasProject}
use Rattle.edit_set_version.specs.declared.plan.SetVersionPlan.{SetVersionPlan}
use Rattle.edit_version.specs.Laws.{IsReadable}

-- a plan of new versions for a workspace and its inputs
pub record IsVersionPlan (t : Target) (a : SelectionView) (w : WorkspaceModel) (inputs : List Input)
    (plan : SetVersionPlan) : Type 0 where
  -- the versions of the packages can be parsed
  pub readable : All (λ p. IsReadable p.version) w.packages
  -- outputs and lines are those of one project
  pub is : HasProject w inputs (IsPlan t a inputs plan)
