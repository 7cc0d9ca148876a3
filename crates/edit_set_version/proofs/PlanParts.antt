-- The parts of the definition of a plan of new versions.
use Rattle.std.proofs.Common.{◌≡◌, List, Ok, Err}
use Rattle.std.specs.Prelude.{All, IfOk, Result}
use Rattle.edit_base.specs.declared.errors.Error.{Error}
use Rattle.edit_metadata.specs.Metadata.{PackageModel, WorkspaceModel}
use Rattle.edit_metadata.specs.declared.input.Input.{Input}
use Rattle.edit_version.specs.Laws.{IsReadable}
use Rattle.edit_set_version.specs.Bumps.{IsReadableTarget, Target}
use Rattle.edit_set_version.specs.Chosen.{SelectionView}
use Rattle.edit_set_version.specs.Plan.{IsPlan}
use Rattle.edit_set_version.specs.PlanLines.{lines}
use Rattle.edit_set_version.specs.PlanRefused.{IsClear}
use Rattle.edit_set_version.specs.Planned.{HasAdmitted, HasSetOutputs, OutputsInOrder, has_lines, plan_lines_view}
use Rattle.edit_set_version.specs.Projects.{HasProject}
use Rattle.edit_set_version.specs.SetVersioned.{Project}
use Rattle.edit_set_version.specs.declared.plan.SetVersionPlan.{SetVersionPlan}
use Rattle.edit_set_version.proofs.PlanLemmas.{readable_members}

-- the outputs
pub plan_outputs : (t : Target) (a : SelectionView) (w : WorkspaceModel) (is : List Input) (plan : SetVersionPlan)
    → HasProject w is (IsPlan t a is plan)
    → HasProject w is (λ (p : Project). All (HasSetOutputs t a plan.outputs.items p) is)
plan_outputs t a w is plan h = record { project = h.project; is = h.is; holds = h.holds.outputs }

-- their order
pub plan_in_order : (t : Target) (a : SelectionView) (w : WorkspaceModel) (is : List Input) (plan : SetVersionPlan)
    → HasProject w is (IsPlan t a is plan) → OutputsInOrder is plan.outputs.items
plan_in_order t a w is plan h = h.holds.in_order

-- the lines
pub plan_lines : (t : Target) (a : SelectionView) (w : WorkspaceModel) (is : List Input) (plan : SetVersionPlan)
    → HasProject w is (IsPlan t a is plan)
    → HasProject w is (λ (p : Project). plan_lines_view plan ≡ lines t a p)
plan_lines t a w is plan h = record { project = h.project; is = h.is; holds = h.holds.lines }

-- whether there are lines
pub plan_changed : (t : Target) (a : SelectionView) (w : WorkspaceModel) (is : List Input) (plan : SetVersionPlan)
    → HasProject w is (IsPlan t a is plan) → plan.changed ≡ has_lines plan
plan_changed t a w is plan h = h.holds.changed

-- nothing stands against it
pub plan_clear : (t : Target) (a : SelectionView) (w : WorkspaceModel) (is : List Input) (plan : SetVersionPlan)
    → HasProject w is (IsPlan t a is plan) → HasProject w is (IsClear t a is)
plan_clear t a w is plan h = record { project = h.project; is = h.is; holds = h.holds.clear }

-- what the requirements on bumped crates admit after it, where the versions of the packages can be read
pub plan_admits : (t : Target) (a : SelectionView) (w : WorkspaceModel) (is : List Input) (plan : SetVersionPlan)
    → HasProject w is (IsPlan t a is plan) → IsReadableTarget t
    → All (λ (q : PackageModel). IsReadable q.version) w.packages
    → HasProject w is (λ (p : Project). All (HasAdmitted t a plan.outputs.items p) is)
plan_admits t a w is plan h target readable = record {
  project = h.project;
  is = h.is;
  holds = h.holds.admits target (readable_members w is h.project h.is readable);
}

-- the order of the outputs, where a plan is given
pub plans_in_order : (t : Target) (a : SelectionView) (w : WorkspaceModel) (is : List Input)
    (r : Result SetVersionPlan Error)
    → IfOk r (λ (plan : SetVersionPlan). HasProject w is (IsPlan t a is plan))
    → IfOk r (λ (plan : SetVersionPlan). OutputsInOrder is plan.outputs.items)
plans_in_order t a w is (Ok plan) h = plan_in_order t a w is plan h
plans_in_order t a w is (Err e) h = tt
