-- Plans of new versions (own, after cargo-edit).
use Rattle.std.specs.Prelude.{◌≡◌, List, All}
use Rattle.edit_metadata.specs.declared.input.Input.{Input}
use Rattle.edit_version.specs.Laws.{IsReadable}
use Rattle.edit_set_version.specs.Bumps.{IsReadableTarget, Target}
use Rattle.edit_set_version.specs.Chosen.{SelectionView}
use Rattle.edit_set_version.specs.PlanLines.{changes, lines}
use Rattle.edit_set_version.specs.PlanRefused.{IsClear}
use Rattle.edit_set_version.specs.Planned.{HasAdmitted, HasSetOutputs, OutputsInOrder, has_lines, plan_changes_view, plan_lines_view}
use Rattle.edit_set_version.specs.SetVersioned.{Project}
use Rattle.edit_set_version.specs.declared.plan.SetVersionPlan.{SetVersionPlan}

-- the plan is correct for this target and selection, over a project and its inputs
pub record IsPlan (t : Target) (a : SelectionView) (inputs : List Input) (plan : SetVersionPlan) (p : Project)
    : Type 0 where
  -- into each input the literals of its bumped versions and of its requirements on bumped crates are written,
  -- and no other byte
  pub outputs : All (HasSetOutputs t a plan.outputs.items p) inputs
  pub in_order : OutputsInOrder inputs plan.outputs.items
  pub lines : plan_lines_view plan ≡ lines t a p
  pub changes : plan_changes_view plan ≡ changes t a p
  pub changed : plan.changed ≡ has_lines plan
  -- nothing is an error: no unknown name, excluded member, rejected version, missing literal, or
  -- requirement that cannot be raised
  pub clear : IsClear t a inputs p
  -- after the plan, each requirement on a bumped crate admits the crate's next version
  pub admits : IsReadableTarget t → All (λ m. IsReadable m.version) p.members
      → All (HasAdmitted t a plan.outputs.items p) inputs
