use Rattle.std.proofs.Common.{subst, sym}
use Rattle.edit_base.specs.Paths.{IsNormalOf}
use Rattle.edit_metadata.specs.Inputs.{root_manifest}
use Rattle.edit_metadata.specs.Workspaces.{workspace_view}
use Rattle.edit_set_version.proofs.ProjectRoot.{root_among}
use Rattle.edit_set_version.proofs.project.project_of.Goals as goal

pub root_at-root-requires-clause-among : goal.root_at-root-requires-clause-among
root_at-root-requires-clause-among c =
    let w = workspace_view c.args.workspace.now in
    root_among w c.args.inputs.now c.as_str.result.now c.requires.inputs
    (subst (IsNormalOf (root_manifest w).path) (sym c.as_str.ensures.value) c.in_ok-path.ensures.path)
