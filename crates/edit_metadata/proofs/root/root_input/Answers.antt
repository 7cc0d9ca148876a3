use Rattle.std.proofs.Common.{List, subst, sym, ℕ}
use Rattle.edit_base.specs.Paths.{IsNormalOf}
use Rattle.edit_metadata.specs.Inputs.{root_manifest}
use Rattle.edit_metadata.specs.Workspaces.{workspace_view}
use Rattle.edit_metadata.proofs.root.root_input.Goals as goal

pub returns-clause-root : goal.returns-clause-root
returns-clause-root c =
    let root = root_manifest (workspace_view c.in-Some.workspace.now) in
    rw c.in-Some.is (
      c.as_str.result.now,
      subst (λ (path : List ℕ). IsNormalOf root.path path) (sym c.as_str.ensures.value)
          c.in_ok-path.ensures.path,
      c.input_at.ensures,
    )
