use Rattle.std.proofs.Common.{◌≡◌, Result, Ok, Err, ⊎_elim, inl, inr, sym, ◌∙◌, subst}
use Rattle.std.specs.Prelude.{◌⊎◌, IfErr, MatchResult}
use Rattle.serde_json.specs.View.{view}
use Rattle.edit_base.specs.Errors.{IsMemory}
use Rattle.edit_base.specs.declared.errors.Error.{Error}
use Rattle.edit_base.specs.declared.errors.Error.TheVariants.{Metadata}
use Rattle.edit_metadata.specs.Metadata.{IsWorkspaceValue}
use Rattle.edit_metadata.specs.Reading.{IsReadingError}
use Rattle.edit_metadata.specs.Workspaces.{HaveNoWorkspace, workspace_view}
use Rattle.edit_metadata.specs.declared.workspace.Workspace.{Workspace}
use Rattle.edit_metadata.proofs.Values.{some-same}
use Rattle.edit_metadata.proofs.workspace.read_by_tree.Goals as goal

err-as : {T : Type 0} (r : Result T Error) (P : T → Type 0) (Q R : Error → Type 0) → ((e : Error) → Q e → R e)
    → MatchResult r P Q → IfErr r R
err-as (Ok x) P Q R other h = tt
err-as (Err e) P Q R other h = other e h

pub returns-in-Ok-clause-error : goal.returns-in-Ok-clause-error
returns-in-Ok-clause-error c =
    let d = view c.in-Ok.value in
    err-as c.workspace_from_value.result (λ (w : Workspace). IsWorkspaceValue d (workspace_view w))
    (IsReadingError (IsWorkspaceValue d)) (λ e. IsMemory e ⊎ ((e ≡ Metadata) × HaveNoWorkspace c.args.json.now))
    (λ e. ⊎_elim (λ memory. inl memory) (λ unsaid. inr (
      unsaid.0,
      λ w are. unsaid.1 w (subst (λ v. IsWorkspaceValue v w) (some-same are.value d
          (sym are.reads ∙ c.in-Ok.ensures.ok.1)) are.says),
    )))
    c.workspace_from_value.ensures
