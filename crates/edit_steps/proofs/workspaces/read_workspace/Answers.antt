use Rattle.std.specs.Prelude.{option_map}
use Rattle.edit_metadata.specs.Workspaces.{workspace_view}
use Rattle.edit_version.specs.RustVersions.{numbers_of}
use Rattle.edit_steps.proofs.ErrorFields.{failure_has}
use Rattle.edit_steps.proofs.WorkspaceLemmas.{is_read, manifest_before, metadata_cause, own_paths}
use Rattle.edit_base.specs.declared.errors.DeviceCall.TheVariants as call
use Rattle.edit_steps.proofs.ErrorLemmas.{inputs_error, only_before, only_on, wider}
use Rattle.edit_steps.specs.Errors.{IsMetadataError, IsWorkspaceError}
use Rattle.edit_metadata.specs.Inputs.{manifests}
use Rattle.edit_store.specs.Store.{IsCallError}
use Rattle.std.proofs.Common.{inl}
use Rattle.edit_steps.proofs.workspaces.read_workspace.Goals as goal

pub returns-clause-workspace : goal.returns-clause-workspace
returns-clause-workspace g c =
    is_read (record { given = option_map numbers_of c.args.rust_version; ignored = c.args.ignore })
    (g.S.Store.view c.args.files.now) (g.S.Store.view c.read_metadata.new.files) c.args.current.now
    c.args.named.now (workspace_view c.in_ok-workspace.workspace) c.in-Ok.inputs.items
    c.in_ok-workspace.ensures.reads c.in_ok-workspace.ensures.metadata c.in-Ok.ensures.inputs
    c.in-Ok.ensures.bytes

pub returns-clause-paths : goal.returns-clause-paths
returns-clause-paths g c =
    own_paths (record { given = option_map numbers_of c.args.rust_version; ignored = c.args.ignore })
    (workspace_view c.in_ok-workspace.workspace) c.in-Ok.inputs.items
    c.in_ok-workspace.ensures.folders c.in-Ok.ensures.inputs

pub returns-in_err-workspace-clause-error : goal.returns-in_err-workspace-clause-error
returns-in_err-workspace-clause-error g c =
    failure_has c.from_residual.result c.in_err-workspace.field-0.0 _ c.from_residual.ensures.1
    (metadata_cause (g.S.Store.view c.args.files.now) (g.S.Store.view c.read_metadata.new.files)
    c.args.current.now c.args.named.now
    c.in_err-workspace.field-0.0.error c.in_err-workspace.ensures.error)

pub returns-in-Err-clause-error : goal.returns-in-Err-clause-error
returns-in-Err-clause-error g c =
    manifest_before (g.S.Store.view c.args.files.now) (g.S.Store.view c.read_metadata.new.files)
    (g.S.Store.view c.workspace_inputs.new.store) (g.S.Store.view c.at_manifest.new.files)
    c.args.current.now c.args.named.now (workspace_view c.in_ok-workspace.workspace) c.in-Err.error
    c.at_manifest.result.error c.in_ok-workspace.ensures.reads c.at_manifest.ensures.reads
    c.at_manifest.ensures.counted c.at_manifest.ensures.same c.in_ok-workspace.ensures.metadata
    c.in-Err.ensures.error

pub returns-in_err-workspace-clause-only : goal.returns-in_err-workspace-clause-only
returns-in_err-workspace-clause-only g c =
    let e = c.in_err-workspace.field-0.0.error in
    failure_has c.from_residual.result c.in_err-workspace.field-0.0 _ c.from_residual.ensures.1
    (wider (IsCallError call.Read (g.S.Store.view c.args.files.now)
    (g.S.Store.view c.read_metadata.new.files) e) (IsMetadataError e) (IsWorkspaceError e)
    (λ unsaid. inl unsaid) c.in_err-workspace.ensures.only)

pub returns-in-Err-clause-only : goal.returns-in-Err-clause-only
returns-in-Err-clause-only g c =
    let mid = g.S.Store.view c.read_metadata.new.files in
    let read = g.S.Store.view c.workspace_inputs.new.store in
    let e = c.in-Err.error in
    only_before call.Read (g.S.Store.view c.args.files.now) read (g.S.Store.view c.at_manifest.new.files)
    e c.at_manifest.result.error IsWorkspaceError c.at_manifest.ensures.reads c.at_manifest.ensures.counted
    c.at_manifest.ensures.same
    (only_on call.Read (g.S.Store.view c.args.files.now) mid read e (IsWorkspaceError e) (IsWorkspaceError e)
    c.in_ok-workspace.ensures.reads (λ same. same)
    (inputs_error mid read (manifests (workspace_view c.in_ok-workspace.workspace)) e
    c.in-Err.ensures.error))
