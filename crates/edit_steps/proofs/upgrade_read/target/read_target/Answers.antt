use Rattle.std.proofs.Common.{option_map}
use Rattle.edit_steps.proofs.ErrorFields.{failure_has}
use Rattle.edit_version.specs.RustVersions.{numbers_of}
use Rattle.edit_steps.proofs.TargetLemmas.{found_read, members_read, workspace_cause, manifest_cause}
use Rattle.edit_steps.proofs.ErrorLemmas.{manifest_target, workspace_target}
use Rattle.edit_sources.specs.Configured.{given}
use Rattle.edit_steps.proofs.upgrade_read.target.read_target.Goals as goal

pub returns-in_default-clause-read : goal.returns-in_default-clause-read
returns-in_default-clause-read g c =
    λ t. found_read (g.S.Store.view c.args.files.now).file_at c.args.current.now c.args.request.now
    c.in_ok-manifest.manifest.input c.in_ok-target_of_manifest.field-0 c.in_default.is c.in_ok-target_of_manifest.ensures.workspace
    c.in_ok-target_of_manifest.ensures.inputs (c.in_ok-manifest.ensures.read t)

pub returns-in_err-read-clause-error : goal.returns-in_err-read-clause-error
returns-in_err-read-clause-error g c =
    failure_has c.from_residual-in_err-read.result c.in_err-read.field-0.0 _
    c.from_residual-in_err-read.ensures.1
    (workspace_cause (g.S.Store.view c.args.files.now) (g.S.Store.view c.read_workspace.new.files)
    c.args.current.now c.args.request.now c.in-Some.named c.in_err-read.field-0.0.error c.in-Some.is
    c.in_err-read.ensures.error)

pub returns-clause-read : goal.returns-clause-read
returns-clause-read g c =
    λ t. members_read (g.S.Store.view c.args.files.now).file_at c.args.current.now c.args.request.now
    c.in-Some.named c.in_ok-read.read.workspace c.in_ok-read.read.inputs.items
    (option_map numbers_of c.given_version-given.result) c.is_ignored-ignored.result c.in-Some.is
    c.given_version-given.ensures c.is_ignored-ignored.ensures (c.in_ok-read.ensures.workspace t)

pub returns-in_err-manifest-clause-only : goal.returns-in_err-manifest-clause-only
returns-in_err-manifest-clause-only g c =
    failure_has c.from_residual.result c.in_err-manifest.field-0.0 _ c.from_residual.ensures.1
    (manifest_target (g.S.Store.view c.args.files.now) (g.S.Store.view c.read_manifest.new.files)
    c.args.current.now c.args.request.now.metadata_json (given c.args.request.now.manifest_path)
    c.in_err-manifest.field-0.0.error c.in_default.is c.in_err-manifest.ensures.only)

pub returns-in_err-read-clause-only : goal.returns-in_err-read-clause-only
returns-in_err-read-clause-only g c =
    failure_has c.from_residual-in_err-read.result c.in_err-read.field-0.0 _
    c.from_residual-in_err-read.ensures.1
    (workspace_target (g.S.Store.view c.args.files.now) (g.S.Store.view c.read_workspace.new.files)
    c.args.current.now c.args.request.now.metadata_json c.in-Some.named (given c.args.request.now.manifest_path)
    c.in_err-read.field-0.0.error c.in-Some.is c.in_err-read.ensures.only)

pub returns-in_err-manifest-clause-error : goal.returns-in_err-manifest-clause-error
returns-in_err-manifest-clause-error g c =
    failure_has c.from_residual.result c.in_err-manifest.field-0.0 _ c.from_residual.ensures.1
    (manifest_cause (g.S.Store.view c.args.files.now) (g.S.Store.view c.read_manifest.new.files)
    c.args.current.now c.args.request.now c.in_err-manifest.field-0.0.error c.in_default.is
    c.in_err-manifest.ensures.error)
