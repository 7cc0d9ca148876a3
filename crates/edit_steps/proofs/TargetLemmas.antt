-- The manifests to plan for, from what was read of them.
use Rattle.std.proofs.Common.{◌≡◌, ◌∷◌, [], ℕ, Bool, Bor, List, Option, Some, None, ap, inl, inr, subst, sym, true}
use Rattle.std.specs.Prelude.{◌⊎◌}
use Rattle.edit_base.specs.declared.errors.DeviceCall.TheVariants as call
use Rattle.edit_base.specs.declared.errors.Error.{Error}
use Rattle.edit_metadata.specs.Inputs.{RustOptions}
use Rattle.edit_metadata.specs.Workspaces.{workspace_view}
use Rattle.edit_metadata.specs.declared.input.Input.{Input}
use Rattle.edit_metadata.specs.declared.workspace.Workspace.{Workspace}
use Rattle.edit_sources.specs.Configured.{given}
use Rattle.edit_steps.specs.Workspaces.{HasNoWorkspace, IsWorkspaceRead}
use Rattle.edit_store.specs.Store.{Files, IsCallError, StoreView}
use Rattle.edit_version.specs.RustVersions.{Numbers}
use Rattle.edit_steps.specs.RequestView.{rust_request, request_view}
use Rattle.edit_steps.specs.Causes.{HasNoTarget, IsFailure, IsManifestCause}
use Rattle.edit_steps.specs.Causes.HasNoTarget.{no_manifest, no_workspace}
use Rattle.edit_steps.specs.Own.{IsManifestRead}
use Rattle.edit_steps.specs.Sources.{AreInputsRead, IsTargetRead}
use Rattle.edit_steps.specs.Sources.AreInputsRead.{found, members}
use Rattle.edit_steps.specs.declared.upgrade_read.source_request.SourceRequest.{SourceRequest}
use Rattle.edit_steps.specs.declared.upgrade_read.source_request.RustChoice.{RustChoice}
use Rattle.edit_steps.specs.declared.upgrade_read.source_request.RustChoice.TheVariants.{Given, Ignored, Own}
use Rattle.edit_steps.specs.declared.upgrade_read.target.Target.{Target}

-- the manifest that is found
pub found_read : (files : Files) (current : List ℕ) (request : SourceRequest) (m : Input) (t : Target)
    → request.metadata_json ≡ None → t.workspace ≡ None → t.inputs.items ≡ m ∷ []
    → IsManifestRead files current (given request.manifest_path) (rust_request request.rust) m
    → IsTargetRead files current (request_view request) t
found_read files current request m t none alone one read =
    subst (λ (w : Option Workspace). AreInputsRead files current (request_view request) w t.inputs.items) (sym alone)
    (subst (λ (is : List Input). AreInputsRead files current (request_view request) None is) (sym one)
    (found m (ap given none) read))

same_rust : (choice : RustChoice) (g : Option Numbers) (i : Bool) → g ≡ (rust_request choice).given
    → i ≡ (rust_request choice).ignored → (P : RustOptions → Type 0) → P (record { given = g; ignored = i })
    → P (rust_request choice)
same_rust Own g i same same_ignored P h =
    subst (λ (b : Bool). P (record { given = (rust_request Own).given; ignored = b })) same_ignored
    (subst (λ (o : Option Numbers). P (record { given = o; ignored = i })) same h)
same_rust Ignored g i same same_ignored P h =
    subst (λ (b : Bool). P (record { given = (rust_request Ignored).given; ignored = b })) same_ignored
    (subst (λ (o : Option Numbers). P (record { given = o; ignored = i })) same h)
same_rust (Given v) g i same same_ignored P h =
    subst (λ (b : Bool). P (record { given = (rust_request (Given v)).given; ignored = b })) same_ignored
    (subst (λ (o : Option Numbers). P (record { given = o; ignored = i })) same h)

-- those of the workspace that is named
pub members_read : (files : Files) (current : List ℕ) (request : SourceRequest) (named : Bor (List ℕ)) (w : Workspace)
    (inputs : List Input) (g : Option Numbers) (i : Bool) → request.metadata_json ≡ Some named
    → g ≡ (rust_request request.rust).given → i ≡ (rust_request request.rust).ignored
    → IsWorkspaceRead files current named.now (record { given = g; ignored = i }) (workspace_view w) inputs
    → AreInputsRead files current (request_view request) (Some w) inputs
members_read files current request named w inputs g i some same same_ignored read =
    members named.now w inputs (ap given some)
    (same_rust request.rust g i same same_ignored
    (λ a. IsWorkspaceRead files current named.now a (workspace_view w) inputs) read)

-- a workspace that is not read
pub workspace_cause : (old new : StoreView) (current : List ℕ) (request : SourceRequest) (named : Bor (List ℕ))
    (e : Error) → request.metadata_json ≡ Some named
    → IsCallError call.Read old new e ⊎ (old.tells ≡ true → HasNoWorkspace old.file_at current named.now e)
    → IsFailure old new e ⊎ (old.tells ≡ true → HasNoTarget old.file_at current (request_view request) e)
workspace_cause old new current request named e some (inl refused) = inl (inr refused)
workspace_cause old new current request named e some (inr wrong) =
    inr (λ t. no_workspace named.now (ap given some) (wrong t))

-- a manifest that is not read
pub manifest_cause : (old new : StoreView) (current : List ℕ) (request : SourceRequest) (e : Error)
    → request.metadata_json ≡ None
    → IsFailure old new e ⊎ (old.tells ≡ true
    → IsManifestCause old.file_at current (given request.manifest_path) e)
    → IsFailure old new e ⊎ (old.tells ≡ true → HasNoTarget old.file_at current (request_view request) e)
manifest_cause old new current request e none (inl failed) = inl failed
manifest_cause old new current request e none (inr wrong) = inr (λ t. no_manifest (ap given none) (wrong t))
