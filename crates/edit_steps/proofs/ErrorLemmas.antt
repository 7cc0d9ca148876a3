-- The errors of a step of reading, from those of its parts.
use Rattle.std.proofs.Common.{◌≡◌, ◌∙◌, ℕ, ◌<◌, ◌^◌, List, Bor, Option, Some, None, ap, arith, inl, inr, sym, subst, ⊎_elim}
use Rattle.std.specs.Prelude.{◌⊎◌}
use Rattle.std.proofs.Math.Nat.{eq-or-lt_of_le}
use Rattle.edit_base.specs.Errors.{IsMemory, number_of}
use Rattle.edit_base.specs.declared.errors.DeviceCall.{DeviceCall}
use Rattle.edit_base.specs.declared.errors.DeviceCall.TheVariants as call
use Rattle.edit_base.specs.declared.errors.Error.{Error}
use Rattle.edit_manifest.specs.Located.{NamesStart}
use Rattle.edit_metadata.specs.Inputs.{IsNoInput, ManifestModel}
use Rattle.edit_metadata.specs.Workspaces.{IsNoWorkspace}
use Rattle.edit_sources.specs.ConfigurationFiles.{ConfigsFail, HasFailed, IsBadConfig}
use Rattle.edit_sources.specs.Configured.{given}
use Rattle.edit_store.specs.Store.{OnlyReads, IsCallError, StoreView, IsRaisedCount}
use Rattle.edit_steps.proofs.ReadLemmas.{refused_before, refused_on, unread_there}
use Rattle.edit_steps.specs.RequestView.{RequestView}
use Rattle.edit_steps.specs.Causes.{IsFailure}
use Rattle.edit_steps.specs.Errors.{IsConfigError, IsManifestError, IsMetadataError, IsSourceError, IsTargetError, IsWorkspaceError}
use Rattle.edit_steps.specs.Faults.{CountsFault}
use Rattle.edit_steps.specs.Named.{IsUnreadFile, PathAndBytes}

-- ---- steps behind each other

-- an error of a step is one of the same step behind earlier reads
pub only_on : (of : DeviceCall) (old mid new : StoreView) (e : Error) (P Q : Type 0) → OnlyReads old mid
    → (P → Q) → IsCallError of mid new e ⊎ P → IsCallError of old new e ⊎ Q
only_on of old mid new e P Q reads wider (inl refused) = inl (refused_on of old mid new e reads refused)
only_on of old mid new e P Q reads wider (inr error) = inr (wider error)

-- an error of a step is one of the same step before later reads
pub only_before : (of : DeviceCall) (old mid new : StoreView) (e seen : Error) (P : Error → Type 0)
    → OnlyReads mid new → new.faults < 2 ^ 64 → seen ≡ e → IsCallError of old mid e ⊎ P e
    → IsCallError of old new seen ⊎ P seen
only_before of old mid new e seen P reads bound same why =
    subst (λ x. IsCallError of old new x ⊎ P x) (sym same) (later why)
  where
    later : IsCallError of old mid e ⊎ P e → IsCallError of old new e ⊎ P e
    later (inl refused) = inl (refused_before of old mid new e reads bound refused)
    later (inr error) = inr error

-- more errors are possible in a larger step
pub wider : (F P Q : Type 0) → (P → Q) → F ⊎ P → F ⊎ Q
wider F P Q more (inl failed) = inl failed
wider F P Q more (inr error) = inr (more error)

-- a failure of the device is counted, also behind earlier reads
pub counted_on : (old mid new : StoreView) (e : Error) → OnlyReads old mid → CountsFault mid new e
    → CountsFault old new e
counted_on old mid new e reads counted is = raised_on (counted is)
  where
    raised_on : IsRaisedCount mid.faults new.faults → IsRaisedCount old.faults new.faults
    raised_on (inl lt) = inl (omega (arith, reads.later, lt))
    raised_on (inr ends) = ⊎_elim (λ same. inr (same ∙ ends.0, ends.1))
        (λ lt. inl (omega (arith, lt, ends.0, ends.1))) (eq-or-lt_of_le reads.later)

-- errors of configurations are counted where they are failures of the device
pub config_counted : (old new : StoreView) (e : Error) → IsCallError call.Read old new e ⊎ IsConfigError e
    → CountsFault old new e
config_counted old new e (inl (inl memory)) is = absurd (omega (arith, memory, is))
config_counted old new e (inl (inr failed)) is = failed.1
config_counted old new e (inr (path, (named, config, at))) is =
    let other : number_of e ≡ 31 = ap number_of config in absurd (omega (arith, other, is))

-- ---- parts

-- malformed metadata, or members that share a folder
pub unsaid_error : (old new : StoreView) (bytes : List ℕ) (e seen : Error) → seen ≡ e → IsNoWorkspace bytes e
    → IsCallError call.Read old new seen ⊎ IsMetadataError seen
unsaid_error old new bytes e seen same why =
    subst (λ x. IsCallError call.Read old new x ⊎ IsMetadataError x) (sym same) (error why)
  where
    error : IsNoWorkspace bytes e → IsCallError call.Read old new e ⊎ IsMetadataError e
    error (inl memory) = inl (inl memory)
    error (inr (inl (is, nothing))) = inr (inr (inl is))
    error (inr (inr twice)) = inr (inr (inr (twice.shared.folder, twice.shared.names)))

-- manifests of a workspace that do not exist
pub inputs_error : (old new : StoreView) (ms : List ManifestModel) (e : Error) → IsNoInput old new ms e
    → IsCallError call.Read old new e ⊎ IsWorkspaceError e
inputs_error old new ms e (inl refused) = inl refused
inputs_error old new ms e (inr (is, lack)) = inr (inr is)

-- no manifest is found
pub unfound_error : (old new : StoreView) (current : List ℕ) (named : Option (List ℕ)) (e : Error)
    → IsCallError call.Kind old new e ⊎ NamesStart current named e
    → IsFailure old new e ⊎ IsManifestError current named e
unfound_error old new current named e (inl refused) = inl (inl refused)
unfound_error old new current named e (inr names) = inr (inl names)

-- a malformed configuration file
unread_error : (file : PathAndBytes) (e : Error) → IsBadConfig file e → IsConfigError e
unread_error file e unread = (file.0, unread.named)

-- a malformed configuration file of a manifest, or one that is named
pub config_error : (old mid new : StoreView) (home : Option (List ℕ)) (first last : Option PathAndBytes)
    (path : List ℕ) (e : Error) → OnlyReads old mid
    → IsMemory e ⊎ (HasFailed mid.faults new.faults e ⊎ (IsUnreadFile first e
    ⊎ (IsUnreadFile last e ⊎ ConfigsFail mid.tells mid.file_at path home e)))
    → IsCallError call.Read old new e ⊎ IsConfigError e
config_error old mid new home first last path e reads (inl memory) = inl (inl memory)
config_error old mid new home first last path e reads (inr (inl failed)) =
    inl (refused_on call.Read old mid new e reads (inr (failed.is, failed.counted)))
config_error old mid new home first last path e reads (inr (inr (inl unread))) =
    let (there, is, why) = unread_there first e unread in inr (unread_error there e why)
config_error old mid new home first last path e reads (inr (inr (inr (inl unread)))) =
    let (there, is, why) = unread_there last e unread in inr (unread_error there e why)
config_error old mid new home first last path e reads (inr (inr (inr (inr wrong)))) =
    inr (wrong.fails.fails.path, wrong.fails.fails.named)

-- ---- the manifests to plan for

-- without metadata the error is that of the manifest
pub manifest_target : (old new : StoreView) (current : List ℕ) (metadata : Option (Bor (List ℕ)))
    (named : Option (List ℕ)) (e : Error) → metadata ≡ None
    → IsFailure old new e ⊎ IsManifestError current named e
    → IsFailure old new e ⊎ IsTargetError current (given metadata) named e
manifest_target old new current metadata named e none why =
    subst (λ m. IsFailure old new e ⊎ IsTargetError current (given m) named e) (sym none) why

-- with metadata the error is that of the workspace
pub workspace_target : (old new : StoreView) (current : List ℕ) (metadata : Option (Bor (List ℕ)))
    (at : Bor (List ℕ)) (named : Option (List ℕ)) (e : Error) → metadata ≡ Some at
    → IsCallError call.Read old new e ⊎ IsWorkspaceError e
    → IsFailure old new e ⊎ IsTargetError current (given metadata) named e
workspace_target old new current metadata at named e some why =
    subst (λ m. IsFailure old new e ⊎ IsTargetError current (given m) named e) (sym some) (error why)
  where
    error : IsCallError call.Read old new e ⊎ IsWorkspaceError e
        → IsFailure old new e ⊎ IsTargetError current (Some at.now) named e
    error (inl refused) = inl (inr refused)
    error (inr wrong) = inr wrong

-- ---- all that an upgrade rests on

-- an error of a later part of the reading
pub part_error : (old mid new : StoreView) (current : List ℕ) (asking : RequestView) (e : Error) (P : Type 0)
    → OnlyReads old mid → (P → IsSourceError current asking e) → IsCallError call.Read mid new e ⊎ P
    → IsFailure old new e ⊎ IsSourceError current asking e
part_error old mid new current asking e P reads more (inl refused) =
    inl (inr (refused_on call.Read old mid new e reads refused))
part_error old mid new current asking e P reads more (inr error) = inr (more error)
