-- The inputs of a workspace whose members have distinct folders, and files that were only read.
use Rattle.std.proofs.Common.{◌≡◌, ◌≢◌, ◌∙◌, ℕ, zero, suc, ◌<◌, ◌^◌, List, [], ◌∷◌, length, map, true, Some, ap, sym, subst, inl, inr, arith}
use Rattle.std.specs.Prelude.{◌⊎◌, All, Contains, slice_index_or, string_bytes}
use Rattle.std.specs.List.{AllZip}
use Rattle.std.proofs.lemmas.List.Elements.{All-cons, All-nil}
use Rattle.std.proofs.lemmas.List.Kept.{AllPairs-cons}
use Rattle.edit_base.specs.Paths.{IsFolderOf, IsNormalOf}
use Rattle.edit_base.specs.declared.errors.DeviceCall.TheVariants as call
use Rattle.edit_base.specs.declared.errors.Error.{Error}
use Rattle.edit_metadata.specs.Folders.{IsManifestFolder}
use Rattle.edit_metadata.specs.Inputs.{AreInputs, HaveOwnPaths, IsInputOf, IsNoInput, IsReadFrom, RustOptions, input_paths, manifest_of, manifests}
use Rattle.edit_metadata.specs.Inputs.AreInputs.{of_members, with_root}
use Rattle.edit_metadata.specs.Metadata.{PackageModel, WorkspaceModel, members}
use Rattle.edit_metadata.specs.Workspaces.{HasOwnFolders, IsNoWorkspace}
use Rattle.edit_metadata.specs.declared.input.Input.{Input}
use Rattle.edit_metadata.proofs.InputLemmas.{no-input-later}
use Rattle.edit_store.specs.Store.{Files, OnlyReads, IsCallError, StoreView}
use Rattle.edit_steps.specs.Absolute.{IsAbsoluteOf}
use Rattle.edit_steps.specs.Workspaces.{AreMetadataRead, HasNoMetadata, HasNoWorkspace, HasBadMetadataBytes, IsWorkspaceRead}
use Rattle.edit_steps.proofs.DistinctPaths.{Differ, first_differs, none_differ, others_differ}
use Rattle.edit_steps.proofs.NormalPaths.{one_folder, one_normal}
use Rattle.edit_steps.proofs.ReadLemmas.{refused_before}

-- ---- paths of inputs

-- the folder of a manifest is that of its normal path
folder_at : (path folder text : List ℕ) → IsManifestFolder path folder → IsNormalOf path text
    → IsFolderOf text folder
folder_at path folder text stands normal =
    subst (λ t. IsFolderOf t folder) (one_normal path stands.normal text stands.is_normal normal)
    stands.above

-- manifests in folders of their own have normal paths of their own
apart_paths : (p q f g s t : List ℕ) → f ≢ g → IsManifestFolder p f → IsManifestFolder q g
    → IsNormalOf p s → IsNormalOf q t → s ≢ t
apart_paths p q f g s t differ at_f at_g normal_s normal_t same =
    differ (one_folder t f g (subst (λ x. IsFolderOf x f) same (folder_at p f s at_f normal_s))
    (folder_at q g t at_g normal_t))

-- one from each of the others
from_others : (options : RustOptions) (p f s : List ℕ) → IsManifestFolder p f → IsNormalOf p s
    → (ps : List PackageModel) (folders : List (List ℕ)) (is : List Input)
    → AllZip IsManifestFolder (map (λ (q : PackageModel). q.manifest_path) ps) folders
    → AllZip (IsInputOf options) (map manifest_of ps) is
    → ((j : ℕ) (d : List ℕ) → j < length folders → f ≢ slice_index_or folders j d)
    → All (λ (i : Input). s ≢ string_bytes i.path) is
from_others options p f s at normal [] folders [] stand are apart = All-nil (λ i. s ≢ string_bytes i.path)
from_others options p f s at normal [] folders (i ∷ is) stand are apart = absurd are
from_others options p f s at normal (q ∷ qs) [] is stand are apart = absurd stand
from_others options p f s at normal (q ∷ qs) (g ∷ gs) [] stand are apart = absurd are
from_others options p f s at normal (q ∷ qs) (g ∷ gs) (i ∷ is) stand are apart =
    All-cons (λ (i : Input). s ≢ string_bytes i.path) i is
    (apart_paths p q.manifest_path f g s (string_bytes i.path) (apart zero g (omega arith)) at stand.0 normal
    are.0.path)
    (from_others options p f s at normal qs gs is stand.1 are.1
    (λ j d within. apart (suc j) d (omega (arith, within))))

members_apart : (options : RustOptions) (ps : List PackageModel) (folders : List (List ℕ)) (is : List Input)
    → AllZip IsManifestFolder (map (λ (q : PackageModel). q.manifest_path) ps) folders
    → AllZip (IsInputOf options) (map manifest_of ps) is → Differ folders → HaveOwnPaths is
members_apart options [] folders [] stand are differ =
    none_differ (λ (a b : Input). string_bytes a.path ≢ string_bytes b.path)
members_apart options [] folders (i ∷ is) stand are differ = absurd are
members_apart options (p ∷ ps) [] is stand are differ = absurd stand
members_apart options (p ∷ ps) (f ∷ fs) [] stand are differ = absurd are
members_apart options (p ∷ ps) (f ∷ fs) (i ∷ is) stand are differ =
    AllPairs-cons (λ (a b : Input). string_bytes a.path ≢ string_bytes b.path) i is
    (from_others options p.manifest_path f (string_bytes i.path) stand.0 are.0.path ps fs is stand.1 are.1
    (first_differs (λ a b. a ≢ b) f fs differ))
    (members_apart options ps fs is stand.1 are.1 (others_differ (λ a b. a ≢ b) f fs differ))

-- a path that no input has
none_has : (is : List Input) (path : List ℕ) → (Contains (input_paths is) path → ⊥)
    → All (λ (i : Input). path ≢ string_bytes i.path) is
none_has [] path none = All-nil (λ i. path ≢ string_bytes i.path)
none_has (i ∷ is) path none =
    All-cons (λ (i : Input). path ≢ string_bytes i.path) i is
    (λ same. none (zero, omega arith, sym same))
    (none_has is path (λ has. none (suc has.0, omega (arith, has.1), has.2)))

-- the inputs of a workspace have paths of their own
pub own_paths : (options : RustOptions) (w : WorkspaceModel) (is : List Input) → HasOwnFolders w
    → AreInputs options w is → HaveOwnPaths is
own_paths options w _ own (of_members root is are normal among) =
    members_apart options (members w.packages) own.folders is own.stand are own.apart
own_paths options w _ own (with_root i is are root none) =
    AllPairs-cons (λ (a b : Input). string_bytes a.path ≢ string_bytes b.path) i is
    (none_has is (string_bytes i.path) none)
    (members_apart options (members w.packages) own.folders is own.stand are own.apart)

-- ---- a workspace that was read

-- its metadata, and then its manifests
pub is_read : (options : RustOptions) (old mid : StoreView) (current named : List ℕ) (w : WorkspaceModel)
    (is : List Input) → OnlyReads old mid
    → (old.tells ≡ true → AreMetadataRead old.file_at current named w) → AreInputs options w is
    → (mid.tells ≡ true → All (IsReadFrom mid.file_at) is)
    → old.tells ≡ true → IsWorkspaceRead old.file_at current named options w is
is_read options old mid current named w is reads metadata inputs bytes t = record {
  metadata = metadata t;
  are = inputs;
  bytes = λ k d within. sym (reads.files _) ∙ bytes (reads.tells ∙ t) k d within;
}

-- bytes that say no workspace
pub unsaid_at : (files : Files) (current named path at bytes : List ℕ) (e : Error)
    → IsAbsoluteOf current named path → at ≡ path → Some bytes ≡ files at → IsNoWorkspace bytes e
    → HasNoMetadata files current named e
unsaid_at files current named path at bytes e absolute here there cause = record {
  path = path;
  at = absolute;
  unsaid = subst (λ o. HasBadMetadataBytes o e) (there ∙ ap files here) cause;
}

-- metadata that are not read
pub metadata_cause : (old new : StoreView) (current named : List ℕ) (e : Error)
    → IsCallError call.Read old new e ⊎ (old.tells ≡ true → HasNoMetadata old.file_at current named e)
    → IsCallError call.Read old new e ⊎ (old.tells ≡ true → HasNoWorkspace old.file_at current named e)
metadata_cause old new current named e (inl refused) = inl refused
metadata_cause old new current named e (inr none) = inr (λ t. inl (none t))

-- a manifest that is not read behind the metadata
pub manifest_cause : (old mid new : StoreView) (current named : List ℕ) (w : WorkspaceModel) (e : Error)
    → OnlyReads old mid → (old.tells ≡ true → AreMetadataRead old.file_at current named w)
    → IsNoInput mid new (manifests w) e
    → IsCallError call.Read old new e ⊎ (old.tells ≡ true → HasNoWorkspace old.file_at current named e)
manifest_cause old mid new current named w e reads metadata cause =
    shown (no-input-later old mid new (manifests w) (manifests w) e reads (λ tells lack. lack) cause)
  where
    shown : IsNoInput old new (manifests w) e
        → IsCallError call.Read old new e ⊎ (old.tells ≡ true → HasNoWorkspace old.file_at current named e)
    shown (inl refused) = inl refused
    shown (inr none) = inr (λ t. inr (record {
      workspace = w;
      metadata = metadata t;
      is = none.0;
      lacks = none.1 t;
    }))

-- a manifest that is not read, before more reads
pub manifest_before : (old mid read new : StoreView) (current named : List ℕ) (w : WorkspaceModel) (e shown : Error)
    → OnlyReads old mid → OnlyReads read new → new.faults < 2 ^ 64 → shown ≡ e
    → (old.tells ≡ true → AreMetadataRead old.file_at current named w)
    → IsNoInput mid read (manifests w) e
    → IsCallError call.Read old new shown ⊎ (old.tells ≡ true → HasNoWorkspace old.file_at current named shown)
manifest_before old mid read new current named w e shown before reads bound same metadata cause =
    subst (λ x. IsCallError call.Read old new x ⊎ (old.tells ≡ true → HasNoWorkspace old.file_at current named x))
    (sym same) (later (manifest_cause old mid read current named w e before metadata cause))
  where
    later : IsCallError call.Read old read e ⊎ (old.tells ≡ true → HasNoWorkspace old.file_at current named e)
        → IsCallError call.Read old new e ⊎ (old.tells ≡ true → HasNoWorkspace old.file_at current named e)
    later (inl refused) = inl (refused_before call.Read old read new e reads bound refused)
    later (inr none) = inr none
