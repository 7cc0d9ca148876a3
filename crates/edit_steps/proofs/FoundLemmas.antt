-- Finding the manifest where no file is read at its path.
use Rattle.std.proofs.Common.{◌≡◌, ◌∙◌, ℕ, List, true, false, Option, None, sym, subst, inl, inr}
use Rattle.std.specs.Prelude.{◌⊎◌, is_some}
use Rattle.edit_base.specs.declared.errors.DeviceCall.TheVariants as call
use Rattle.edit_base.specs.declared.errors.Error.{Error}
use Rattle.edit_base.specs.declared.errors.Error.TheVariants.{NoManifest}
use Rattle.edit_manifest.specs.Located.{HasNoManifest, IsManifestAt, IsManifestPath, IsThere, manifest_in}
use Rattle.edit_manifest.specs.Located.IsManifestAt.{named, nearest}
use Rattle.edit_manifest.specs.Located.IsManifestPath.{specified, unspecified}
use Rattle.edit_store.specs.Store.{Files, OnlyReads, IsCallError, HasKindAt, StoreView}
use Rattle.edit_store.specs.declared.store.Kind.TheVariants.{Folder}
use Rattle.edit_steps.specs.Causes.{IsFailure, IsManifestCause}

no_file : (o : Option (List ℕ)) → is_some o ≡ true → None ≡ o → ⊥
no_file o some none = let bad : false ≡ true = subst (λ (x : Option (List ℕ)). is_some x ≡ true) (sym none)
    some in cc

folder_of : (files : Files) (path : List ℕ) → IsThere files path → None ≡ files path
    → HasKindAt files path Folder
folder_of files path (inl file) none = absurd (no_file (files path) file none)
folder_of files path (inr folder) none = folder

folder_at : (files : Files) (place path : List ℕ) → IsManifestAt files place path → None ≡ files path
    → HasKindAt files path Folder
folder_at files place _ (named file) none = absurd (no_file (files place) file none)
folder_at files place _ (nearest path stands near) none =
    let here : HasKindAt files (manifest_in near.folder) Folder = folder_of files (manifest_in near.folder)
    near.there (subst (λ at. None ≡ files at) near.is none) in
    subst (λ at. HasKindAt files at Folder) (sym near.is) here

folder_at_path : (files : Files) (current : List ℕ) (name : Option (List ℕ)) (path : List ℕ)
    → IsManifestPath files current name path → None ≡ files path → HasKindAt files path Folder
folder_at_path files current name path (specified _ place _ normal at) none =
    folder_at files place path at none
folder_at_path files current name path (unspecified place _ normal near) none =
    let here : HasKindAt files (manifest_in near.folder) Folder = folder_of files (manifest_in near.folder)
    near.there (subst (λ at. None ≡ files at) near.is none) in
    subst (λ at. HasKindAt files at Folder) (sym near.is) here

-- where a manifest is found and no file is read, a folder stands
pub folder_there : (old mid : StoreView) (current : List ℕ) (name : Option (List ℕ)) (text at : List ℕ)
    (e : Error) → OnlyReads old mid → e ≡ NoManifest → at ≡ text
    → (old.tells ≡ true → IsManifestPath old.file_at current name text)
    → (mid.tells ≡ true → None ≡ mid.file_at at) → old.tells ≡ true
    → IsManifestCause old.file_at current name e
folder_there old mid current name text at e reads refused is found none t =
    let missing : None ≡ old.file_at text =
    subst (λ path. None ≡ old.file_at path) is (none (reads.tells ∙ t) ∙ reads.files at) in
    let path : IsManifestPath old.file_at current name text = found t in
    inr (inl (record {
      path = text;
      at = path;
      folder = folder_at_path old.file_at current name text path missing;
      is = refused;
    }))

-- no manifest is found
pub unfound_cause : (old new : StoreView) (current : List ℕ) (name : Option (List ℕ)) (e : Error)
    → IsCallError call.Kind old new e ⊎ (old.tells ≡ true → HasNoManifest old.file_at current e name)
    → IsFailure old new e ⊎ (old.tells ≡ true → IsManifestCause old.file_at current name e)
unfound_cause old new current name e (inl refused) = inl (inl refused)
unfound_cause old new current name e (inr none) = inr (λ t. inl (none t))
