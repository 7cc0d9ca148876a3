-- The folders of the manifests of a workspace (own).
use Rattle.std.specs.Prelude.{◌≡◌, ◌≢◌, ℕ, List, ◌∷◌, ◌++◌, AllPairs, Contains, string_bytes}
use Rattle.std.specs.List.{AllZip}
use Rattle.edit_base.specs.Paths.{IsFolderOf, IsNormalOf}
use Rattle.edit_base.specs.declared.errors.Error.{Error}
use Rattle.edit_base.specs.declared.errors.Error.TheVariants.{FolderTwice}

-- the folder of a manifest, whose path is normalised first
pub record IsManifestFolder (path folder : List ℕ) : Type 0 where
  pub normal : List ℕ
  pub is_normal : IsNormalOf path normal
  pub above : IsFolderOf normal folder

-- each of these manifests is in a folder of its own
pub record HaveOwnFolders (paths : List (List ℕ)) : Type 0 where
  pub folders : List (List ℕ)
  pub stand : AllZip IsManifestFolder paths folders
  pub apart : AllPairs (λ a b. a ≢ b) folders

-- the text occurs twice in the list
pub record IsDuplicate (texts : List (List ℕ)) (text : List ℕ) : Type 0 where
  pub before : List (List ℕ)
  pub after : List (List ℕ)
  pub later : texts ≡ before ++ text ∷ after
  pub earlier : Contains before text

-- two of these manifests are in this folder
pub record ShareFolder (paths : List (List ℕ)) (folder : List ℕ) : Type 0 where
  pub folders : List (List ℕ)
  pub stand : AllZip IsManifestFolder paths folders
  pub twice : IsDuplicate folders folder

-- the error is `FolderTwice` with this folder
abbrev pub NamesFolder : List ℕ → Error → Type 0
NamesFolder folder (FolderTwice path) = string_bytes path ≡ folder
NamesFolder folder _ = ⊥

-- two of these manifests are in the folder of the error
pub record ShareNamed (paths : List (List ℕ)) (e : Error) : Type 0 where
  pub folder : List ℕ
  pub names : NamesFolder folder e
  pub shared : ShareFolder paths folder
