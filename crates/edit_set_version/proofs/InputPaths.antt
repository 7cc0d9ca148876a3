-- The inputs of a workspace have distinct paths.
use Rattle.std.proofs.Common.{◌≡◌, ◌≢◌, ◌∙◌, ℕ, zero, suc, arith, List, [], ◌∷◌, ap, map, refl, subst, sym}
use Rattle.std.specs.Prelude.{All, AllPairs, Contains}
use Rattle.std.specs.List.{AllZip}
use Rattle.std.proofs.Math.ListN.{get_or-map}
use Rattle.std.proofs.lemmas.List.{length-map}
use Rattle.std.proofs.lemmas.List.Elements.{All-cons, All-nil}
use Rattle.std.proofs.lemmas.List.Kept.{AllPairs-cons}
use Rattle.edit_metadata.specs.Folders.{IsManifestFolder}
use Rattle.edit_metadata.specs.Inputs.{AreInputs, HaveOwnPaths, IsInputOf, RustOptions, input_paths, manifest_of, path_of}
use Rattle.edit_metadata.specs.Inputs.AreInputs.{of_members, with_root}
use Rattle.edit_metadata.specs.Metadata.{PackageModel, WorkspaceModel, members}
use Rattle.edit_metadata.specs.Workspaces.{HasOwnFolders}
use Rattle.edit_metadata.specs.declared.input.Input.{Input}
use Rattle.edit_set_version.specs.FolderTexts.{folder_text}
use Rattle.edit_set_version.specs.Folders.{folder_of}
use Rattle.edit_set_version.specs.Projects.{AreInputsOf}
use Rattle.edit_set_version.proofs.FolderParents.{folder_named}
use Rattle.edit_set_version.proofs.ProjectRoot.{one_normal}

-- the text of an input's folder
abbrev pub folder_text_of : Input → List ℕ
folder_text_of i = folder_text (folder_of (path_of i))

-- the folders of manifests are those of their inputs
folders_made : (options : RustOptions) (ps : List PackageModel) (folders : List (List ℕ)) (is : List Input)
    → AllZip IsManifestFolder (map (λ (p : PackageModel). p.manifest_path) ps) folders
    → AllZip (IsInputOf options) (map manifest_of ps) is → folders ≡ map folder_text_of is
folders_made options [] [] [] stand made = refl
folders_made options [] [] (i ∷ is) stand made = absurd made
folders_made options [] (f ∷ fs) is stand made = absurd stand
folders_made options (p ∷ ps) [] is stand made = absurd stand
folders_made options (p ∷ ps) (f ∷ fs) [] stand made = absurd made
folders_made options (p ∷ ps) (f ∷ fs) (i ∷ is) stand made =
    let same = one_normal p.manifest_path stand.0.normal (path_of i) stand.0.is_normal made.0.path in
    let own : f ≡ folder_text_of i
    = folder_named p.manifest_path stand.0.normal f stand.0.is_normal stand.0.above
    ∙ ap (λ x. folder_text (folder_of x)) same in
    ap (λ x. x ∷ fs) own ∙ ap (λ xs. folder_text_of i ∷ xs) (folders_made options ps fs is stand.1 made.1)

-- inputs whose folders differ have other paths
paths_apart : (is : List Input) → AllPairs (λ (a b : List ℕ). a ≢ b) (map folder_text_of is)
    → HaveOwnPaths is
paths_apart is apart = λ i j d lt within same.
    apart i j (folder_text_of d) lt (omega (arith, within, length-map is folder_text_of))
    (get_or-map folder_text_of is i d ∙ ap (λ x. folder_text (folder_of x)) same
    ∙ sym (get_or-map folder_text_of is j d))

-- a path that is not among those of inputs differs from each
none_among : (is : List Input) (path : List ℕ) → (Contains (input_paths is) path → ⊥)
    → All (λ (i : Input). path ≢ path_of i) is
none_among [] path none = All-nil (λ (i : Input). path ≢ path_of i)
none_among (i ∷ is) path none =
    All-cons (λ (j : Input). path ≢ path_of j) i is (λ same. none (zero, omega arith, sym same))
    (none_among is path (λ there. none (suc there.0, omega (arith, there.1), there.2)))

-- the inputs of a workspace
pub inputs_apart : (w : WorkspaceModel) (is : List Input) → HasOwnFolders w → AreInputsOf w is
    → HaveOwnPaths is
inputs_apart w is own are = by (are.0) is are.1
  where
    of_own : (options : RustOptions) (js : List Input)
        → AllZip (IsInputOf options) (map manifest_of (members w.packages)) js → HaveOwnPaths js
    of_own options js made =
        paths_apart js
        (subst (AllPairs (λ (a b : List ℕ). a ≢ b))
        (folders_made options (members w.packages) own.folders js own.stand made) own.apart)

    by : (options : RustOptions) (js : List Input) → AreInputs options w js → HaveOwnPaths js
    by options _ (of_members root js made normal among) = of_own options js made
    by options _ (with_root j js made root other) =
        AllPairs-cons (λ (a b : Input). path_of a ≢ path_of b) j js (none_among js (path_of j) other)
        (of_own options js made)
