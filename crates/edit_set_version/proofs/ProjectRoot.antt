-- The root of a workspace is among its inputs.
use Rattle.std.proofs.Common.{◌≡◌, ◌∙◌, ℕ, zero, suc, ◌<◌, List, [], ◌∷◌, arith, get_or, length, subst, sym}
use Rattle.std.specs.Prelude.{All, Contains, string_bytes}
use Rattle.std.specs.List.{AllZip}
use Rattle.std.proofs.lemmas.List.Elements.{All-cons, All-nil}
use Rattle.edit_base.specs.Paths.{IsNormalOf}
use Rattle.edit_manifest.specs.declared.manifest.Manifest.{Manifest}
use Rattle.edit_metadata.specs.Inputs.{AreInputs, RustOptions, input_paths, path_of, root_manifest}
use Rattle.edit_metadata.specs.Inputs.AreInputs.{of_members, with_root}
use Rattle.edit_metadata.specs.Metadata.{WorkspaceModel}
use Rattle.edit_metadata.specs.declared.input.Input.{Input}
use Rattle.edit_set_version.specs.Crates.{IsReadOf}
use Rattle.edit_set_version.specs.PlanRefused.{IsManifest}
use Rattle.edit_set_version.specs.Projects.{AreInputsOf, IsTreeAt}
use Rattle.edit_set_version.proofs.ReachedFolders.{normal_text}
use Rattle.edit_tree.specs.DocumentViews.{tree_of}

-- a path has one normal form
pub one_normal : (path a b : List ℕ) → IsNormalOf path a → IsNormalOf path b → a ≡ b
one_normal path a b na nb = normal_text path a na ∙ sym (normal_text path b nb)

-- the normal path of the root's manifest is that of an input
pub root_among : (w : WorkspaceModel) (is : List Input) (path : List ℕ) → AreInputsOf w is
    → IsNormalOf (root_manifest w).path path → Contains (input_paths is) path
root_among w is path are normal = by (are.0) is are.1
  where
    by : (options : RustOptions) (js : List Input) → AreInputs options w js → Contains (input_paths js) path
    by options _ (of_members root js made own among) =
        subst (Contains (input_paths js)) (one_normal (root_manifest w).path root path own normal) among
    by options _ (with_root j js made own other) =
        (zero, omega arith, one_normal (root_manifest w).path (string_bytes j.path) path own.path normal)

-- inputs whose manifests were read are manifests
pub all_manifests : (is : List Input) (ms : List Manifest) → AllZip IsReadOf is ms → All IsManifest is
all_manifests [] ms read = All-nil IsManifest
all_manifests (i ∷ is) [] read = absurd read
all_manifests (i ∷ is) (m ∷ ms) read =
    All-cons IsManifest i is (read.0.form, read.0.manifest) (all_manifests is ms read.1)

-- the manifest beside an input was read of it
pub read_beside : (i : Input) (m : Manifest) (is : List Input) (ms : List Manifest) (n : ℕ)
    → AllZip IsReadOf is ms → n < length is → i ≡ get_or is n i → m ≡ get_or ms n m
    → Contains is i × IsReadOf i m
read_beside i m [] ms n read within ei em = absurd (omega (arith, within))
read_beside i m (j ∷ js) [] n read within ei em = absurd read
read_beside i m (j ∷ js) (k ∷ ks) zero read within ei em = (
  (zero, omega arith, sym ei),
  subst (λ x. IsReadOf i x) (sym em) (subst (λ x. IsReadOf x k) (sym ei) read.0),
)
read_beside i m (j ∷ js) (k ∷ ks) (suc n) read within ei em =
    let later = read_beside i m js ks n read.1 (omega (arith, within)) ei em in
    ((suc later.0.0, omega (arith, later.0.1), later.0.2), later.1)

-- the tree of the manifest that stands beside an input
pub tree_beside : (is : List Input) (ms : List Manifest) (n : ℕ) (i : Input) (m : Manifest) (path : List ℕ)
    → AllZip IsReadOf is ms → n < length is → i ≡ get_or is n i → m ≡ get_or ms n m → path_of i ≡ path
    → IsTreeAt is path (tree_of m.document)
tree_beside is ms n i m path read within input manifest at =
    let found = read_beside i m is ms n read within input manifest in
    record {
      input = i;
      among = found.0;
      at = at;
      form = found.1.form;
      manifest = found.1.manifest;
      is = found.1.shows;
    }
