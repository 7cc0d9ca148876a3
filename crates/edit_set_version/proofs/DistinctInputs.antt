-- Inputs whose paths differ.
use Rattle.std.proofs.Common.{◌≡◌, ◌≢◌, ◌∙◌, ◌<◌, ℕ, zero, suc, arith, List, [], ◌∷◌, Option, Some, None, get_or, length, ap, subst, sym}
use Rattle.std.specs.Prelude.{AllPairs, Contains, option_and_then}
use Rattle.std.specs.List.{AllByRecursion, AllZip}
use Rattle.semver.specs.Parse.{Parts}
use Rattle.edit_syntax.specs.Grammar.{Text}
use Rattle.edit_document.specs.Items.{string_in}
use Rattle.edit_tree.specs.Assertions.{IsDocument, Place}
use Rattle.edit_tree.specs.DocumentViews.{tree_of}
use Rattle.edit_tree.specs.Tree.{View, view_at}
use Rattle.edit_tree.proofs.Shallow.{one_form}
use Rattle.edit_manifest.specs.Tables.{Tree}
use Rattle.edit_manifest.specs.Versions.{shared_version, workspace_version}
use Rattle.edit_manifest.specs.declared.manifest.Manifest.{Manifest}
use Rattle.edit_metadata.specs.declared.input.Input.{Input}
use Rattle.edit_version.specs.ReadVersion.{version_read}
use Rattle.edit_set_version.specs.Crates.{IsReadOf}
use Rattle.edit_set_version.specs.Projects.{IsTreeAt}
use Rattle.edit_metadata.specs.Inputs.{HaveOwnPaths, path_of}
use Rattle.edit_set_version.specs.Written.{CanShare, HasSharedVersion}
use Rattle.edit_set_version.proofs.ProjectRoot.{tree_beside}

-- no two inputs have one path, input by input
abbrev pub Distinct : List Input → Type 0
Distinct [] = Unit {0}
Distinct (x ∷ xs) = AllByRecursion (λ y. path_of x ≢ path_of y) xs × Distinct xs

-- as pairs say it
pub distinct_each : (xs : List Input) → HaveOwnPaths xs → Distinct xs
distinct_each [] h = tt
distinct_each (x ∷ xs) h = (
  behind x xs (λ k d within. h zero (suc k) d (omega arith) (omega (arith, within))),
  distinct_each xs (λ i j d order within. h (suc i) (suc j) d (omega (arith, order)) (omega (arith, within))),
)
  where
    behind : (x : Input) (ys : List Input)
        → ((k : ℕ) (d : Input) → k < length ys → path_of x ≢ path_of (get_or ys k d))
        → AllByRecursion (λ y. path_of x ≢ path_of y) ys
    behind x [] f = tt
    behind x (y ∷ ys) f =
        (f zero y (omega arith), behind x ys (λ k d within. f (suc k) d (omega (arith, within))))

-- what holds of all holds of one of them
holds_of : (P : Input → Type 0) (xs : List Input) (x : Input) → AllByRecursion P xs → Contains xs x → P x
holds_of P [] x all i = absurd (omega (arith, i.1))
holds_of P (y ∷ ys) x all (zero, within, is) = subst P is all.0
holds_of P (y ∷ ys) x all (suc k, within, is) = holds_of P ys x all.1 (k, omega (arith, within), is)

-- two of them with one path are one
pub same_input : (xs : List Input) (x y : Input) → Distinct xs → Contains xs x → Contains xs y
    → path_of x ≡ path_of y → x ≡ y
same_input [] x y d i j same = absurd (omega (arith, i.1))
same_input (z ∷ zs) x y d (zero, a, is) (zero, b, it) same = sym is ∙ it
same_input (z ∷ zs) x y d (zero, a, is) (suc k, b, it) same =
    absurd (holds_of (λ w. path_of z ≢ path_of w) zs y d.0 (k, omega (arith, b), it) (ap path_of is ∙ same))
same_input (z ∷ zs) x y d (suc k, a, is) (zero, b, it) same =
    absurd (holds_of (λ w. path_of z ≢ path_of w) zs x d.0 (k, omega (arith, a), is)
    (ap path_of it ∙ sym same))
same_input (z ∷ zs) x y d (suc k, a, is) (suc m, b, it) same =
    same_input zs x y d.1 (k, omega (arith, a), is) (m, omega (arith, b), it) same

-- the trees at one path are equal
one_tree : (xs : List Input) (path : List ℕ) (t u : Tree) → HaveOwnPaths xs → IsTreeAt xs path t
    → IsTreeAt xs path u → (q : Place) → t q ≡ u q
one_tree xs path t u d a b q =
    let same = same_input xs a.input b.input (distinct_each xs d) a.among b.among (a.at ∙ sym b.at) in
    let read = subst (λ (i : Input). IsDocument i.bytes.items a.form) same a.manifest in
    let form = one_form b.input.bytes.items a.form b.form read b.manifest in
    a.is q ∙ ap (λ (f : Text). view_at f q) form ∙ sym (b.is q)

-- where the workspace gets a next version, the manifest beside the input at the root's path has
-- its version
pub can_share : (root : List ℕ) (next : Option Parts) (is : List Input) (ms : List Manifest) (n : ℕ)
    (i : Input) (m : Manifest) → AllZip IsReadOf is ms → HaveOwnPaths is → HasSharedVersion is root next
    → n < length is → i ≡ get_or is n i → m ≡ get_or ms n m
    → CanShare root next (path_of i) (tree_of m.document)
can_share root None is ms n i m read distinct tells within ei em = tt
can_share root (Some v) is ms n i m read distinct tells within ei em = λ at none.
    let here = tree_beside is ms n i m root read within ei em at in
    tells.2 (ap (λ (o : Option View). option_and_then version_read (option_and_then string_in o))
    (one_tree is root tells.0 (tree_of m.document) distinct tells.1 here shared_version) ∙ none)
