-- The manifest of each input of a workspace is one of its project.
use Rattle.std.proofs.Common.{◌≡◌, ◌∙◌, ℕ, zero, suc, ap, arith, List, [], ◌∷◌, false, inl, inr, map, not, refl, subst, sym}
use Rattle.std.specs.Prelude.{All, Bool, Contains, codes, if◌then◌else◌}
use Rattle.std.specs.List.{AllZip, filter}
use Rattle.std.proofs.lemmas.Bool.{cases_Bool}
use Rattle.std.proofs.lemmas.List.Elements.{All-cons, All-contains, All-nil}
use Rattle.edit_base.specs.Paths.{IsNormalOf}
use Rattle.edit_metadata.specs.Inputs.{AreInputs, HaveOwnPaths, IsInputOf, RustOptions, manifest_of, path_of, root_manifest}
use Rattle.edit_metadata.specs.Inputs.AreInputs.{of_members, with_root}
use Rattle.edit_metadata.specs.Metadata.{PackageModel, WorkspaceModel, members}
use Rattle.edit_metadata.specs.declared.input.Input.{Input}
use Rattle.edit_tree.specs.Assertions.{IsDocument, same_bytes}
use Rattle.edit_tree.proofs.SamePlace.{same_bytes_is}
use Rattle.edit_set_version.specs.Chosen.{Member}
use Rattle.edit_set_version.specs.PlanLines.{Named, manifests}
use Rattle.edit_set_version.specs.Projects.{AreInputsOf, IsManifestAmong, IsMemberOf, IsProject, IsTreeAt}
use Rattle.edit_set_version.specs.SetVersioned.{Project}
use Rattle.edit_set_version.specs.LineViews.{named_member, other_manifests}
use Rattle.edit_set_version.proofs.DistinctInputs.{distinct_each, same_input}
use Rattle.edit_set_version.proofs.PlanLemmas.{manifest_lines_view}
use Rattle.edit_set_version.proofs.ProjectRoot.{one_normal}

-- a manifest of a project at a path
abbrev pub IsNamedAt : Project → List ℕ → Type 0
IsNamedAt p path = (m : Named) × Contains (manifests p) m × (m.path ≡ path)

-- the member whose manifest is that of an input
member_at : (options : RustOptions) (all : List Input) (ps : List PackageModel) (ms : List Member)
    (js : List Input) → AllZip (IsInputOf options) (map manifest_of ps) js → AllZip (IsMemberOf all) ps ms
    → (i : Input) → Contains js i → (m : Member) × Contains ms m × (m.path ≡ path_of i)
member_at options all ps ms [] made are i there = absurd (omega (arith, there.1))
member_at options all [] ms (j ∷ js) made are i there = absurd made
member_at options all (p ∷ ps) [] (j ∷ js) made are i there = absurd are
member_at options all (p ∷ ps) (m ∷ ms) (j ∷ js) made are i (zero, within, is) = (
  m,
  (zero, omega arith, refl),
  one_normal p.manifest_path m.path (path_of i) are.0.path
      (subst (λ (x : Input). IsNormalOf p.manifest_path (path_of x)) is made.0.path),
)
member_at options all (p ∷ ps) (m ∷ ms) (j ∷ js) made are i (suc k, within, is) =
    let later = member_at options all ps ms js made.1 are.1 i (k, omega (arith, within), is) in
    (later.0, (suc later.1.0, omega (arith, later.1.1), later.1.2), later.2)

-- the manifest of a member is among those that are not the root's
member_named : (root : List ℕ) (ms : List Member) (m : Member) → Contains ms m
    → same_bytes m.path root ≡ false → Contains (other_manifests root ms) (named_member m)
member_named root [] m there other = absurd (omega (arith, there.1))
member_named root (x ∷ xs) m (zero, within, is) other =
    let own : same_bytes x.path root ≡ false
    = subst (λ (y : Member). same_bytes y.path root ≡ false) (sym is) other in
    subst (λ (b : Bool). Contains (map named_member (if not b then x ∷ filter (λ y. not (same_bytes y.path root)) xs
    else filter (λ y. not (same_bytes y.path root)) xs)) (named_member m)) (sym own)
    (zero, omega arith, ap named_member is)
member_named root (x ∷ xs) m (suc k, within, is) other =
    let later = member_named root xs m (k, omega (arith, within), is) other in
    elim (cases_Bool (same_bytes x.path root)) [
      | inl same ↦ rw same later
      | inr own ↦ rw own (suc later.0, omega (arith, later.1), later.2)
    ]

-- a manifest of a project at the path of a member
named_of : (p : Project) (path : List ℕ) → (m : Member) × Contains p.members m × (m.path ≡ path)
    → IsNamedAt p path
named_of p path has = elim (cases_Bool (same_bytes has.0.path p.path)) [
  | inl same ↦ (
    record { name = codes "workspace"; path = p.path; tree = p.tree },
    (zero, omega arith, refl),
    sym (same_bytes_is has.0.path p.path same) ∙ has.2,
  )
  | inr other ↦
      let there = member_named p.path p.members has.0 has.1 other in
      (named_member has.0, (suc there.0, omega (arith, there.1), there.2), has.2)
]

-- a manifest of a project at the path of an input
named_at : (w : WorkspaceModel) (is : List Input) (p : Project) → AreInputsOf w is → IsProject w is p
    → (i : Input) → Contains is i → IsNamedAt p (path_of i)
named_at w is p are project i there = by (are.0) is are.1 there
  where
    of_own : (options : RustOptions) (js : List Input)
        → AllZip (IsInputOf options) (map manifest_of (members w.packages)) js → Contains js i
        → IsNamedAt p (path_of i)
    of_own options js made among =
        named_of p (path_of i)
        (member_at options is (members w.packages) p.members js made project.members i among)

    by : (options : RustOptions) (js : List Input) → AreInputs options w js → Contains js i
        → IsNamedAt p (path_of i)
    by options _ (of_members root js made normal among) there = of_own options js made there
    by options _ (with_root j js made root other) (zero, within, is) = (
      record { name = codes "workspace"; path = p.path; tree = p.tree },
      (zero, omega arith, refl),
      one_normal (root_manifest w).path p.path (path_of i) project.path
          (subst (λ (x : Input). IsNormalOf (root_manifest w).path (path_of x)) is root.path),
    )
    by options _ (with_root j js made root other) (suc k, within, is) =
        of_own options js made (k, omega (arith, within), is)

-- what holds of each element of a list holds of all
all_each : {X : Type 0} (P : X → Type 0) (xs : List X) → ((x : X) → Contains xs x → P x) → All P xs
all_each P [] each = All-nil P
all_each P (x ∷ xs) each =
    All-cons P x xs (each x (zero, omega arith, refl))
    (all_each P xs (λ y there. each y (suc there.0, omega (arith, there.1), there.2)))

-- the manifests of the inputs of a workspace are those of its project
pub inputs_among : (w : WorkspaceModel) (is : List Input) (p : Project) → AreInputsOf w is → HaveOwnPaths is
    → IsProject w is p → All (IsManifestAmong (manifests p)) is
inputs_among w is p are apart project = all_each (IsManifestAmong (manifests p)) is one
  where
    one : (i : Input) → Contains is i → IsManifestAmong (manifests p) i
    one i there =
        let named = named_at w is p are project i there in
        let tree = All-contains (λ (m : Named). IsTreeAt is m.path m.tree) (manifests p) named.0
        (manifest_lines_view w is p project) named.1 in
        let same = same_input is tree.input i (distinct_each is apart) tree.among there (tree.at ∙ named.2) in
        record {
          named = named.0;
          among = named.1;
          at = named.2;
          form = tree.form;
          manifest = subst (λ (x : Input). IsDocument x.bytes.items tree.form) same tree.manifest;
          is = tree.is;
        }
