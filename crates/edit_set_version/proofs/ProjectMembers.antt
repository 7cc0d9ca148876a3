-- The members of a project are the packages zipped with their inputs and manifests.
use Rattle.std.proofs.Common.{◌≡◌, ◌∙◌, ℕ, zero, suc, ◌+◌, Bor, List, [], ◌∷◌, ◌++◌, ap, arith, drop, length, length-append, map, refl, subst, sym}
use Rattle.std.specs.Prelude.{Contains}
use Rattle.std.specs.List.{AllZip}
use Rattle.std.proofs.lemmas.List.{length-map}
use Rattle.std.proofs.lemmas.Slice.Zip.{AllZip-long}
use Rattle.std.proofs.lemmas.List.Elements.{Contains-append_right}
use Rattle.edit_manifest.specs.declared.manifest.Manifest.{Manifest}
use Rattle.edit_metadata.specs.Inputs.{AreInputs, IsInputOf, RustOptions, manifest_of, member_manifests, of_members, with_root}
use Rattle.edit_metadata.specs.Metadata.{PackageModel, WorkspaceModel, members}
use Rattle.edit_metadata.specs.Workspaces.{package_view}
use Rattle.edit_metadata.specs.declared.input.Input.{Input}
use Rattle.edit_metadata.specs.declared.workspace.Package.{Package}
use Rattle.edit_set_version.specs.Crates.{IsReadOf, members_of}
use Rattle.edit_set_version.specs.Projects.{AreInputsOf, IsMemberOf}
use Rattle.edit_set_version.specs.declared.crates.Crate.{Crate}

-- the inputs of crates
abbrev pub inputs_of : List Crate → List Input
inputs_of cs = map (λ (c : Crate). c.input.now) cs

-- the packages of crates, as the metadata have them
abbrev pub packages_of : List Crate → List PackageModel
packages_of cs = map (λ (c : Crate). package_view c.package_info.now) cs

-- crates whose inputs are made of their manifests, and whose manifests are read of these, are the members of
-- their packages
pub members_stand : (options : RustOptions) (all : List Input) (cs : List Crate)
    → AllZip (IsInputOf options) (map (λ (c : Crate). manifest_of (package_view c.package_info.now)) cs) (inputs_of cs)
    → AllZip IsReadOf (inputs_of cs) (map (λ (c : Crate). c.manifest.now) cs)
    → ((i : Input) → Contains (inputs_of cs) i → Contains all i)
    → AllZip (IsMemberOf all) (packages_of cs) (members_of cs)
members_stand options all [] made read inside = tt
members_stand options all (c ∷ cs) made read inside = (
  record {
    name = refl;
    version = refl;
    path = made.0.path;
    tree = record {
      input = c.input.now;
      among = inside c.input.now (zero, omega arith, refl);
      at = refl;
      form = read.0.form;
      manifest = read.0.manifest;
      is = read.0.shows;
    };
  },
  members_stand options all cs made.1 read.1
      (λ i there. inside i (suc there.0, omega (arith, there.1), there.2)),
)

-- the inputs of a workspace's members stand last
pub record LastInputs (w : WorkspaceModel) (is : List Input) : Type 0 where
  pub options : RustOptions
  pub before : List Input
  pub own : List Input
  pub all : is ≡ before ++ own
  pub made : AllZip (IsInputOf options) (member_manifests w.packages) own

pub last_inputs : (w : WorkspaceModel) (is : List Input) → AreInputsOf w is → LastInputs w is
last_inputs w is are = by (are.0) is are.1
  where
    by : (options : RustOptions) (js : List Input) → AreInputs options w js → LastInputs w js
    by options _ (of_members root js made normal among) =
        record { options = options; before = []; own = js; all = refl; made = made }
    by options _ (with_root j js made root other) =
        record { options = options; before = j ∷ []; own = js; all = refl; made = made }

-- what is read of the last inputs
pub read_last : (before own : List Input) (ms : List Manifest) → AllZip IsReadOf (before ++ own) ms
    → AllZip IsReadOf own (drop (length before) ms)
read_last [] own ms read = read
read_last (i ∷ before) own [] read = absurd read
read_last (i ∷ before) own (m ∷ ms) read = read_last before own ms read.1

-- the last elements
pub dropped : {X : Type 0} (before own : List X) → drop (length before) (before ++ own) ≡ own
dropped [] own = refl
dropped (x ∷ before) own = dropped before own

-- the manifests of crates, as the metadata have them
package_manifests : (cs : List Crate)
    → map (λ (c : Crate). manifest_of (package_view c.package_info.now)) cs ≡ map manifest_of (packages_of cs)
package_manifests [] = refl
package_manifests (c ∷ cs) = ap (λ ms. manifest_of (package_view c.package_info.now) ∷ ms) (package_manifests cs)

-- the packages of crates, one by one
pub read_item : (cs : List Crate) (ps : List (Bor Package))
    → map (λ (c : Crate). c.package_info.now) cs ≡ map (λ p. p.now) ps
    → packages_of cs ≡ map (λ (p : Bor Package). package_view p.now) ps
read_item cs ps same = of_crates cs ∙ ap (map package_view) same ∙ of_packages ps
  where
    of_crates : (xs : List Crate) → packages_of xs ≡ map package_view (map (λ (c : Crate). c.package_info.now) xs)
    of_crates [] = refl
    of_crates (x ∷ xs) = ap (λ ys. package_view x.package_info.now ∷ ys) (of_crates xs)

    of_packages : (xs : List (Bor Package))
        → map package_view (map (λ (p : Bor Package). p.now) xs)
        ≡ map (λ (p : Bor Package). package_view p.now) xs
    of_packages [] = refl
    of_packages (x ∷ xs) = ap (λ ys. package_view x.now ∷ ys) (of_packages xs)

-- how many inputs there are
pub counted : (w : WorkspaceModel) (is : List Input) (last : LastInputs w is)
    → length is ≡ length last.before + length (members w.packages)
counted w is last =
    ap length last.all ∙ length-append last.before last.own
    ∙ ap (λ k. length last.before + k)
    (AllZip-long (IsInputOf last.options) (member_manifests w.packages) last.own last.made
    ∙ length-map (members w.packages) manifest_of)

-- crates that stand beside the last inputs of a workspace are its members
pub members_last : (w : WorkspaceModel) (is : List Input) (ms : List Manifest) (cs : List Crate) (n : ℕ)
    (last : LastInputs w is) → AllZip IsReadOf is ms → n ≡ length last.before
    → packages_of cs ≡ members w.packages
    → inputs_of cs ≡ drop n is → map (λ (c : Crate). c.manifest.now) cs ≡ drop n ms
    → AllZip (IsMemberOf is) (members w.packages) (members_of cs)
members_last w is ms cs n last read long package_info ins mans =
    let own : inputs_of cs ≡ last.own
    = ins ∙ ap (λ k. drop k is) long ∙ ap (drop (length last.before)) last.all
    ∙ dropped last.before last.own in
    let named : map (λ (c : Crate). manifest_of (package_view c.package_info.now)) cs ≡ member_manifests w.packages
    = package_manifests cs ∙ ap (map manifest_of) package_info in
    subst (λ ps. AllZip (IsMemberOf is) ps (members_of cs)) package_info
    (members_stand last.options is cs
    (subst (λ xs. AllZip (IsInputOf last.options) xs (inputs_of cs)) (sym named)
    (subst (AllZip (IsInputOf last.options) (member_manifests w.packages)) (sym own) last.made))
    (subst (λ xs. AllZip IsReadOf xs (map (λ (c : Crate). c.manifest.now) cs)) (sym own)
    (subst (AllZip IsReadOf last.own) (sym (mans ∙ ap (λ k. drop k ms) long))
    (read_last last.before last.own ms (subst (λ xs. AllZip IsReadOf xs ms) last.all read))))
    (λ i there. subst (λ xs. Contains xs i) (sym last.all)
    (Contains-append_right last.before last.own i (subst (λ xs. Contains xs i) own there))))
