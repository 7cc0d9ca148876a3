-- The manifests of the members of packages, and the errors of reading them.
use Rattle.std.proofs.Common.{◌≡◌, ℕ, zero, suc, ◌+◌, ◌<◌, ◌≤◌, List, [], ◌∷◌, ◌++◌, true, false, Option, length, map, take, drop, get_or, string_bytes, option_map, arith, refl, ap, sym, ◌∙◌, subst, inl, inr, ⊎_elim}
use Rattle.std.specs.Prelude.{Contains, All}
use Rattle.std.proofs.Math.Nat.{eq-or-lt_of_le}
use Rattle.std.proofs.lemmas.List.{append-nil, map-append, map_more, take-append-drop}
use Rattle.std.proofs.lemmas.List.Elements.{All-append, All-push, Contains-append_cases, Contains-append_left, Contains-append_right, filter-append}
use Rattle.edit_base.proofs.FirstCauseLemmas.{first_before, first_behind}
use Rattle.std.proofs.lemmas.List.Sums.{fold-append}
use Rattle.edit_base.specs.declared.errors.DeviceCall.TheVariants as call
use Rattle.edit_base.specs.declared.errors.Error.{Error}
use Rattle.edit_store.specs.Store.{Files, IsCallError, StoreView, OnlyReads, IsRaisedCount}
use Rattle.edit_version.specs.RustVersions.{Numbers, numbers_of}
use Rattle.edit_metadata.specs.Inputs.{HasFile, HaveMissingFile, IsNoInput, LacksFile, ManifestModel, input_paths, least, min_rust_version, manifest_of, member_manifests}
use Rattle.edit_metadata.specs.Metadata.{PackageModel, members}
use Rattle.edit_metadata.specs.Workspaces.{package_view, packages_view}
use Rattle.edit_metadata.specs.declared.input.Input.{Input}
use Rattle.edit_metadata.specs.declared.workspace.Package.{Package}
use Rattle.edit_metadata.proofs.MemberPaths.{members-more}

-- ---- Rust versions of members

-- those of the members among packages
abbrev pub member_versions : List PackageModel → List (Option Numbers)
member_versions ps = map (λ (p : PackageModel). p.rust_version) (members ps)

-- the least one, with a member more
pub least-more : (ps : List Package) (i : ℕ) (p : Package) → i < length ps → p ≡ get_or ps i p
    → p.member ≡ true
    → least (member_versions (packages_view (take (i + 1) ps)))
    ≡ min_rust_version (least (member_versions (packages_view (take i ps)))) (option_map numbers_of p.rust_version)
least-more ps i p within is member =
    ap (λ xs. least (map (λ (x : PackageModel). x.rust_version) xs))
    (members-more ps i p true within is member)
    ∙ ap least (map-append (λ (x : PackageModel). x.rust_version) (members (packages_view (take i ps)))
    (package_view p ∷ []))
    ∙ fold-append min_rust_version _ (member_versions (packages_view (take i ps)))
    (option_map numbers_of p.rust_version ∷ [])

-- with a package more that is no member
pub least-same : (ps : List Package) (i : ℕ) (p : Package) → i < length ps → p ≡ get_or ps i p
    → p.member ≡ false
    → least (member_versions (packages_view (take (i + 1) ps)))
    ≡ least (member_versions (packages_view (take i ps)))
least-same ps i p within is member =
    ap (λ xs. least (map (λ (x : PackageModel). x.rust_version) xs))
    (members-more ps i p false within is member ∙ append-nil (members (packages_view (take i ps))))

-- ---- manifests of members

-- with a member more
pub manifests-more : (ps : List Package) (i : ℕ) (p : Package) → i < length ps → p ≡ get_or ps i p
    → p.member ≡ true
    → member_manifests (packages_view (take (i + 1) ps))
    ≡ member_manifests (packages_view (take i ps)) ++ manifest_of (package_view p) ∷ []
manifests-more ps i p within is member =
    ap (map manifest_of) (members-more ps i p true within is member)
    ∙ map-append manifest_of (members (packages_view (take i ps))) (package_view p ∷ [])

-- with a package more that is no member
pub manifests-same : (ps : List Package) (i : ℕ) (p : Package) → i < length ps → p ≡ get_or ps i p
    → p.member ≡ false
    → member_manifests (packages_view (take (i + 1) ps)) ≡ member_manifests (packages_view (take i ps))
manifests-same ps i p within is member =
    ap (map manifest_of)
    (members-more ps i p false within is member ∙ append-nil (members (packages_view (take i ps))))

-- the manifests of two lists of packages
manifests-append : (ps qs : List Package)
    → member_manifests (packages_view (ps ++ qs))
    ≡ member_manifests (packages_view ps) ++ member_manifests (packages_view qs)
manifests-append ps qs =
    ap member_manifests (map-append package_view ps qs)
    ∙ ap (map manifest_of) (filter-append (λ (x : PackageModel). x.member) (packages_view ps)
    (packages_view qs))
    ∙ map-append manifest_of (members (packages_view ps)) (members (packages_view qs))

-- a missing file of a member, where the members before it have theirs
pub missing-among-members : (files : Files) (ps : List Package) (i : ℕ) (p : Package) → i < length ps
    → p ≡ get_or ps i p → p.member ≡ true → All (HasFile files) (member_manifests (packages_view (take i ps)))
    → HaveMissingFile files (manifest_of (package_view p) ∷ [])
    → HaveMissingFile files (member_manifests (packages_view ps))
missing-among-members files ps i p within is member good lack =
    let front = member_manifests (packages_view (take i ps)) in
    let back = member_manifests (packages_view (drop (i + 1) ps)) in
    let one = manifest_of (package_view p) ∷ [] in
    subst (HaveMissingFile files)
    (sym (ap (λ xs. member_manifests (packages_view xs)) (sym (take-append-drop (i + 1) ps))
    ∙ manifests-append (take (i + 1) ps) (drop (i + 1) ps)
    ∙ ap (λ xs. xs ++ back) (manifests-more ps i p within is member)))
    (first_before (HasFile files) (LacksFile files) (front ++ one) back
    (first_behind (HasFile files) (LacksFile files) front one good lack))

-- ---- paths of inputs

-- what a list of one has
has-one : (x y : List ℕ) → Contains (x ∷ []) y → x ≡ y
has-one x y (zero, within, is) = is
has-one x y (suc k, within, is) = absurd (omega (arith, within))

-- one input more that has another path
pub none-more : (is : List Input) (i : ℕ) (input : Input) (path : List ℕ) → i < length is
    → input ≡ get_or is i input → (Contains (input_paths (take i is)) path → ⊥)
    → (string_bytes input.path ≡ path → ⊥) → Contains (input_paths (take (i + 1) is)) path → ⊥
none-more is i input path within at none other has =
    let f = λ (x : Input). string_bytes x.path in
    let more = map_more f is i input within ∙ ap (λ z. map f (take i is) ++ f z ∷ []) (sym at) in
    ⊎_elim none (λ one. other (has-one _ path one))
    (Contains-append_cases (map f (take i is)) (string_bytes input.path ∷ []) path
    (subst (λ xs. Contains xs path) more has))

-- an input that has the path
pub has-path : (is : List Input) (i : ℕ) (input : Input) (path : List ℕ) → i < length is
    → input ≡ get_or is i input → string_bytes input.path ≡ path → Contains (input_paths is) path
has-path is i input path within at same =
    let f = λ (x : Input). string_bytes x.path in
    let more = map_more f is i input within ∙ ap (λ z. map f (take i is) ++ f z ∷ []) (sym at) in
    let here = Contains-append_right (map f (take i is)) (f input ∷ []) path
    (subst (λ p. Contains (p ∷ []) path) (sym same) (zero, omega arith, refl)) in
    subst (λ xs. Contains xs path)
    (sym (map-append f (take (i + 1) is) (drop (i + 1) is)) ∙ ap (map f) (take-append-drop (i + 1) is))
    (Contains-append_left (map f (take (i + 1) is)) (map f (drop (i + 1) is)) path
    (subst (λ xs. Contains xs path) (sym more) here))

-- ---- errors

raised_later : (a b c : ℕ) → a ≤ b → IsRaisedCount b c → IsRaisedCount a c
raised_later a b c le (inl lt) = inl (omega arith)
raised_later a b c le (inr ends) = ⊎_elim (λ same. inr (same ∙ ends.0, ends.1)) (λ lt. inl (omega arith))
    (eq-or-lt_of_le le)

-- an error of a call is one from an earlier count on
pub refused-later : (first old new : StoreView) (e : Error) → OnlyReads first old
    → IsCallError call.Read old new e → IsCallError call.Read first new e
refused-later first old new e reads (inl memory) = inl memory
refused-later first old new e reads (inr failed) =
    inr (failed.0, raised_later _ _ _ reads.later failed.1)

-- a file that is missing after reading was missing before it
missing-before : (first old : StoreView) (ms : List ManifestModel) → OnlyReads first old
    → HaveMissingFile old.file_at ms → HaveMissingFile first.file_at ms
missing-before first old ms reads lack = record {
  before = lack.before;
  first = lack.first;
  behind = lack.behind;
  within = lack.within;
  good = λ k d within.
      let has = lack.good k d within in
      record {
        path = has.path;
        is_normal = has.is_normal;
        bytes = has.bytes;
        present = sym (reads.files has.path) ∙ has.present;
      };
  cause = record {
    path = lack.cause.path;
    is_normal = lack.cause.is_normal;
    absent = sym (reads.files lack.cause.path) ∙ lack.cause.absent;
  };
}

-- an error of reading some manifests is one of reading others, from an earlier state on
pub no-input-later : (first old new : StoreView) (ms ns : List ManifestModel) (e : Error)
    → OnlyReads first old
    → (first.tells ≡ true → HaveMissingFile first.file_at ms → HaveMissingFile first.file_at ns)
    → IsNoInput old new ms e → IsNoInput first new ns e
no-input-later first old new ms ns e reads among (inl refused) =
    inl (refused-later first old new e reads refused)
no-input-later first old new ms ns e reads among (inr none) = inr (
  none.0,
  λ tells. among tells (missing-before first old ms reads (none.1 (reads.tells ∙ tells))),
)

-- one input more before others
pub all-before : (P : Input → Type 0) (i : Input) (is : List Input) → P i → All P is → All P (i ∷ is)
all-before P i is one others =
    All-append P (i ∷ []) is (All-push P [] i (λ k d within. absurd (omega (arith, within))) one) others

-- an error of reading some manifests is one of reading others
pub no-input-among : (old new : StoreView) (ms ns : List ManifestModel) (e : Error)
    → (HaveMissingFile old.file_at ms → HaveMissingFile old.file_at ns) → IsNoInput old new ms e
    → IsNoInput old new ns e
no-input-among old new ms ns e among =
    no-input-later old old new ms ns e
    (record { tells = refl; files = λ path. refl; writes = refl; later = omega arith }) (λ tells. among)

-- reading on
pub reads-on : (first old new : StoreView) → OnlyReads first old → OnlyReads old new → OnlyReads first new
reads-on first old new before after = record {
  tells = after.tells ∙ before.tells;
  files = λ path. after.files path ∙ before.files path;
  writes = after.writes ∙ before.writes;
  later = omega (arith, before.later, after.later);
}
