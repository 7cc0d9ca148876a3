-- The paths of the manifests of members.
use Rattle.std.proofs.Common.{◌≡◌, ℕ, ◌+◌, ◌<◌, List, [], ◌∷◌, ◌++◌, Bool, true, false, cond, length, map, take, get_or, string_bytes, ap, sym, ◌∙◌}
use Rattle.std.proofs.lemmas.List.{append-nil, map-append, take_more}
use Rattle.std.proofs.lemmas.List.Elements.{filter-append}
use Rattle.edit_metadata.specs.Metadata.{PackageModel, members}
use Rattle.edit_metadata.specs.Workspaces.{member_paths, package_view, packages_view}
use Rattle.edit_metadata.specs.declared.workspace.Package.{Package}

one : (p : PackageModel) (b : Bool) → p.member ≡ b → members (p ∷ []) ≡ cond b (p ∷ []) []
one p b is = ap (λ x. cond x (p ∷ []) []) is

-- the members of packages with one more
pub members-more : (ps : List Package) (i : ℕ) (p : Package) (b : Bool) → i < length ps → p ≡ get_or ps i p
    → p.member ≡ b
    → members (packages_view (take (i + 1) ps)) ≡ members (packages_view (take i ps))
    ++ cond b (package_view p ∷ []) []
members-more ps i p b within is member =
    ap (λ xs. members (packages_view xs)) (take_more ps i p within ∙ ap (λ x. take i ps ++ x ∷ []) (sym is))
    ∙ ap members (map-append package_view (take i ps) (p ∷ []))
    ∙ filter-append (λ (x : PackageModel). x.member) (packages_view (take i ps)) (package_view p ∷ [])
    ∙ ap (λ xs. members (packages_view (take i ps)) ++ xs) (one (package_view p) b member)

-- their paths
pub paths-more : (ps : List Package) (i : ℕ) (p : Package) → i < length ps → p ≡ get_or ps i p
    → p.member ≡ true
    → member_paths (packages_view (take (i + 1) ps)) ≡ member_paths (packages_view (take i ps))
    ++ string_bytes p.manifest_path ∷ []
paths-more ps i p within is member =
    ap (map (λ (x : PackageModel). x.manifest_path)) (members-more ps i p true within is member)
    ∙ map-append (λ (x : PackageModel). x.manifest_path) (members (packages_view (take i ps)))
    (package_view p ∷ [])

pub paths-same : (ps : List Package) (i : ℕ) (p : Package) → i < length ps → p ≡ get_or ps i p
    → p.member ≡ false
    → member_paths (packages_view (take (i + 1) ps)) ≡ member_paths (packages_view (take i ps))
paths-same ps i p within is member =
    ap (map (λ (x : PackageModel). x.manifest_path)) (members-more ps i p false within is member
    ∙ append-nil (members (packages_view (take i ps))))
