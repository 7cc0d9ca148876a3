-- Properties of the requirements on bumped crates after a plan.
use Rattle.std.specs.Prelude.{◌≡◌, ℕ, List, All}
use Rattle.edit_tree.specs.Assertions.{Place}
use Rattle.edit_tree.specs.Replaces.{Edits, tree_without_below, tree_with_strings}
use Rattle.edit_manifest.specs.Tables.{Tree}
use Rattle.edit_version.specs.Laws.{Admits, CanReach, IsVersion}
use Rattle.edit_version.specs.Requirement.{Nothing, UpgradeResult, Text, upgrade_of}
use Rattle.edit_set_version.specs.Bumps.{Target}
use Rattle.edit_set_version.specs.Chosen.{SelectionView}
use Rattle.edit_set_version.specs.SetVersioned.{Bump, Dependent, Project, bumps, edits, dependents}

-- the requirement admits the next version, where that has no pre-release, or where the requirement has
-- comparators, all of three numbers
abbrev pub AdmitsNext : Dependent → Type 0
AdmitsNext f = CanReach f.text f.next → Admits f.text f.next

-- each requirement of a manifest on a bumped crate admits its next version
abbrev pub AllAdmitNext : List Bump → List ℕ → Tree → Type 0
AllAdmitNext bs file t = All AdmitsNext (dependents bs file t)

-- the requirement can be raised: it is unchanged or becomes another text
abbrev pub CanRise : UpgradeResult → Type 0
CanRise Nothing = Unit {0}
CanRise (Text s) = Unit {0}
CanRise _ = ⊥

-- each requirement of a manifest on a bumped crate can be raised
abbrev pub AllRise : List Bump → List ℕ → Tree → Type 0
AllRise bs file t = All (λ f. CanRise (upgrade_of f.text f.next)) (dependents bs file t)

-- the next versions are valid
abbrev pub AreVersions : List Bump → Type 0
AreVersions bs = All (λ b. IsVersion b.next) bs

-- the tree after these strings are written, without what was below them, and else unchanged
abbrev pub IsLeftBy : Edits → Tree → Tree → Type 0
IsLeftBy es tree after = (q : Place) → after q ≡ tree_with_strings es (tree_without_below es tree) q

-- After a plan that succeeds, each requirement of a manifest on a bumped crate admits its next version,
-- where that has no pre-release, or where the requirement has comparators, all of three numbers.
abbrev pub DependentsAdmit : Type 0
DependentsAdmit = (t : Target) (a : SelectionView) (p : Project) (file : List ℕ) (tree after : Tree)
    → AreVersions (bumps t a p)
    → AllRise (bumps t a p) file tree
    → IsLeftBy (edits t a p file tree) tree after
    → AllAdmitNext (bumps t a p) file after
