-- The causes of failures of a set-version plan, and the error of each (own, after cargo-edit).
use Rattle.std.specs.Prelude.{◌≡◌, ◌≢◌, ℕ, List, [], ◌++◌, All, false, true, codes, map, option_to_list, string_bytes}
use Rattle.std.specs.List.{filter, join_by}
use Rattle.semver.specs.Parse.{Parts}
use Rattle.edit_base.specs.declared.errors.Error.{Error}
use Rattle.edit_base.specs.declared.errors.Error.TheVariants as error
use Rattle.edit_base.specs.declared.errors.details.MissingKind.TheVariants as kind
use Rattle.edit_syntax.specs.Grammar.{Text}
use Rattle.edit_tree.specs.Assertions.{IsDocument}
use Rattle.edit_tree.specs.Tree.{is_value_at}
use Rattle.edit_manifest.specs.Tables.{Tree}
use Rattle.edit_manifest.specs.Versions.{package_version}
use Rattle.edit_metadata.specs.Inputs.{path_of}
use Rattle.edit_metadata.specs.declared.input.Input.{Input}
use Rattle.edit_version.specs.RequirementErrors.{IsUpgradeError}
use Rattle.edit_version.specs.Requirement.{upgrade_of}
use Rattle.edit_set_version.specs.Admitted.{AllRise, CanRise}
use Rattle.edit_set_version.specs.BumpCauses.{IsBumpable, IsUnbumped}
use Rattle.edit_set_version.specs.Bumps.{Target, bump}
use Rattle.edit_set_version.specs.Chosen.{SelectionView, Member, chosen_members, excluded_inheriting, inheriting_members}
use Rattle.edit_base.specs.FirstCauses.{HasFirstCause}
use Rattle.edit_set_version.specs.Failures.{Cause, IsFrom}
use Rattle.edit_set_version.specs.Failures.Cause.{at_entry, at_input, at_member, at_root}
use Rattle.edit_set_version.specs.PlanLines.{Named, manifests}
use Rattle.edit_set_version.specs.SetVersioned.{Bump, Dependent, Project, dependents, workspace_current, writes_own}
use Rattle.edit_set_version.specs.declared.failure.VersionFailure.{VersionFailure}

-- the names of members, joined by commas
abbrev pub member_names_text : List Member → List ℕ
member_names_text ms = join_by (λ name. name) (codes ", ") (map (λ m. m.name) ms)

-- the error has each name that no member has, once
abbrev pub IsMissing : List (List ℕ) → Error → Type 0
IsMissing names (error.PackagesMissing list) =
    (list.kind ≡ kind.Package) × (names ≢ []) × (map string_bytes list.names.items ≡ names)
IsMissing names _ = ⊥

-- the error has the excluded members that inherit, and the selected ones that do
abbrev pub IsExcludeError : List Member → List Member → Error → Type 0
IsExcludeError held others (error.CannotExclude excluded named) =
    (held ≢ []) × (string_bytes excluded ≡ member_names_text held)
    × (string_bytes named ≡ member_names_text others)
IsExcludeError held others _ = ⊥

-- ---- versions

-- a current version, and where it is declared
pub record Current : Type 0 where
  pub at : Cause
  pub version : Parts

-- the current version of the workspace, in the root manifest at a path
abbrev pub root_current : List ℕ → Parts → Current
root_current path v = record { at = at_root path; version = v }

-- the current version of a member
abbrev pub member_current : Member → Current
member_current m = record { at = at_member m.name m.path; version = m.version }

-- the current versions that a plan bumps: that of the workspace, and those of the chosen members
abbrev pub currents : SelectionView → Project → List Current
currents a p =
    map (root_current p.path) (option_to_list (workspace_current a p))
    ++ map member_current (chosen_members a p.members)

-- a current version can be bumped
abbrev pub CanBump : Target → SelectionView → Current → Type 0
CanBump t a c = IsBumpable (bump t a.metadata c.version)

-- a current version cannot be bumped, and the failure names it
abbrev pub FailsAtVersion : Target → SelectionView → VersionFailure → Current → Type 0
FailsAtVersion t a f c = IsUnbumped (bump t a.metadata c.version) c.version f.error × IsFrom f c.at

-- the failure names the first of these versions that cannot be bumped
abbrev pub AreUnbumped : Target → SelectionView → List Current → VersionFailure → Type 0
AreUnbumped t a cs f = HasFirstCause (CanBump t a) (FailsAtVersion t a f) cs

-- the failure in the choice of members, and where there is none, in bumping their versions
pub data IsVersionError (t : Target) (a : SelectionView) (p : Project) (f : VersionFailure) : Type 0 where
  excluded : IsExcludeError (excluded_inheriting a p.members) (inheriting_members a p.members) f.error
      → IsFrom f (at_root p.path) → IsVersionError t a p f
  version : excluded_inheriting a p.members ≡ [] → AreUnbumped t a (currents a p) f → IsVersionError t a p f

-- ---- literals

-- an input has a literal for the bumped version that is to be written into it
pub record HasLiteral (bs : List Bump) (input : Input) : Type 0 where
  pub form : Text
  pub manifest : IsDocument input.bytes.items form
  pub literal : filter (writes_own (path_of input)) bs ≢ [] → is_value_at form package_version ≡ true

-- a bumped version is to be written into an input, which has no value for it
pub record LacksLiteral (bs : List Bump) (input : Input) : Type 0 where
  pub form : Text
  pub manifest : IsDocument input.bytes.items form
  pub written : filter (writes_own (path_of input)) bs ≢ []
  pub no_value : is_value_at form package_version ≡ false

-- the failure names the first of these inputs that lacks a literal
abbrev pub LackLiterals : List Bump → List Input → VersionFailure → Type 0
LackLiterals bs inputs f =
    HasFirstCause (HasLiteral bs) (λ i. LacksLiteral bs i × IsFrom f (at_input (path_of i))) inputs

-- ---- requirements

-- a requirement on a bumped crate can be raised
abbrev pub CanFollow : Dependent → Type 0
CanFollow d = CanRise (upgrade_of d.text d.next)

-- a requirement on a bumped crate, in the manifest at a path, cannot be raised, and the failure names it
abbrev pub FailsAtEntry : List ℕ → VersionFailure → Dependent → Type 0
FailsAtEntry file f d =
    IsUpgradeError (upgrade_of d.text d.next) d.text f.error × IsFrom f (at_entry file d.place)

-- the failure names the first requirement of a manifest on a bumped crate that cannot be raised
abbrev pub IsUnraised : List Bump → List ℕ → Tree → VersionFailure → Type 0
IsUnraised bs file t f = HasFirstCause CanFollow (FailsAtEntry file f) (dependents bs file t)

-- each requirement of a manifest on a bumped crate can be raised
abbrev pub AllRiseIn : List Bump → Named → Type 0
AllRiseIn bs m = AllRise bs m.path m.tree

-- the failure names a requirement in the first of these manifests that has one on a bumped crate that cannot
-- be raised
abbrev pub AreUnraised : List Bump → List Named → VersionFailure → Type 0
AreUnraised bs ms f = HasFirstCause (AllRiseIn bs) (λ m. IsUnraised bs m.path m.tree f) ms

-- ---- manifests

-- the failure in the manifests of a project: a missing literal, else a requirement that cannot be raised, in
-- the root before the other members
pub data IsManifestError (bs : List Bump) (inputs : List Input) (p : Project) (f : VersionFailure)
    : Type 0 where
  literal : f.error ≡ error.NoVersionPlace → LackLiterals bs inputs f → IsManifestError bs inputs p f
  requirement : All (HasLiteral bs) inputs → AreUnraised bs (manifests p) f → IsManifestError bs inputs p f
