-- The edits of a set-version plan (own, after cargo-edit).
use Rattle.std.specs.Prelude.{ℕ, List, [], ◌∷◌, ◌++◌, ◌&&◌, Bool, true, false, not, if◌then◌else◌, Option, Some, None, map, option_map, option_and_then, option_to_list}
use Rattle.std.specs.List.{filter_map}
use Rattle.semver.specs.Identifiers.{parts_text}
use Rattle.semver.specs.Parse.{Parts}
use Rattle.edit_tree.specs.Assertions.{Place, same_bytes}
use Rattle.edit_tree.specs.Replaces.{Edits}
use Rattle.edit_manifest.specs.Tables.{Tree}
use Rattle.edit_manifest.specs.Versions.{is_inherited, package_version, shared_version, version_member, workspace_version}
use Rattle.edit_version.specs.Requirement.{UpgradeResult, Text, upgrade_of}
use Rattle.edit_set_version.specs.Bumps.{Target, bump, next_of}
use Rattle.edit_set_version.specs.Chosen.{SelectionView, Member, bumps_workspace, chosen_members}
use Rattle.edit_set_version.specs.Entries.{entries, target_folder, requirement}
use Rattle.edit_set_version.specs.Folders.{Folder, folder_of, same_folder}

-- a workspace: its root manifest, which may be a member's too, and its members
pub record Project : Type 0 where
  pub path : List ℕ
  pub tree : Tree
  pub members : List Member

-- ---- versions

-- a bump: a member, and its next version
pub record Bump : Type 0 where
  pub member : Member
  pub next : Parts

-- the member's bump, where its version changes
abbrev pub bump_of : Target → SelectionView → Member → Option Bump
bump_of t a m = option_map (λ v. record { member = m; next = v }) (next_of (bump t a.metadata m.version))

-- the bumps of the chosen members, in order
abbrev pub bumps : Target → SelectionView → Project → List Bump
bumps t a p = filter_map (bump_of t a) (chosen_members a p.members)

-- the version of the workspace, where it is bumped and valid
abbrev pub workspace_current : SelectionView → Project → Option Parts
workspace_current a p = if bumps_workspace a p.members then workspace_version p.tree else None

-- the next version of the workspace, where it changes
abbrev pub workspace_next : Target → SelectionView → Project → Option Parts
workspace_next t a p = option_and_then (λ v. next_of (bump t a.metadata v)) (workspace_current a p)

-- ---- requirements

-- the next version of the crate in a folder
abbrev pub next_in : List Bump → Folder → Option Parts
next_in [] folder = None
next_in (b ∷ bs) folder =
    if same_folder (folder_of b.member.path) folder then Some b.next else next_in bs folder

-- the next version of the crate that the path of an entry names
abbrev pub next_at : List Bump → List ℕ → Tree → Place → Option Parts
next_at bs file t place = option_and_then (next_in bs) (target_folder file t place)

-- a requirement on a bumped crate: the place of its entry, its text, and the next version
pub record Dependent : Type 0 where
  pub place : Place
  pub text : List ℕ
  pub next : Parts

-- a requirement on a bumped crate, where both its text and the next version are given
abbrev pub dependent_at : Place → Option (List ℕ) → Option Parts → Option Dependent
dependent_at place (Some text) (Some v) = Some (record { place = place; text = text; next = v })
dependent_at place _ _ = None

-- the requirement of an entry on a bumped crate
abbrev pub dependent : List Bump → List ℕ → Tree → Place → Option Dependent
dependent bs file t place = dependent_at place (requirement t place) (next_at bs file t place)

-- the requirements of a manifest on bumped crates, in the order of the entries
abbrev pub dependents : List Bump → List ℕ → Tree → List Dependent
dependents bs file t = filter_map (dependent bs file t) (entries t)

-- the new text, where raising gives one
abbrev pub text_of : UpgradeResult → Option (List ℕ)
text_of (Text s) = Some s
text_of _ = None

-- the raised requirement, where it changes
abbrev pub raised_dependent_text : Dependent → Option (List ℕ)
raised_dependent_text f = text_of (upgrade_of f.text f.next)

-- ---- the edits of a manifest

-- the edit of a requirement
abbrev pub requirement_edit : Dependent → Option (Place × List ℕ)
requirement_edit f = option_map (λ s. (version_member f.place, s)) (raised_dependent_text f)

-- the manifest at this path is that of the bumped member, which does not inherit its version
abbrev pub writes_own : List ℕ → Bump → Bool
writes_own file b = same_bytes b.member.path file && not (is_inherited b.member.tree)

-- the edit of that member's version
abbrev pub own_edit : List ℕ → Bump → Option (Place × List ℕ)
own_edit file b = if writes_own file b then Some (package_version, parts_text b.next) else None

-- the edit of the workspace's version in the root manifest
abbrev pub shared_edits : Bool → Option Parts → Edits
shared_edits true next = map (λ v. (shared_version, parts_text v)) (option_to_list next)
shared_edits false next = []

-- the edits of the manifest at a path: by the root's path, the next version of the workspace where it
-- changes, the bumps, and the manifest's path and tree
abbrev pub edits_by : List ℕ → Option Parts → List Bump → List ℕ → Tree → Edits
edits_by root next bs file tree =
    shared_edits (same_bytes file root) next
    ++ (filter_map (own_edit file) bs ++ filter_map requirement_edit (dependents bs file tree))

-- the edits of the manifest at a path, in a project
abbrev pub edits : Target → SelectionView → Project → List ℕ → Tree → Edits
edits t a p file tree = edits_by p.path (workspace_next t a p) (bumps t a p) file tree
