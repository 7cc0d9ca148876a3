-- Which members of a workspace are bumped, and whether the version of the workspace is (own, after
-- cargo-edit).
use Rattle.std.specs.Prelude.{ℕ, List, [], ◌∷◌, ◌++◌, ◌==◌, ◌&&◌, ◌||◌, Bool, not, if◌then◌else◌, Option, length}
use Rattle.std.specs.List.{filter, list_any}
use Rattle.semver.specs.Parse.{Parts}
use Rattle.edit_tree.specs.Assertions.{same_bytes}
use Rattle.edit_manifest.specs.Tables.{Tree}
use Rattle.edit_manifest.specs.Versions.{is_inherited}

-- a selection: members by their names, or the workspace; the excluded names; and the build metadata of new
-- versions
pub record SelectionView : Type 0 where
  pub packages : List (List ℕ)
  pub exclude : List (List ℕ)
  pub workspace : Bool
  pub metadata : Option (List ℕ)

-- a member of a workspace: its name and version in the metadata, and its manifest, at a normalized path
pub record Member : Type 0 where
  pub name : List ℕ
  pub version : Parts
  pub path : List ℕ
  pub tree : Tree

-- the name is one of these
abbrev pub is_among : List (List ℕ) → List ℕ → Bool
is_among names name = list_any (same_bytes name) names

-- all members are selected: with `--workspace`, or since no name is given
abbrev pub is_all_selected : SelectionView → Bool
is_all_selected a = a.workspace || (length a.packages == 0)

-- all members are selected, and none is excluded
abbrev pub is_whole_selected : SelectionView → Bool
is_whole_selected a = is_all_selected a && (length a.exclude == 0)

-- the member is selected: it is not excluded where all are selected, else it is named
abbrev pub is_member_selected : SelectionView → Member → Bool
is_member_selected a m =
    if is_all_selected a then not (is_among a.exclude m.name) else is_among a.packages m.name

-- the selected members that inherit their version from the workspace
abbrev pub inheriting_members : SelectionView → List Member → List Member
inheriting_members a ms = filter (λ m. is_member_selected a m && is_inherited m.tree) ms

-- the members that are not selected but inherit the version of the workspace, where a selected one does
abbrev pub added_by_inheritance : SelectionView → List Member → List Member
added_by_inheritance a ms =
    if length (inheriting_members a ms) == 0 then []
    else filter (λ m. not (is_member_selected a m) && is_inherited m.tree) ms

-- the members that are bumped: the selected ones, then those added since they inherit, each in the order of
-- the members
abbrev pub chosen_members : SelectionView → List Member → List Member
chosen_members a ms = filter (is_member_selected a) ms ++ added_by_inheritance a ms

-- the version of the workspace is bumped
abbrev pub bumps_workspace : SelectionView → List Member → Bool
bumps_workspace a ms = is_whole_selected a || not (length (inheriting_members a ms) == 0)

-- ---- errors of a selection

-- the names without duplicates, each where it occurs first
abbrev pub each_once : List (List ℕ) → List (List ℕ)
each_once [] = []
each_once (name ∷ names) = name ∷ filter (λ n. not (same_bytes name n)) (each_once names)

-- the selected names that no member has, without duplicates
abbrev pub missing : SelectionView → List (List ℕ) → List (List ℕ)
missing a names = filter (λ name. not (is_among names name)) (each_once a.packages)

-- the excluded members that inherit a version of the workspace that is bumped
abbrev pub excluded_inheriting : SelectionView → List Member → List Member
excluded_inheriting a ms = filter (λ m. is_among a.exclude m.name) (added_by_inheritance a ms)
