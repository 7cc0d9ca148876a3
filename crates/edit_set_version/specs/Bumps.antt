-- The next version that a target makes of a version (SemVer 2.0.0, items 6 to 11; the levels, and the
-- result at an equal version, are cargo-edit's).
use Rattle.std.specs.Prelude.{◌≡◌, ◌==◌, ◌&&◌, ℕ, List, [], Bool, Option, Some, None, if◌then◌else◌, length}
use Rattle.std.specs.declared.cmp.Ordering.{Ordering}
use Rattle.std.specs.declared.cmp.Ordering.TheVariants.{Less, Equal, Greater}
use Rattle.semver.specs.Identifiers.{parts_of}
use Rattle.semver.specs.Parse.{Parts}
use Rattle.semver.specs.declared.Version.{Version}
use Rattle.edit_version.specs.Increments.{Change, ChangeError, Refused, To, Major, Minor, Patch, is_text, step, with_build}
use Rattle.edit_version.specs.Laws.{IsReadable}
use Rattle.edit_version.specs.Phases.{alpha, beta, rc}
use Rattle.edit_version.specs.VersionOrder.{full_order}
use Rattle.edit_set_version.specs.declared.set_version.BumpLevel.{BumpLevel}
use Rattle.edit_set_version.specs.declared.set_version.BumpLevel.TheVariants as level
use Rattle.edit_set_version.specs.declared.set_version.TargetVersion.{TargetVersion}
use Rattle.edit_set_version.specs.declared.set_version.TargetVersion.TheVariants as target

-- a target: a level to raise by, or a version to set
pub data Target : Type 0 where
  by_level : BumpLevel → Target
  exactly : Parts → Target

-- the target, from the program's type
abbrev pub target_of : TargetVersion → Target
target_of (target.Relative l) = by_level l
target_of (target.Absolute v) = exactly (parts_of v)

-- the result of a bump (own)
pub data Bumped : Type 0 where
  stays : Bumped
  becomes : Parts → Bumped
  refused : ChangeError → Bumped
  -- the requested version is lower
  lower : Parts → Bumped

-- without its pre-release (SemVer 2.0.0, item 9)
abbrev pub without_prerelease : Parts → Parts
without_prerelease v = (v.0, v.1, v.2, [], v.4)

-- raised by a level: the increment; but patch of a pre-release, and release, only clear the pre-release
-- (own)
abbrev pub raised_by : BumpLevel → Parts → Change
raised_by level.Major v = step Major v
raised_by level.Minor v = step Minor v
raised_by level.Patch v = if length v.3 == 0 then step Patch v else To (without_prerelease v)
raised_by level.Release v = To (without_prerelease v)
raised_by level.Rc v = step rc v
raised_by level.Beta v = step beta v
raised_by level.Alpha v = step alpha v

-- with build metadata set, where it is given (SemVer 2.0.0, item 10)
abbrev pub with_given : Option (List ℕ) → Change → Change
with_given None c = c
with_given (Some m) (Refused r) = Refused r
with_given (Some m) (To v) = with_build m v

-- the two versions are equal, build metadata included
abbrev pub is_same : Parts → Parts → Bool
is_same v w = v.0 == w.0 && v.1 == w.1 && v.2 == w.2 && is_text v.3 w.3 && is_text v.4 w.4

-- the result of a change: none where it equals the current version (own)
abbrev pub unless_same : Parts → Change → Bumped
unless_same current (Refused r) = refused r
unless_same current (To v) = if is_same v current then stays else becomes v

-- the result of a change, even where it equals the current version (own)
abbrev pub always : Change → Bumped
always (Refused r) = refused r
always (To v) = becomes v

-- a requested version with the given build metadata, else with that of the current one
abbrev pub with_filled_build : Option (List ℕ) → Parts → Parts → Change
with_filled_build None current v = To (v.0, v.1, v.2, v.3, current.4)
with_filled_build (Some m) current v = with_build m v

-- a requested version, with build metadata filled in where it has none
abbrev pub fill_requested : Option (List ℕ) → Parts → Parts → Change
fill_requested given current v = if length v.4 == 0 then with_filled_build given current v else To v

-- the result for a requested version, by its order to the current one: it may only be greater (own)
abbrev pub by_order : Ordering → Option (List ℕ) → Parts → Parts → Bumped
by_order Greater given current v = always (fill_requested given current v)
by_order Equal given current v = stays
by_order Less given current v = lower v

-- the result of a target at the current version, with the given build metadata
abbrev pub bump : Target → Option (List ℕ) → Parts → Bumped
bump (by_level l) given current = unless_same current (with_given given (raised_by l current))
bump (exactly v) given current = by_order (full_order v current) given current v

-- the next version, where the version changes
abbrev pub next_of : Bumped → Option Parts
next_of (becomes v) = Some v
next_of _ = None

-- the result, from the next version: unchanged where there is none
abbrev pub bumped_to : Option Version → Bumped
bumped_to None = stays
bumped_to (Some v) = becomes (parts_of v)

-- a requested version can be parsed
abbrev pub IsReadableTarget : Target → Type 0
IsReadableTarget (by_level l) = Unit {0}
IsReadableTarget (exactly v) = IsReadable v

-- the next version is greater, where the target is a version to set
abbrev pub IsGreaterUnlessRelative : Target → Parts → Parts → Type 0
IsGreaterUnlessRelative (by_level l) next current = Unit {0}
IsGreaterUnlessRelative (exactly v) next current = full_order next current ≡ Greater
