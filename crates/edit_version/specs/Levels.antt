-- Levels: which versions are near enough to the floor of a requirement (SemVer 2.0.0, item 2, whose three
-- numbers are taken as they are; Cargo reference, "Specifying Dependencies", for what a requirement names).
use Rattle.std.specs.Prelude.{◌&&◌, ◌==◌, ℕ, List, Bool, true, Option, Some, filter, find, option_copied, option_map, map, string_bytes}
use Rattle.std.specs.Option.{option_or}
use Rattle.std.specs.Str.{bytes_eq}
use Rattle.semver.specs.Identifiers.{comparator_view}
use Rattle.semver.specs.Parse.{Parts}
use Rattle.edit_version.specs.Floors.{comparator_version, floor_of}
use Rattle.edit_version.specs.declared.levels.Bound.{Bound}
use Rattle.edit_version.specs.declared.levels.CrateLevel.{CrateLevel}
use Rattle.edit_version.specs.declared.levels.Level.{Level}
use Rattle.edit_version.specs.declared.levels.Levels.{Levels}
use Rattle.edit_version.specs.declared.levels.Level.TheVariants.{Minor, Patch}

-- a version has the numbers that a level keeps of a floor: `patch` keeps the major and the minor number,
-- `minor` the major number. Every version has them where there is no level or no floor
abbrev pub has_numbers : Option Level → Option Parts → Parts → Bool
has_numbers (Some Patch) (Some f) v = (v.0 == f.0) && (v.1 == f.1)
has_numbers (Some Minor) (Some f) v = v.0 == f.0
has_numbers level floor v = true

-- a version is within a level of a requirement
abbrev pub is_within : Option Level → List ℕ → Parts → Bool
is_within level text v = has_numbers level (floor_of text) v

-- those of these versions that are within a level of a requirement
abbrev pub versions_within : Option Level → List ℕ → List Parts → List Parts
versions_within level text versions = filter (is_within level text) versions

-- a version is within a bound (own)
abbrev pub is_in_bound : Bound → Parts → Bool
is_in_bound b v =
    has_numbers b.level (option_map comparator_version (option_map comparator_view (option_copied b.floor))) v

-- a level for each crate, by its name; none where every version is within it
abbrev pub CrateBounds : Type 0
CrateBounds = List ℕ → Option Level

-- the level for the crate of a name: the first one for that name, else the one for all crates (own)
abbrev pub level_for : Option Level → List CrateLevel → CrateBounds
level_for all crates name =
    option_or (option_map (λ c. c.level) (find (λ c. bytes_eq (string_bytes c.name) name) crates)) all

-- the level that levels have for the crate of a name (own)
unfoldable pub level_of : Levels → CrateBounds
level_of levels name = level_for levels.all levels.crates.now name

-- the levels for single crates, each behind the name of its crate (own)
abbrev pub crate_levels : List CrateLevel → List (List ℕ × Level)
crate_levels crates = map (λ c. (string_bytes c.name, c.level)) crates
