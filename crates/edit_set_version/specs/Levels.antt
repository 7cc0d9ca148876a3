-- The names of the levels (own, after cargo-edit).
use Rattle.std.specs.Prelude.{◌≡◌, ◌≢◌, List, ℕ, Result, Ok, Err, codes}
use Rattle.std.specs.Borrow.{Bor}
use Rattle.edit_set_version.specs.declared.set_version.BumpLevel.{BumpLevel}
use Rattle.edit_set_version.specs.declared.set_version.BumpLevel.TheVariants as level

-- the name of a level
abbrev pub level_name : BumpLevel → List ℕ
level_name level.Major = codes "major"
level_name level.Minor = codes "minor"
level_name level.Patch = codes "patch"
level_name level.Release = codes "release"
level_name level.Rc = codes "rc"
level_name level.Beta = codes "beta"
level_name level.Alpha = codes "alpha"

-- the message for an argument that is no level; as in cargo-edit it leaves out `release`
abbrev pub valid_levels : List ℕ
valid_levels = codes "[valid values: major, minor, patch, rc, beta, alpha]"

-- the level of this name, or the message where no level has it
abbrev pub IsLevel : List ℕ → Result BumpLevel (Bor (List ℕ)) → Type 0
IsLevel text (Ok l) = text ≡ level_name l
IsLevel text (Err e) = (e.now ≡ valid_levels) × ((l : BumpLevel) → text ≢ level_name l)
