-- Which of the versions that an index lists a requirement
-- leads to (Cargo reference, "Specifying Dependencies").
use Rattle.std.specs.Prelude.{ℕ, List, length, Bool, false, ◌==◌, ◌||◌, Option, Result, Ok, Err}
use Rattle.semver.specs.Parse.{Held, Parts, req_of}
use Rattle.semver.specs.declared.error.Error.{Error}
use Rattle.edit_version.specs.Admits.{admits}
use Rattle.edit_version.specs.Greatest.{IsGreatest}
use Rattle.edit_version.specs.Laws.{holds_dash}
use Rattle.edit_version.specs.VersionOrder.{full_order}

-- what was read of a text admits the version
abbrev pub admits_read : Result (List Held) Error → Parts → Bool
admits_read (Ok cs) v = admits cs v
admits_read (Err e) v = false

-- the text is a requirement that admits the version
abbrev pub is_admitted : List ℕ → Parts → Bool
is_admitted req v = admits_read (req_of req) v

-- a version without a pre-release, or any where pre-releases are allowed (own)
abbrev pub is_allowed : Bool → Parts → Bool
is_allowed pre v = length v.3 == 0 || pre

-- a version without a pre-release, or any where the requirement has a `-` (own)
abbrev pub is_offered : List ℕ → Parts → Bool
is_offered req v = is_allowed (holds_dash req) v

-- the greatest of the versions that the requirement admits, or none
abbrev pub IsCompatible : List ℕ → List Parts → Option Parts → Type 0
IsCompatible req versions best = IsGreatest (is_admitted req) full_order versions best

-- the greatest of the versions that are offered, or none
abbrev pub IsLatest : List ℕ → List Parts → Option Parts → Type 0
IsLatest req versions best = IsGreatest (is_offered req) full_order versions best
