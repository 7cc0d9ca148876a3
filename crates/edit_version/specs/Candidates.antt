-- What is read of an entry of an index, as clauses see it.
use Rattle.std.specs.Borrow.{Bor}
use Rattle.std.specs.Prelude.{Bool, Option, option_copied, option_map}
use Rattle.semver.specs.Identifiers.{parts_of}
use Rattle.semver.specs.Parse.{Parts}
use Rattle.semver.specs.declared.Version.{Version}
use Rattle.semver.specs.declared.VersionReq.{VersionReq}
use Rattle.edit_version.specs.Admissible.{is_selectable}
use Rattle.edit_version.specs.Requirement.{comparators_of}
use Rattle.edit_version.specs.RustVersions.{Numbers, numbers_of}
use Rattle.edit_version.specs.declared.rust_version.RustVersion.{RustVersion}
use Rattle.edit_version.specs.declared.candidates.Candidate.{Candidate}

-- the versions that are wanted, by what a call is given: a requirement admits them, or without one they may
-- have their pre-release (own)
abbrev pub wants : Bool → Option (Bor VersionReq) → Parts → Bool
wants pre req = is_selectable pre (option_map comparators_of (option_copied req))

-- the numbers of a Rust version, where one is given (own)
abbrev pub numbers_in : Option RustVersion → Option Numbers
numbers_in rust = option_map numbers_of rust

-- the parts of a version that is lent, where one is (own)
abbrev pub parts_in : Option (Bor Version) → Option Parts
parts_in version = option_map parts_of (option_copied version)

-- the version that was read, and the Rust version that the entry requires (own)
abbrev pub candidate_view : Candidate → Parts × Option Numbers
candidate_view c = (parts_of c.version, option_map numbers_of c.rust_version)
