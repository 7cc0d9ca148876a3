-- A text that is read as a version.
use Rattle.std.specs.Prelude.{ℕ, List, Option}
use Rattle.std.specs.Result.{result_ok}
use Rattle.semver.specs.Parse.{Parts, version_parts}

-- the version that a text is, none where it is none (SemVer 2.0.0)
abbrev pub version_read : List ℕ → Option Parts
version_read text = result_ok (version_parts text)
