-- The tests of a restricted index, and what it is restricted to, as contracts see them.
use Rattle.std.specs.Prelude.{Option, String, map, option_map}
use Rattle.std.specs.BTreeSet.{BTreeSet, contains_text}
use Rattle.std.specs.declared.alloc.Global.{Global}
use Rattle.edit_lock.specs.LockFile.{spec_of}
use Rattle.edit_lock.specs.Views.{locked_package_view}
use Rattle.edit_restricted_index.specs.HoldsByName.{passes_map}
use Rattle.edit_restricted_index.specs.Restrictions.{VersionTest, both_tests, restriction_test}
use Rattle.edit_restricted_index.specs.declared.version_tests.Restriction.{Restriction}
use Rattle.edit_restricted_index.specs.declared.version_tests.VersionTests.{VersionTests}

-- whether a name and a version make up one of these texts of the form `name@version` (own)
abbrev pub spec_test : BTreeSet (String Global) → VersionTest
spec_test specs name version = contains_text specs (spec_of (record { name = name; version = version }))

-- the test of a restricted index; none where nothing restricts it (own)
abbrev pub tests_of : VersionTests → Option VersionTest
tests_of tests = both_tests (option_map spec_test tests.specs) (option_map passes_map tests.holds)

-- the test of a restriction; none where it restricts nothing (own)
abbrev pub test_of : Restriction → Option VersionTest
test_of r = restriction_test (option_map (λ ps. map locked_package_view ps.now) r.locked) r.crates.now
