-- The versions of crates to which an index is restricted.
use Rattle.std.specs.Prelude.{◌&&◌, [], ◌∷◌, ℕ, List, Bool, true, Option, Some, None, option_map}
use Rattle.std.specs.List.{filter}
use Rattle.edit_lock.specs.AdaptedCalls.{locks}
use Rattle.edit_lock.specs.LockFile.{Package, spec_of}
use Rattle.edit_policy.specs.Holds.{passes_holds}
use Rattle.edit_policy.specs.declared.policy.CratePolicy.{CratePolicy}
use Rattle.edit_version.specs.IndexEntry.{IndexEntry}

-- a test of a crate's name and the text of one of its versions (own)
abbrev pub VersionTest : Type 0
VersionTest = List ℕ → List ℕ → Bool

-- whether a name and a version make up one of these packages, as `name@version` (The Cargo Book, "Package ID
-- Specifications")
abbrev pub has_version : List Package → VersionTest
has_version packages name version = locks packages (spec_of (record { name = name; version = version }))

-- the test of what a policy says of crates; none where it says nothing of any (own)
abbrev pub hold_test : List CratePolicy → Option VersionTest
hold_test [] = None
hold_test (c ∷ cs) = Some (passes_holds (c ∷ cs))

-- both tests, where there are two, else the one that there is (own)
abbrev pub both_tests : Option VersionTest → Option VersionTest → Option VersionTest
both_tests None two = two
both_tests (Some one) None = Some one
both_tests (Some one) (Some two) = Some (λ name version. one name version && two name version)

-- the test of an index that is restricted to the packages of a lock file, where they are given, and by what a
-- policy says of crates; none where nothing restricts it (own)
abbrev pub restriction_test : Option (List Package) → List CratePolicy → Option VersionTest
restriction_test packages crates = both_tests (option_map has_version packages) (hold_test crates)

-- whether a version passes a test, where there is one (own)
abbrev pub passes : Option VersionTest → VersionTest
passes None name version = true
passes (Some test) name version = test name version

-- the entries in versions that pass a test (own)
abbrev pub retained_entries : (List ℕ → Bool) → List IndexEntry → List IndexEntry
retained_entries keeps entries = filter (λ e. keeps e.version) entries
