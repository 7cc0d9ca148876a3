-- The version that is chosen among the entries of an index.
use Rattle.std.specs.Prelude.{◌≡◌, Bool, List, Option, Some, None, true}
use Rattle.std.specs.Ordering.{is_le}
use Rattle.semver.specs.Parse.{Parts}
use Rattle.edit_version.specs.Admissible.{entry_order, is_qualifying}
use Rattle.edit_version.specs.Greatest.{IsGreatest, IsGreatestItem}
use Rattle.edit_version.specs.IndexEntry.{IndexEntry}
use Rattle.edit_record.specs.Records.{IsRegistryDependency}
use Rattle.edit_version.specs.RustVersions.{Numbers}
use Rattle.edit_record.specs.declared.dependency.Dependency.{Dependency}

-- the greatest of the admissible entries whose versions pass a test, the last of equal ones, as a
-- dependency; `None` where there is no such entry (own)
abbrev pub IsFound : Option Numbers → (Parts → Bool) → List IndexEntry → Option Dependency → Type 0
IsFound rust test entries None = IsGreatest (is_qualifying rust test) entry_order entries None
IsFound rust test entries (Some d) = (e : IndexEntry)
    × IsGreatestItem (is_qualifying rust test) entry_order entries e × IsRegistryDependency e.name e.version d

-- the greatest of the admissible entries whose versions pass a test, as a dependency; there is one, and it
-- is not less than this entry (own)
abbrev pub IsFoundAtLeast : Option Numbers → (Parts → Bool) → List IndexEntry → IndexEntry
    → Option Dependency → Type 0
IsFoundAtLeast rust test entries least None = ⊥
IsFoundAtLeast rust test entries least (Some d) = (e : IndexEntry)
    × IsGreatestItem (is_qualifying rust test) entry_order entries e × IsRegistryDependency e.name e.version d
    × (is_le (entry_order least e) ≡ true)
