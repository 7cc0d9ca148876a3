use Rattle.std.proofs.Common.{◌≡◌, map, take}
use Rattle.edit_version.specs.IndexEntry.{entry_of}
use Rattle.edit_restricted_index.specs.Restrictions.{passes, retained_entries}
use Rattle.edit_restricted_index.specs.VersionTests.{tests_of}
use Rattle.edit_restricted_index.proofs.retained_entries.passing_entries.Given as goal

abbrev pub invariant-entries : goal.invariant-entries
invariant-entries l = map entry_of l.retained.items
    ≡ retained_entries (passes (tests_of l.tests) l.name) (map entry_of (take l.entry-index l.entries))
