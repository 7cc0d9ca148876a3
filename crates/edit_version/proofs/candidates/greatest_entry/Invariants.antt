use Rattle.std.proofs.Common.{map, take}
use Rattle.std.specs.Prelude.{option_copied, option_map}
use Rattle.edit_version.specs.Admissible.{entry_order, is_qualifying, is_selectable}
use Rattle.edit_version.specs.Greatest.{IsGreatest}
use Rattle.edit_version.specs.IndexEntry.{entry_of}
use Rattle.edit_version.specs.Requirement.{comparators_of}
use Rattle.edit_version.specs.RustVersions.{numbers_of}
use Rattle.edit_version.proofs.candidates.greatest_entry.Given as goal

abbrev pub invariant-entries : goal.invariant-entries
invariant-entries l =
    IsGreatest (is_qualifying (option_map numbers_of l.rust_version)
    (is_selectable l.allow_prerelease (option_map comparators_of (option_copied l.req))))
    entry_order (map entry_of (take l.index_entry-index l.versions)) (option_map (λ f. entry_of f.index_entry.now) l.best)
