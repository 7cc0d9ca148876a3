use Rattle.std.proofs.Common.{Option, ap, map, subst}
use Rattle.std.specs.Prelude.{option_copied, option_map}
use Rattle.edit_version.specs.Admissible.{entry_order, is_qualifying, is_selectable}
use Rattle.edit_version.specs.Greatest.{IsGreatest}
use Rattle.edit_version.specs.IndexEntry.{IndexEntry, entry_of}
use Rattle.edit_version.specs.Requirement.{comparators_of}
use Rattle.edit_version.specs.RustVersions.{numbers_of}
use Rattle.edit_version.specs.declared.fetch.IndexVersion.{IndexVersion}
use Rattle.edit_version.proofs.GreatestEntries.{entry_total}
use Rattle.edit_version.proofs.Greatests.{advanced-all, advanced-more}
use Rattle.edit_version.proofs.candidates.greatest_entry.Goals as goal

pub entries-preserved : goal.entries-preserved
entries-preserved c =
    advanced-more (λ (t : IndexVersion). entry_of t)
    (is_qualifying (option_map numbers_of c.args.rust_version)
    (is_selectable c.args.allow_prerelease (option_map comparators_of (option_copied c.args.req))))
    entry_order entry_total c.args.versions.now c.entries.index_entry-index c.index_entry-item.result
    (option_map (λ f. entry_of f.index_entry.now) c.entries.best)
    (option_map (λ f. entry_of f.index_entry.now) c.in_ok-best.best) c.entries-test.true c.index_entry-item.is
    c.entries.invariant c.in_ok-best.ensures.ok

pub returns-in-None-clause-ok : goal.returns-in-None-clause-ok
returns-in-None-clause-ok c =
    let whole = advanced-all (λ (t : IndexVersion). entry_of t)
    (is_qualifying (option_map numbers_of c.args.rust_version)
    (is_selectable c.args.allow_prerelease (option_map comparators_of (option_copied c.args.req))))
    entry_order c.args.versions.now c.entries.index_entry-index
    (option_map (λ f. entry_of f.index_entry.now) c.entries.best) c.entries-test.false c.entries.invariant in
    let none = ap (λ o. option_map (λ f. entry_of f.index_entry.now) o) c.in-None.is in
    subst (λ (o : Option IndexEntry). IsGreatest
    (is_qualifying (option_map numbers_of c.args.rust_version)
    (is_selectable c.args.allow_prerelease (option_map comparators_of (option_copied c.args.req))))
    entry_order (map entry_of c.args.versions.now) o) none whole
