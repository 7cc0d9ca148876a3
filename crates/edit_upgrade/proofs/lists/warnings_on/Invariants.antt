use Rattle.std.proofs.Common.{map, take}
use Rattle.edit_manifest.specs.EntryViews.{entry_view}
use Rattle.edit_upgrade.specs.Lists.{AreWarnings, warning_view}
use Rattle.edit_upgrade.proofs.lists.warnings_on.Given as goal

abbrev pub invariant-entries : goal.invariant-entries
invariant-entries l =
    AreWarnings l.parsed.options.now l.input (map entry_view (take l.entry-index l.entries))
    (map warning_view l.warnings.items)
