use Rattle.std.proofs.Common.{map, take}
use Rattle.std.specs.Prelude.{All, option_map}
use Rattle.edit_version.specs.RustVersions.{numbers_of}
use Rattle.edit_cache.specs.IndexCache.{index_of}
use Rattle.edit_upgrade.specs.Addresses.{AreAddresses}
use Rattle.edit_upgrade.specs.Found.{row_entry_view}
use Rattle.edit_upgrade.specs.Lines.{line_of}
use Rattle.edit_upgrade.specs.Causes.{IsPassed}
use Rattle.edit_upgrade.specs.LookupSteps.{AreAllCached, AreSteps, Leaves}
use Rattle.edit_upgrade.specs.Lookups.{cached_basis, cached_by}
use Rattle.edit_upgrade.specs.PairSets.{holds_pair}
use Rattle.edit_upgrade.specs.Rows.{AreDecided}
use Rattle.edit_upgrade.specs.Upgraded.{IsNeededIn}
use Rattle.edit_upgrade.proofs.walk.walk.Given as goal

abbrev pub invariant-entries : goal.invariant-entries
invariant-entries g l = record {
  addresses : AreAddresses l.fn.addresses.configs.now l.addresses;
  cached : AreAllCached (holds_pair l.books.pairs) (cached_by l.index);
  steps : AreSteps l.fn.addresses.configs.now (g.I.Index.view (index_of l.fn.index)).gives
      (map row_entry_view (take l.entry-index l.entries))
      (cached_by l.fn.index) (cached_by l.index) l.fn.books.looks.items l.books.looks.items
      (holds_pair l.fn.books.pairs) (holds_pair l.books.pairs);
  passed : All (IsPassed l.fn.addresses.configs.now (cached_by l.index)) (map row_entry_view (take l.entry-index l.entries));
  rows : AreDecided (cached_basis l.job.number l.job.parsed.options.now
      (option_map numbers_of l.job.input.now.rust_version)
      l.fn.addresses.configs.now (cached_by l.index))
      (map row_entry_view (take l.entry-index l.entries)) (map line_of l.rows.items);
  left : Leaves (IsNeededIn l.fn.addresses.configs.now (map row_entry_view l.entries))
      (g.I.Index.view (index_of l.fn.index)).gives (g.I.Index.view (index_of l.index)).gives
      (g.I.Index.view (index_of l.fn.index)).faults (g.I.Index.view (index_of l.index)).faults
      (cached_by l.fn.index) (cached_by l.index);
}
