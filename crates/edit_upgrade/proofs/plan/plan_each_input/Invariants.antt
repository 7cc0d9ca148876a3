use Rattle.std.proofs.Common.{◌≡◌, [], take}
use Rattle.std.specs.Prelude.{All, IsUtf8}
use Rattle.std.specs.BTreeSet.{contains_text}
use Rattle.edit_cache.specs.IndexCache.{index_of}
use Rattle.edit_upgrade.specs.Addresses.{AreCaches}
use Rattle.edit_upgrade.specs.ConfigLists.{lists_in}
use Rattle.edit_upgrade.specs.Drafts.{IsDraft}
use Rattle.edit_upgrade.specs.Lookups.{cached_by}
use Rattle.edit_upgrade.specs.Missing.{AreKnown}
use Rattle.edit_upgrade.specs.Caches.{LeavesCache, cache_view}
use Rattle.edit_upgrade.specs.Upgraded.{IsNeeded}
use Rattle.edit_upgrade.proofs.plan.plan_each_input.Given as goal

abbrev pub invariant-inputs : goal.invariant-inputs
invariant-inputs g l = record {
  draft : IsDraft l.parsed.options.now (take l.i l.inputs) (take l.i (lists_in l.configs))
      (g.I.Index.view (index_of l.fn.index)).gives
      (cached_by l.fn.index) (cached_by l.index) l.draft;
  utf8 : l.documents ≡ [] → All (λ x. IsUtf8 x.bytes.items) (take l.i l.inputs);
  known : AreKnown l.parsed.options.now (take l.i l.inputs) (contains_text l.draft.known);
  caches : AreCaches l.configs.lists.now l.caches;
  left : LeavesCache (IsNeeded l.inputs (lists_in l.configs)) (cache_view g.I.Index.view l.fn.index)
      (cache_view g.I.Index.view l.index);
}
