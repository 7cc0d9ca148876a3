use Rattle.std.proofs.Common.{◌≡◌, true, map, take}
use Rattle.edit_lookups.specs.Lookups.{lookup_text}
use Rattle.edit_store.specs.Store.{OnlyReads}
use Rattle.edit_fetch.specs.Plans.{AreRequests}
use Rattle.edit_fetch.proofs.requests.requests.Given as goal

abbrev pub invariant-loop-i : goal.invariant-loop-i
invariant-loop-i g l = record {
  store : OnlyReads (g.S.Store.view l.initial.store) (g.S.Store.view l.store);
  made : (g.S.Store.view l.initial.store).tells ≡ true
      → AreRequests (g.S.Store.view l.initial.store).file_at l.plan
      (map lookup_text (take l.i l.lookups)) l.requests.items;
}
