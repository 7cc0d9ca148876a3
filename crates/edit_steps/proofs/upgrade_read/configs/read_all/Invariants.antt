use Rattle.std.proofs.Common.{◌≡◌, length, take, true}
use Rattle.std.specs.Prelude.{All}
use Rattle.edit_sources.specs.Configured.{given}
use Rattle.edit_sources.specs.CachedConfigs.{AreCached}
use Rattle.edit_store.specs.Store.{OnlyReads}
use Rattle.edit_steps.specs.Named.{AreConfigured, pair_of}
use Rattle.edit_steps.specs.Shared.{HasLists, IsOfSome, lists_for}
use Rattle.edit_steps.proofs.upgrade_read.configs.read_all.Given as goal

abbrev pub invariant-inputs : goal.invariant-inputs
invariant-inputs g l = record {
  store : OnlyReads (g.S.Store.view l.initial.files) (g.S.Store.view l.files);
  cached : AreCached (g.S.Store.view l.files) l.cache;
  each : length l.lists.shared.which.items ≡ length (take l.input-index l.inputs);
  lists : HasLists l.lists.shared;
  read : (g.S.Store.view l.initial.files).tells ≡ true
      → AreConfigured (g.S.Store.view l.initial.files).file_at (given l.cargo_home)
      (pair_of l.named) (take l.input-index l.inputs) (lists_for l.lists.shared);
  others : (g.S.Store.view l.initial.files).tells ≡ true
      → All (IsOfSome (g.S.Store.view l.initial.files).file_at (given l.cargo_home) (pair_of l.named))
      l.lists.shared.lists.items;
}
