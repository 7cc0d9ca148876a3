use Rattle.std.proofs.Common.{map, take, string_bytes}
use Rattle.std.specs.Prelude.{All}
use Rattle.edit_sources.specs.CachedConfigs.{AreCached, IsSearchedIn}
use Rattle.edit_store.specs.Store.{OnlyReads}
use Rattle.edit_sources.proofs.config.cache.ConfigCache.search_folders.Given as goal

abbrev pub invariant-loop-place : goal.invariant-loop-place
invariant-loop-place g l = record {
  store : OnlyReads (g.S.Store.view l.initial.store) (g.S.Store.view l.store);
  are_cached : AreCached (g.S.Store.view l.initial.store) l.initial.self → AreCached (g.S.Store.view l.store) l.self;
  searched : All (IsSearchedIn l.self) (map string_bytes (take l.place-index l.places));
}
