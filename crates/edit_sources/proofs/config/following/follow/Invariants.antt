use Rattle.std.proofs.Common.{◌≡◌, ◌-◌, length, map, string_bytes, true}
use Rattle.edit_store.specs.Store.{OnlyReads}
use Rattle.edit_sources.specs.ConfigurationFiles.{IsFollowing}
use Rattle.edit_sources.specs.Configured.{include_view}
use Rattle.edit_sources.proofs.config.following.follow.Given as goal

abbrev pub invariant-files : goal.invariant-files
invariant-files g l = record {
  store : OnlyReads (g.S.Store.view l.initial.store) (g.S.Store.view l.store);
  follows : (g.S.Store.view l.initial.store).tells ≡ true → IsFollowing (g.S.Store.view l.initial.store).file_at
      (string_bytes l.fn.path) (map include_view l.pending.items) l.configs.items;
}

abbrev pub decreases-files : goal.decreases-files
decreases-files g l = 128 - length l.configs.items
