use Rattle.std.proofs.Common.{◌≡◌, ℕ, List, map, true, vec_len}
use Rattle.edit_store.specs.Store.{OnlyReads}
use Rattle.edit_sources.specs.ConfigurationFiles.{IsFollowing}
use Rattle.edit_sources.specs.Configured.{include_view}
use Rattle.edit_sources.specs.declared.config.Config.{Config}
use Rattle.edit_sources.proofs.config.following.next_file.Given as goal

abbrev pub invariant-loop-next : goal.invariant-loop-next
invariant-loop-next g l = record {
  store : OnlyReads (g.S.Store.view l.initial.store) (g.S.Store.view l.store);
  follows : (g.S.Store.view l.initial.store).tells ≡ true → (start : List ℕ) (configs : List Config)
      → IsFollowing (g.S.Store.view l.initial.store).file_at start
      (map include_view l.initial.pending.items) configs
      → IsFollowing (g.S.Store.view l.initial.store).file_at start (map include_view l.pending.items) configs;
}

abbrev pub decreases-loop-next : goal.decreases-loop-next
decreases-loop-next g l = vec_len l.pending
