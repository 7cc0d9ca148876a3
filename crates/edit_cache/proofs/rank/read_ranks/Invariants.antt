use Rattle.std.proofs.Common.{◌≡◌, map, take}
use Rattle.edit_version.specs.IndexEntry.{entry_of}
use Rattle.edit_cache.specs.Ranking.{ranks_from}
use Rattle.edit_cache.specs.Ranks.{rank_of}
use Rattle.edit_cache.proofs.rank.read_ranks.Given as goal

abbrev pub invariant-loop-place : goal.invariant-loop-place
invariant-loop-place l = map rank_of l.ranks.items ≡ ranks_from 0 (map entry_of (take l.place l.entries))
