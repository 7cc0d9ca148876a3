-- The ranking of the cached answer for a name.
use Rattle.std.specs.Prelude.{Option, Some, None}
use Rattle.edit_cache.specs.Ranking.{IsRanking, ranks_of}
use Rattle.edit_cache.specs.declared.ranking.Ranked.{Ranked}
use Rattle.edit_upgrade.specs.Lookups.{Answer}

-- it is that of the answer's entries; there is none where no answer is cached, or the answer is that there is
-- no such name (own)
abbrev pub IsRankingOf : Option Answer → Option Ranked → Type 0
IsRankingOf (Some (Some entries)) (Some ranked) = IsRanking entries (ranks_of ranked)
IsRankingOf (Some (Some entries)) None = ⊥
IsRankingOf (Some None) (Some ranked) = ⊥
IsRankingOf (Some None) None = Unit {0}
IsRankingOf None (Some ranked) = ⊥
IsRankingOf None None = Unit {0}
