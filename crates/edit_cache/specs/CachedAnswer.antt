-- The ranking beside a cached result (own).
use Rattle.std.specs.Prelude.{Option, Some, None}
use Rattle.std.proofs.Props.{props}
use Rattle.edit_sources.specs.Index.{entries_of}
use Rattle.edit_cache.specs.Ranking.{IsRanking, ranks_of}
use Rattle.edit_sources.specs.declared.index.IndexKrate.{IndexKrate}
use Rattle.edit_cache.specs.declared.ranking.Ranked.{Ranked}

-- the ranking, if there is one, is that of the cached entries (own)
abbrev pub FitsAnswer : Option IndexKrate → Option Ranked → Type 0
FitsAnswer answer None = Unit {0}
FitsAnswer None (Some ranked) = ⊥
FitsAnswer (Some krate) (Some ranked) = IsRanking (entries_of krate) (ranks_of ranked)

-- there is a ranking if there are entries, and it is theirs (own)
abbrev pub IsRanked : Option IndexKrate → Option Ranked → Type 0
IsRanked None None = Unit {0}
IsRanked None (Some ranked) = ⊥
IsRanked (Some krate) None = ⊥
IsRanked (Some krate) (Some ranked) = IsRanking (entries_of krate) (ranks_of ranked)

-- the ranking of the cached result, and none where nothing is cached (own)
abbrev pub IsRankedAt : Option (Option IndexKrate) → Option Ranked → Type 0
IsRankedAt None None = Unit {0}
IsRankedAt None (Some ranked) = ⊥
IsRankedAt (Some answer) ranked = IsRanked answer ranked

pub FitsAnswer-prop : (answer : Option IndexKrate) (ranked : Option Ranked)
    → IsProp (FitsAnswer answer ranked)
FitsAnswer-prop answer None = hlevel
FitsAnswer-prop None (Some ranked) = hlevel
FitsAnswer-prop (Some krate) (Some ranked) = hlevel props
