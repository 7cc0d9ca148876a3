-- The greatest among the versions of an answer, by its ranking.
use Rattle.std.proofs.Common.{◌≡◌, List, ℕ, Option, Some, None, Bool, false}
use Rattle.std.specs.Prelude.{option_map}
use Rattle.std.proofs.lemmas.List.Elements.{All-nil}
use Rattle.semver.specs.Parse.{Parts}
use Rattle.edit_version.specs.Admissible.{admissible_in}
use Rattle.edit_version.specs.Greatest.{IsGreatest}
use Rattle.edit_version.specs.IndexEntry.{IndexEntry}
use Rattle.edit_version.specs.Levels.{versions_within}
use Rattle.edit_version.specs.RustVersions.{Numbers}
use Rattle.edit_version.specs.VersionOrder.{full_order}
use Rattle.edit_version.specs.declared.levels.Level.{Level}
use Rattle.edit_sources.specs.Index.{answer_of}
use Rattle.edit_cache.specs.IndexCache.{HasSameCache}
use Rattle.edit_cache.specs.declared.cache.IndexCache.{IndexCache}
use Rattle.edit_cache.specs.CachedAnswer.{IsRankedAt}
use Rattle.edit_cache.specs.Ranking.{IsRanking, ranks_of}
use Rattle.edit_sources.specs.declared.index.IndexKrate.{IndexKrate}
use Rattle.edit_cache.specs.declared.ranking.Ranked.{Ranked}
use Rattle.edit_upgrade.specs.Lookups.{Answer, cached_by, versions_in}
use Rattle.edit_upgrade.specs.Rankings.{IsRankingOf}

-- the ranking beside a cached answer is that of its entries
pub ranking-cached : (answer : Option (Option IndexKrate)) (ranked : Option Ranked) → IsRankedAt answer ranked
    → IsRankingOf (option_map answer_of answer) ranked
ranking-cached None None h = h
ranking-cached None (Some ranked) h = h
ranking-cached (Some None) None h = h
ranking-cached (Some None) (Some ranked) h = h
ranking-cached (Some (Some krate)) None h = h
ranking-cached (Some (Some krate)) (Some ranked) h = h

-- where there is no ranking, no version is given
pub none-ranked : (keep : Parts → Bool) (level : Option Level) (text : List ℕ) (rust : Option Numbers)
    (answer : Option Answer) → IsRankingOf answer None
    → IsGreatest keep full_order (versions_within level text (versions_in rust answer)) None
none-ranked keep level text rust None h = All-nil (λ v. keep v ≡ false)
none-ranked keep level text rust (Some None) h = All-nil (λ v. keep v ≡ false)
none-ranked keep level text rust (Some (Some entries)) h = absurd h

-- what is greatest for each list of which this is the ranking
pub greatest-ranked : (keep : Parts → Bool) (level : Option Level) (text : List ℕ) (rust : Option Numbers)
    (ranked : Ranked) (best : Option Parts)
    → ((entries : List IndexEntry) → IsRanking entries (ranks_of ranked)
    → IsGreatest keep full_order (versions_within level text (admissible_in rust entries)) best)
    → (answer : Option Answer) → IsRankingOf answer (Some ranked)
    → IsGreatest keep full_order (versions_within level text (versions_in rust answer)) best
greatest-ranked keep level text rust ranked best g None h = absurd h
greatest-ranked keep level text rust ranked best g (Some None) h = absurd h
greatest-ranked keep level text rust ranked best g (Some (Some entries)) h = g entries h

-- the answers that a cache keeps, where each is the one that was
pub cached-same : {I : Type 0} (old new : IndexCache I) → HasSameCache old new → cached_by new ≡ cached_by old
cached-same old new h = λ i address name. option_map answer_of (h address name i)
