use Rattle.std.proofs.Common.{map}
use Rattle.edit_version.specs.IndexEntry.{entry_of}
use Rattle.edit_cache.proofs.RankLemmas.{ranking_from_sort}
use Rattle.edit_cache.proofs.ranking.Ranked.new.Goals as goal

pub returns-clause-ok : goal.returns-clause-ok
returns-clause-ok c =
    ranking_from_sort (map entry_of c.args.entries.now) c.in_ok-ranks.ranks.items
    c.sort_unstable.new.self.items c.in_ok-ranks.ensures.ok c.sort_unstable.ensures.permutation
    c.sort_unstable.ensures.sorted
