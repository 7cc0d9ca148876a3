use Rattle.std.proofs.Common.{ap, sym, ◌∙◌, ◌++◌}
use Rattle.edit_version.specs.IndexEntry.{entry_of}
use Rattle.edit_cache.specs.Ranking.{rank_at}
use Rattle.edit_cache.proofs.RankLemmas.{ranks_from-step}
use Rattle.edit_cache.proofs.rank.read_ranks.Goals as goal

pub loop-place-preserved : goal.loop-place-preserved
loop-place-preserved c =
    let index_entry = c.index-entries-place.result in
    c.in_ok-push_rank.ensures.ok
    ∙ ap (λ ranks. ranks ++ rank_at c.loop-place.place (entry_of index_entry)) c.loop-place.invariant
    ∙ sym (ranks_from-step c.args.entries.now c.loop-place.place index_entry c.loop-place-test.true
    c.index-entries-place.is)
