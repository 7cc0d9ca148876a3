use Rattle.std.proofs.Common.{ap}
use Rattle.url.specs.Parts.{serialize}
use Rattle.edit_cache.specs.IndexCache.{index_of, cached_answer_at}
use Rattle.edit_upgrade.proofs.FetchLemmas.{adds-of, others-of}
use Rattle.edit_upgrade.proofs.lookup_log.fetch_one.Goals as goal

pub returns-clause-others : goal.returns-clause-others
returns-clause-others g c =
    others-of (serialize c.args.registry.now) c.args.name.now (cached_answer_at c.args.index.now)
    (cached_answer_at c.fetch.new.self) c.fetch.ensures.others

pub returns-clause-left : goal.returns-clause-left
returns-clause-left g c = record {
  adds = adds-of c.fetch.result
      (g.I.Index.view (index_of c.args.index.now)).gives c.args.registry.now c.args.name.now
      (cached_answer_at c.args.index.now)
      (cached_answer_at c.fetch.new.self) c.fetch.ensures.others
      (λ some a n. ap (λ x. cached_answer_at x a n) (c.fetch.ensures.first some).0)
      c.fetch.ensures.given c.fetch.ensures.refused;
  same = c.fetch.ensures.same;
  later = c.fetch.ensures.cause.later;
}
