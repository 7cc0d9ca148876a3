use Rattle.std.proofs.Common.{◌∙◌, sym}
use Rattle.edit_sources.proofs.CachedConfigLemmas.{cached_after}
use Rattle.edit_sources.proofs.FollowLemmas.{read_in_same}
use Rattle.edit_sources.proofs.config.cache.ConfigCache.search_folder.Goals as goal

pub returns-in-Err-clause-preserved : goal.returns-in-Err-clause-preserved
returns-in-Err-clause-preserved g c = λ are_cached.
    cached_after (g.S.Store.view c.args.store.now) (g.S.Store.view c.configs_at.new.store) c.args.self.now
    c.configs_at.ensures.store are_cached

pub returns-in_err-insert_configs-clause-preserved : goal.returns-in_err-insert_configs-clause-preserved
returns-in_err-insert_configs-clause-preserved g c = λ are_cached.
    let seen = g.S.Store.view c.args.store.now in
    let next = g.S.Store.view c.configs_at.new.store in
    let reads = c.configs_at.ensures.store in
    c.insert_configs.ensures.cached next (cached_after seen next c.args.self.now reads are_cached)
    (λ tells. read_in_same next.file_at seen.file_at c.args.place.now c.in-Ok.found.items
    (λ path. sym (reads.files path)) (c.in-Ok.ensures.read (sym reads.tells ∙ tells)))

pub returns-clause-preserved : goal.returns-clause-preserved
returns-clause-preserved g c = λ are_cached.
    let seen = g.S.Store.view c.args.store.now in
    let next = g.S.Store.view c.configs_at.new.store in
    let reads = c.configs_at.ensures.store in
    c.insert_configs.ensures.cached next (cached_after seen next c.args.self.now reads are_cached)
    (λ tells. read_in_same next.file_at seen.file_at c.args.place.now c.in-Ok.found.items
    (λ path. sym (reads.files path)) (c.in-Ok.ensures.read (sym reads.tells ∙ tells)))
