use Rattle.std.proofs.Common.{inl, inr, string_bytes, subst, sym}
use Rattle.edit_sources.specs.ConfigurationFiles.{AreReadIn}
use Rattle.edit_sources.proofs.CachedConfigLemmas.{cached_more, searched_more, updates_lists}
use Rattle.edit_sources.proofs.config.cache.ConfigCache.insert_configs.Goals as goal

pub returns-clause-cached : goal.returns-clause-cached
returns-clause-cached c = λ seen are_cached read. cached_more seen c.args.self.now (record { found = c.insert.new.self })
    (string_bytes c.in_ok-place.place) c.args.found.items
    (updates_lists (string_bytes c.in_ok-place.place) c.args.self.now.found c.insert.new.self
    c.args.found c.in_ok-insert.ensures.updates) are_cached
    (λ tells. subst (λ p. AreReadIn seen.file_at p c.args.found.items) (sym c.in_ok-place.ensures.ok)
    (read tells))

pub returns-clause-searched : goal.returns-clause-searched
returns-clause-searched c = searched_more c.args.self.now (record { found = c.insert.new.self })
    (string_bytes c.in_ok-place.place) c.args.found.items
    (updates_lists (string_bytes c.in_ok-place.place) c.args.self.now.found c.insert.new.self
    c.args.found c.in_ok-insert.ensures.updates) c.args.place.now (inr c.in_ok-place.ensures.ok)

pub returns-clause-others : goal.returns-clause-others
returns-clause-others c = λ other before. searched_more c.args.self.now (record { found = c.insert.new.self })
    (string_bytes c.in_ok-place.place) c.args.found.items
    (updates_lists (string_bytes c.in_ok-place.place) c.args.self.now.found c.insert.new.self
    c.args.found c.in_ok-insert.ensures.updates) other (inl before)
