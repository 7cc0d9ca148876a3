use Rattle.std.proofs.Common.{◌∙◌, ap, map}
use Rattle.edit_sources.specs.Configured.{given, path_and_entries}
use Rattle.edit_sources.proofs.CachedConfigLemmas.{copies_configs, found_configs}
use Rattle.edit_sources.proofs.config.cache.ConfigCache.read_configs.Goals as goal

pub returns-clause-read : goal.returns-clause-read
returns-clause-read g c = λ are_cached tells. copies_configs (g.S.Store.view c.args.store.now).file_at
    c.args.manifest_path.now (given c.args.cargo_home) (map (λ x. x.now) c.in_ok-found.found.items)
    c.in_ok-configs.configs.items
    (found_configs (g.S.Store.view c.args.store.now) (g.S.Store.view c.search.new.store) c.search.new.self
    c.args.manifest_path.now (given c.args.cargo_home) c.in-Ok.places.items c.deref.result.now
    (map (λ x. x.now) c.in_ok-found.found.items) c.in-Ok.ensures.store (c.search.ensures.preserved are_cached)
    c.in-Ok.ensures.places c.in-Ok.ensures.searched c.deref.ensures.value c.in_ok-found.ensures tells)
    (c.in_ok-configs.ensures ∙ ap (λ cs. map path_and_entries (map (λ x. x.now) cs)) c.deref-2.ensures.value)
