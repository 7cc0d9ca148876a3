use Rattle.std.proofs.Common.{inl, inr, ⊎_elim, map, string_bytes, subst, sym}
use Rattle.std.specs.Prelude.{All}
use Rattle.edit_sources.specs.CachedConfigs.{IsSearchedIn}
use Rattle.edit_sources.specs.Configured.{given}
use Rattle.edit_sources.specs.ConfigurationFiles.{IsSearched}
use Rattle.edit_sources.proofs.config.cache.ConfigCache.search.Goals as goal

pub returns-in-Err-search_folders-clause-error : goal.returns-in-Err-search_folders-clause-error
returns-in-Err-search_folders-clause-error g c =
    ⊎_elim (λ memory. inl memory) (λ other. inr (⊎_elim (λ failed. inl failed) (λ fails. inr (record {
      places = map string_bytes c.deref.result.now;
      searched = subst (λ ps. IsSearched c.args.manifest_path.now (given c.args.cargo_home) (map string_bytes ps))
          (sym c.deref.ensures.value) c.in-Ok.ensures.searched;
      fails = fails;
    })) other)) c.in-Err-search_folders.ensures.error

pub returns-in-Err-search_folders-clause-first : goal.returns-in-Err-search_folders-clause-first
returns-in-Err-search_folders-clause-first g c =
    ⊎_elim (λ memory. inl memory) (λ other. inr (⊎_elim (λ failed. inl failed) (λ stops. inr (λ are_cached tells. record {
      places = map string_bytes c.deref.result.now;
      searched = subst (λ ps. IsSearched c.args.manifest_path.now (given c.args.cargo_home) (map string_bytes ps))
          (sym c.deref.ensures.value) c.in-Ok.ensures.searched;
      first = stops are_cached tells;
    })) other)) c.in-Err-search_folders.ensures.first

pub returns-in-Ok-search_folders-clause-searched : goal.returns-in-Ok-search_folders-clause-searched
returns-in-Ok-search_folders-clause-searched g c =
    subst (λ ps. All (IsSearchedIn c.search_folders.new.self) (map string_bytes ps)) c.deref.ensures.value
    c.in-Ok-search_folders.ensures.searched
