use Rattle.std.proofs.Common.{inl, inr, ⊎_elim, ◌∙◌, arith, map, refl, string_bytes, subst, take}
use Rattle.std.specs.Prelude.{All}
use Rattle.std.proofs.lemmas.List.{take_all}
use Rattle.edit_sources.specs.CachedConfigs.{IsSearchedIn, found_in}
use Rattle.edit_sources.proofs.CachedConfigLemmas.{all_searched, found_read}
use Rattle.edit_sources.proofs.FileLemmas.{failed_later, first_malformed, place_fails}
use Rattle.edit_sources.proofs.config.cache.ConfigCache.search_folders.Goals as goal

pub returns-in-Err-clause-preserved : goal.returns-in-Err-clause-preserved
returns-in-Err-clause-preserved g c = λ are_cached. c.search_folder.ensures.preserved (c.loop-place.invariant.are_cached are_cached)

pub returns-in-Err-clause-error : goal.returns-in-Err-clause-error
returns-in-Err-clause-error g c =
    let store = c.loop-place.invariant.store in
    ⊎_elim (λ memory. inl memory) (λ other. inr (⊎_elim
    (λ failed. inl (failed_later _ _ _ _ store.later failed))
    (λ fails. inr (place_fails _ _ (g.S.Store.view c.args.store.now).file_at
    (g.S.Store.view c.loop-place.store).file_at c.args.places.now c.loop-place.place-index c.place-item.result
    c.as_str.result.now c.in-Err.error c.loop-place-test.true c.place-item.is c.as_str.ensures.value
    store.tells store.files fails))
    other)) c.in-Err.ensures.error

pub returns-in-Err-clause-first : goal.returns-in-Err-clause-first
returns-in-Err-clause-first g c =
    let store = c.loop-place.invariant.store in
    let before = map string_bytes (take c.loop-place.place-index c.args.places.now) in
    ⊎_elim (λ memory. inl memory) (λ other. inr (⊎_elim
    (λ failed. inl (failed_later _ _ _ _ store.later failed))
    (λ fails. inr (λ are_cached t. first_malformed (g.S.Store.view c.args.store.now) (g.S.Store.view c.loop-place.store)
    c.args.places.now c.loop-place.place-index c.place-item.result c.as_str.result.now
    (found_in c.loop-place.self before) c.in-Err.error c.loop-place-test.true c.place-item.is
    c.as_str.ensures.value store.tells store.files
    (found_read (g.S.Store.view c.args.store.now) (g.S.Store.view c.loop-place.store) c.loop-place.self before
    (found_in c.loop-place.self before) store (c.loop-place.invariant.are_cached are_cached)
    c.loop-place.invariant.searched refl t) fails t))
    other)) c.in-Err.ensures.error

pub loop-place-preserved : goal.loop-place-preserved
loop-place-preserved g c =
    let store = c.loop-place.invariant.store in
    record {
      store = record {
        tells = c.search_folder.ensures.store.tells ∙ store.tells;
        files = λ path. c.search_folder.ensures.store.files path ∙ store.files path;
        writes = c.search_folder.ensures.store.writes ∙ store.writes;
        later = omega (arith, store.later, c.search_folder.ensures.store.later);
      };
      are_cached = λ are_cached. c.search_folder.ensures.preserved (c.loop-place.invariant.are_cached are_cached);
      searched = all_searched c.loop-place.self c.search_folder.new.self c.args.places.now
          c.loop-place.place-index c.place-item.result c.as_str.result.now c.loop-place-test.true
          c.place-item.is c.as_str.ensures.value c.search_folder.ensures.others
          c.loop-place.invariant.searched c.in-Ok.ensures.searched;
    }

pub returns-clause-searched : goal.returns-clause-searched
returns-clause-searched g c =
    subst (λ ps. All (IsSearchedIn c.loop-place.self) (map string_bytes ps))
    (take_all c.loop-place.place-index c.args.places.now (omega (arith, c.loop-place-test.false)))
    c.loop-place.invariant.searched
