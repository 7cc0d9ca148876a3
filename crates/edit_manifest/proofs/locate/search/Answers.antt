use Rattle.std.proofs.Common.{◌≡◌, ◌≢◌, ◌∙◌, ⊎_elim, inl, inr, rules, arith}
use Rattle.std.specs.Prelude.{codes}
use Rattle.edit_manifest.proofs.SearchLemmas.{passed_more, passed_none, none_above}
use Rattle.edit_manifest.proofs.locate.search.Goals as goal

pub folders-init : goal.folders-init
folders-init g c = record {
  utf8 = c.utf8.start;
  store = search rules;
  passed = passed_none (g.S.Store.view c.args.store.now).tells (g.S.Store.view c.args.store.now).file_at
      c.args.start.now;
}

pub folders-preserved : goal.folders-preserved
folders-preserved g c =
    let before = c.folders.invariant in
    let on : c.folders.dir.now ≢ codes "/" = search rules in
    record {
      utf8 = c.folder-dir.utf8;
      store = record {
        tells = c.manifest_at.ensures.store.tells ∙ before.store.tells;
        files = λ path. c.manifest_at.ensures.store.files path ∙ before.store.files path;
        writes = c.manifest_at.ensures.store.writes ∙ before.store.writes;
        later = omega (arith, before.store.later, c.manifest_at.ensures.store.later);
      };
      passed = passed_more _ _ _ (g.S.Store.view c.folders.store).file_at _ c.folders.dir.now _
          before.store.tells before.store.files before.passed on c.folder-dir.ensures
          (rw c.in_default.is at c.in_ok-path.ensures.found);
    }

pub returns-in-None-clause-error : goal.returns-in-None-clause-error
returns-in-None-clause-error g c =
    let before = c.folders.invariant in
    let root : c.folders.dir.now ≡ codes "/" = search rules in
    ⊎_elim (λ memory. inl (inl memory))
    (λ named. inr (λ t. (
      named,
      none_above _ _ _ (g.S.Store.view c.folders.store).file_at _ c.folders.dir.now before.store.tells
          before.store.files before.passed root
          (rw c.in-None.is at c.in_ok-path-2.ensures.found) t,
    )))
    c.not_found.ensures
