use denote.Shadow.{shadow}
use denote.Text.{Utf8}
use Rattle.edit_store.specs.Store.{OnlyReads}
use Rattle.edit_manifest.proofs.Heights.{height}
use Rattle.edit_manifest.proofs.SearchLemmas.{HasPassed}
use Rattle.edit_manifest.proofs.locate.search.Given as goal

abbrev pub invariant-folders : goal.invariant-folders
invariant-folders g l = record {
  utf8 : shadow (Utf8 l.dir);
  store : OnlyReads (g.S.Store.view l.initial.store) (g.S.Store.view l.store);
  passed : HasPassed (g.S.Store.view l.initial.store).tells (g.S.Store.view l.initial.store).file_at l.start
      l.dir;
}

abbrev pub decreases-folders : goal.decreases-folders
decreases-folders g l = height l.dir
