use Rattle.std.proofs.Common.{◌≡◌, ◌≢◌, ℕ, List, [], ◌∷◌, ◌++◌, Bor, ap, sym, ◌∙◌, subst, rules}
use Rattle.std.specs.Prelude.{codes}
use Rattle.std.proofs.lemmas.List.{map_push}
use Rattle.edit_base.specs.Paths.{texts}
use Rattle.edit_store.specs.Climbs.{Climbs}
use Rattle.edit_store.specs.Climbs.Climbs.{begin, step}
use Rattle.edit_sources.proofs.FolderLemmas.{folder-some, height-folder}
use Rattle.edit_sources.proofs.config.files.folders_upwards.Goals as goal

pub loop-folders-init : goal.loop-folders-init
loop-folders-init c = (
  c.folder-here.ensures,
  folder-some _ _ c.folder-here.ensures,
  subst (λ xs. Climbs c.folder-here.result.now (texts xs) c.folder-here.result.now)
      (sym c.new-folders.ensures.items) begin,
  c.folder-here.utf8,
)

pub fact_in-here : goal.fact_in-here
fact_in-here c = c.loop-folders.invariant.3

pub loop-folders-smaller : goal.loop-folders-smaller
loop-folders-smaller c =
    let on : c.loop-folders.here.now ≢ codes "/" = search rules in
    height-folder _ _ c.folder-here-in-loop-folders.ensures on c.loop-folders.invariant.1

pub loop-folders-preserved : goal.loop-folders-preserved
loop-folders-preserved c =
    let on : c.loop-folders.here.now ≢ codes "/" = search rules in
    let more : texts c.push.new.self.items ≡ texts c.loop-folders.folders.items
    ++ c.loop-folders.here.now ∷ [] = ap texts c.in_ok-push.ensures.items ∙
    map_push (λ (x : Bor (List ℕ)). x.now) c.loop-folders.folders.items c.loop-folders.here in
    let climbs = step _ _ _ c.loop-folders.invariant.2 on c.folder-here-in-loop-folders.ensures in (
      c.loop-folders.invariant.0,
      folder-some _ _ c.folder-here-in-loop-folders.ensures,
      subst (λ xs. Climbs c.folder-here.result.now xs c.folder-here-in-loop-folders.result.now)
          (sym more) climbs,
      c.folder-here-in-loop-folders.utf8,
    )

pub returns : goal.returns
returns c =
    let root : c.loop-folders.here.now ≡ codes "/" = search rules in
    record {
      start = c.folder-here.result.now;
      own = c.loop-folders.invariant.0;
      passed = texts c.loop-folders.folders.items;
      climbs = subst (λ h. Climbs c.folder-here.result.now (texts c.loop-folders.folders.items) h) root
          c.loop-folders.invariant.2;
      all = ap texts c.in_ok-push-2.ensures.items ∙
          map_push (λ (x : Bor (List ℕ)). x.now) c.loop-folders.folders.items c.loop-folders.here ∙
          ap (λ h. texts c.loop-folders.folders.items ++ h ∷ []) root;
    }
