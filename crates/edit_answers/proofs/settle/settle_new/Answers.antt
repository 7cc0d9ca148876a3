use Rattle.std.proofs.Common.{◌≡◌, ◌∙◌, Some, ap, sym, subst}
use Rattle.edit_lookups.specs.CachePaths.{cached_path}
use Rattle.edit_lookups.specs.Lookups.{lookup_text}
use Rattle.edit_answers.specs.Etags.{IsEntryText}
use Rattle.edit_answers.specs.Meanings.{new_meaning}
use Rattle.edit_answers.specs.Outcomes.{IsBodyDamage, Puts, Settles, Stores, by_cached}
use Rattle.edit_answers.specs.Outcomes.Settles.{fetched, unusable}
use Rattle.edit_answers.specs.Places.{body_path, etag_path}
use Rattle.edit_answers.specs.declared.meaning.Failure.TheVariants.{NotAnIndex}
use Rattle.edit_answers.specs.declared.meaning.Outcome.TheVariants.{Cached, Fetched}
use Rattle.edit_answers.proofs.ChangeLemmas.{after-reads, on-ok, reads-changes}
use Rattle.edit_answers.proofs.PutLemmas.{stores-cached, stores-new}
use Rattle.edit_answers.proofs.settle.settle_new.Goals as goal

pub returns-in-Ok-Ok-clause-changes : goal.returns-in-Ok-Ok-clause-changes
returns-in-Ok-Ok-clause-changes g c =
    after-reads _ _ _ _ _ _ c.read_body.ensures.reads c.store_body.ensures.changes

pub returns-in-Ok-Ok-clause-outcome : goal.returns-in-Ok-Ok-clause-outcome
returns-in-Ok-Ok-clause-outcome g c =
    let p = c.args.places.now in
    let l = lookup_text c.args.lookup.now in
    let files = (g.S.Store.view c.args.files.now).file_at in
    let reads = c.read_body.ensures.reads in
    let body = c.in-Ok-Ok.body.items in
    on-ok _ _ c.store_body.result
    (λ o h t. subst (λ o. Settles p l c.args.number files (new_meaning c.args.is_direct) o)
    (sym (h (reads.tells ∙ t)).0)
    (fetched c.args.is_direct (
      body,
      subst (λ q. files q ≡ Some body) (c.as_str-path.ensures.value ∙ c.in_ok-body_path.ensures)
          (rw c.in-Ok-Ok.field-0-is at (c.in-Ok-Ok.ensures.body t)),
      rw c.in-Ok-Ok.field-0-is at c.in-Ok-Ok.ensures.whole,
    )))
    c.store_body.ensures.stores

pub returns-in-Ok-Ok-clause-stores : goal.returns-in-Ok-Ok-clause-stores
returns-in-Ok-Ok-clause-stores g c =
    let p = c.args.places.now in
    let l = lookup_text c.args.lookup.now in
    let old = (g.S.Store.view c.args.files.now).file_at in
    let new = (g.S.Store.view c.store_body.new.files).file_at in
    let reads = c.read_body.ensures.reads in
    let body = c.in-Ok-Ok.body.items in
    let path = c.as_str-path.ensures.value ∙ c.in_ok-body_path.ensures in
    on-ok _ _ c.store_body.result
    (λ o h t.
    let it = h (reads.tells ∙ t) in
    subst (λ o. Stores o p l c.args.number old new) (sym it.0)
    (stores-new p l c.args.number old new c.args.is_direct (
      body,
      subst (λ q. old q ≡ Some body) path (rw c.in-Ok-Ok.field-0-is at (c.in-Ok-Ok.ensures.body t)),
      record {
        text = it.1.text;
        is = subst (λ b. IsEntryText c.args.is_direct (old (etag_path (body_path p.room.now c.args.number))) b it.1.text) c.deref.ensures.value
            (subst (λ q. IsEntryText c.args.is_direct (old (etag_path q)) c.deref.result.now it.1.text) path
            (subst (λ f. IsEntryText c.args.is_direct f c.deref.result.now it.1.text)
            (reads.files (etag_path c.as_str-path.result.now)) it.1.is));
        stored = it.1.stored;
        others = λ q n. it.1.others q n ∙ reads.files q;
      },
    )))
    c.store_body.ensures.stores

pub returns-in-Ok-Err-clause-changes : goal.returns-in-Ok-Err-clause-changes
returns-in-Ok-Err-clause-changes g c =
    let p = c.args.places.now in
    let l = lookup_text c.args.lookup.now in
    after-reads (Puts p l) (Puts p l Fetched) _ _ _ _ c.read_body.ensures.reads
    (reads-changes (Puts p l) (Puts p l Fetched) _ _ _ c.from_cache.ensures.reads c.from_cache.ensures.error)

pub returns-in-Ok-Err-clause-outcome : goal.returns-in-Ok-Err-clause-outcome
returns-in-Ok-Err-clause-outcome g c =
    let p = c.args.places.now in
    let l = lookup_text c.args.lookup.now in
    let files = (g.S.Store.view c.args.files.now).file_at in
    let reads = c.read_body.ensures.reads in
    let damage = c.in-Ok-Err.damage in
    on-ok _ _ c.from_cache.result
    (λ o h t. subst (λ x. Settles p l c.args.number files (new_meaning c.args.is_direct) x)
    (sym (h (reads.tells ∙ t)
    ∙ ap (λ f. by_cached f (Cached (NotAnIndex damage)) (NotAnIndex damage))
    (reads.files (cached_path p.cache.now l))))
    (unusable c.args.is_direct damage
    (subst (λ q. IsBodyDamage l.name (files q) damage)
    (c.as_str-path.ensures.value ∙ c.in_ok-body_path.ensures)
    (rw c.in-Ok-Err.field-0-is at (c.in-Ok-Err.ensures.body t)))))
    c.from_cache.ensures.outcome

pub returns-in-Ok-Err-clause-stores : goal.returns-in-Ok-Err-clause-stores
returns-in-Ok-Err-clause-stores g c =
    let p = c.args.places.now in
    let l = lookup_text c.args.lookup.now in
    let old = (g.S.Store.view c.args.files.now).file_at in
    let mid = (g.S.Store.view c.read_body.new.files).file_at in
    let new = (g.S.Store.view c.from_cache.new.files).file_at in
    let reads = c.read_body.ensures.reads in
    let damage = c.in-Ok-Err.damage in
    on-ok _ _ c.from_cache.result
    (λ o h t. subst (λ x. Stores x p l c.args.number old new) (sym (h (reads.tells ∙ t)))
    (stores-cached p l c.args.number old new (mid (cached_path p.cache.now l))
    (Cached (NotAnIndex damage)) (NotAnIndex damage) (λ same. same)
    (λ q. c.from_cache.ensures.reads.files q ∙ reads.files q)))
    c.from_cache.ensures.outcome
