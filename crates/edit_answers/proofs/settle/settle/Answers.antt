use Rattle.std.proofs.Common.{sym, subst}
use Rattle.edit_lookups.specs.CachePaths.{cached_path}
use Rattle.edit_lookups.specs.Lookups.{lookup_text}
use Rattle.edit_answers.specs.Outcomes.{Puts, Settles, Stores}
use Rattle.edit_answers.specs.Outcomes.Settles.{absent, current, failed}
use Rattle.edit_answers.specs.declared.meaning.Meaning.TheVariants.{NotModified, Failed}
use Rattle.edit_answers.specs.declared.meaning.Outcome.TheVariants.{Absent, Cached, Current, Fetched}
use Rattle.edit_answers.proofs.ChangeLemmas.{on-ok, reads-changes}
use Rattle.edit_answers.proofs.PutLemmas.{stores-cached}
use Rattle.edit_answers.proofs.settle.settle.Goals as goal

pub returns-in-NotModified-clause-changes : goal.returns-in-NotModified-clause-changes
returns-in-NotModified-clause-changes g c =
    let p = c.args.places.now in
    let l = lookup_text c.args.lookup.now in
    reads-changes (Puts p l) (Puts p l Fetched) _ _ _ c.from_cache.ensures.reads c.from_cache.ensures.error

pub returns-in-NotModified-clause-outcome : goal.returns-in-NotModified-clause-outcome
returns-in-NotModified-clause-outcome g c =
    let p = c.args.places.now in
    let l = lookup_text c.args.lookup.now in
    let files = (g.S.Store.view c.args.files.now).file_at in
    on-ok _ _ c.from_cache.result
    (λ o h t. subst (λ m. Settles p l c.args.number files m o) (sym c.in-NotModified.is)
    (subst (λ x. Settles p l c.args.number files NotModified x) (sym (h t)) (current _)))
    c.from_cache.ensures.outcome

pub returns-in-NotModified-clause-stores : goal.returns-in-NotModified-clause-stores
returns-in-NotModified-clause-stores g c =
    let p = c.args.places.now in
    let l = lookup_text c.args.lookup.now in
    let old = (g.S.Store.view c.args.files.now).file_at in
    let new = (g.S.Store.view c.from_cache.new.files).file_at in
    on-ok _ _ c.from_cache.result
    (λ o h t. subst (λ x. Stores x p l c.args.number old new) (sym (h t))
    (stores-cached p l c.args.number old new (old (cached_path p.cache.now l)) Current _ (λ same. same)
    c.from_cache.ensures.reads.files))
    c.from_cache.ensures.outcome

pub returns-in-Absent-clause-outcome : goal.returns-in-Absent-clause-outcome
returns-in-Absent-clause-outcome g c t =
    subst (λ m. Settles c.args.places.now (lookup_text c.args.lookup.now) c.args.number
    (g.S.Store.view c.args.files.now).file_at m Absent) (sym c.in-Absent.is) absent

pub returns-in-Failed-clause-changes : goal.returns-in-Failed-clause-changes
returns-in-Failed-clause-changes g c =
    let p = c.args.places.now in
    let l = lookup_text c.args.lookup.now in
    reads-changes (Puts p l) (Puts p l Fetched) _ _ _ c.from_cache-in-Failed.ensures.reads c.from_cache-in-Failed.ensures.error

pub returns-in-Failed-clause-outcome : goal.returns-in-Failed-clause-outcome
returns-in-Failed-clause-outcome g c =
    let p = c.args.places.now in
    let l = lookup_text c.args.lookup.now in
    let files = (g.S.Store.view c.args.files.now).file_at in
    on-ok _ _ c.from_cache-in-Failed.result
    (λ o h t. subst (λ m. Settles p l c.args.number files m o) (sym c.in-Failed.is)
    (subst (λ x. Settles p l c.args.number files (Failed c.in-Failed.failure) x) (sym (h t))
    (failed c.in-Failed.failure)))
    c.from_cache-in-Failed.ensures.outcome

pub returns-in-Failed-clause-stores : goal.returns-in-Failed-clause-stores
returns-in-Failed-clause-stores g c =
    let p = c.args.places.now in
    let l = lookup_text c.args.lookup.now in
    let old = (g.S.Store.view c.args.files.now).file_at in
    let new = (g.S.Store.view c.from_cache-in-Failed.new.files).file_at in
    on-ok _ _ c.from_cache-in-Failed.result
    (λ o h t. subst (λ x. Stores x p l c.args.number old new) (sym (h t))
    (stores-cached p l c.args.number old new (old (cached_path p.cache.now l)) (Cached c.in-Failed.failure)
    c.in-Failed.failure (λ same. same) c.from_cache-in-Failed.ensures.reads.files))
    c.from_cache-in-Failed.ensures.outcome
