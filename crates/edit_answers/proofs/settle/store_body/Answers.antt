use Rattle.std.proofs.Common.{◌≡◌, Some, sym, ◌∙◌, ap, subst}
use Rattle.edit_lookups.specs.Lookups.{lookup_text}
use Rattle.edit_answers.specs.Changes.{AllowsChanges}
use Rattle.edit_answers.specs.Etags.{IsEntryText}
use Rattle.edit_answers.specs.Outcomes.{Puts, stored_outcome}
use Rattle.edit_answers.specs.declared.meaning.Outcome.TheVariants.{Fetched}
use Rattle.edit_answers.proofs.ChangeLemmas.{after-reads, keeps-write}
use Rattle.edit_answers.proofs.PutLemmas.{entry-puts}
use Rattle.edit_answers.proofs.settle.store_body.Goals as goal

pub returns-in-Ok-write-clause-changes : goal.returns-in-Ok-write-clause-changes
returns-in-Ok-write-clause-changes g c =
    let p = c.args.places.now in
    let l = lookup_text c.args.lookup.now in
    let reads = c.entry_text.ensures.reads in
    after-reads (Puts p l) (Puts p l Fetched) _ _ _ _ reads
    (record {
      tells = c.write.ensures.tells;
      later = c.write.ensures.cause.later;
      done = λ t. subst (λ o. AllowsChanges (Puts p l o) (g.S.Store.view c.entry_text.new.files).file_at
          (g.S.Store.view c.write.new.self).file_at) (sym c.stored_outcome.ensures)
          (keeps-write (Puts p l (stored_outcome c.args.is_direct)) _ _ c.as_str-2.result.now c.deref.result.now
          c.write.ensures.others (c.in-Ok-write.ensures.written t)
          (entry-puts p l c.args.is_direct _ c.args.body.now _ _ c.in-Ok.text.items c.requires
          (c.as_str-2.ensures.value ∙ c.in_ok-entry.ensures) c.deref.ensures.value
          (c.in-Ok.ensures.text (sym reads.tells ∙ t))));
      torn = tt;
      error = tt;
    })

pub returns-in-Ok-write-clause-stores : goal.returns-in-Ok-write-clause-stores
returns-in-Ok-write-clause-stores g c t =
    let reads = c.entry_text.ensures.reads in
    let old = (g.S.Store.view c.args.files.now).file_at in
    let new = (g.S.Store.view c.write.new.self).file_at in
    let path = c.as_str-2.ensures.value ∙ c.in_ok-entry.ensures in
    let text = c.in-Ok.text.items in (
      c.stored_outcome.ensures,
      record {
        text = text;
        is = subst (λ q. IsEntryText c.args.is_direct (old q) c.args.body.now text)
            (c.as_str.ensures.value ∙ c.in_ok-etag_path.ensures) (c.in-Ok.ensures.text t);
        stored = subst (λ q. new q ≡ Some text) path
            (c.in-Ok-write.ensures.written (reads.tells ∙ t) ∙ ap Some c.deref.ensures.value);
        others = λ q n. c.write.ensures.others q (λ e. n (e ∙ path)) ∙ reads.files q;
      },
    )
