use Rattle.std.proofs.Common.{◌≡◌, ◌∷◌, ◌++◌, true, map, ◌∙◌, sym, subst}
use Rattle.std.specs.Prelude.{codes}
use Rattle.edit_lookups.specs.Lookups.{HasLookupLines, lookup_text}
use Rattle.edit_answers.specs.StoredResults.{PutsOf, PutsRun, ReportsOn, text_of}
use Rattle.edit_answers.specs.StoredResults.Reports.{malformed, readable}
use Rattle.edit_answers.specs.declared.messages.Report.{Report}
use Rattle.edit_answers.proofs.ChangeLemmas.{after-reads, on-ok, only-reads, reads-fails, reads-refused, weakened-known}
use Rattle.edit_answers.proofs.ReportLemmas.{report-same}
use Rattle.edit_answers.proofs.store_results.store_answers.Goals as goal

pub returns-in-Err-clause-changes : goal.returns-in-Err-clause-changes
returns-in-Err-clause-changes g c =
    let may = PutsOf c.args.places.now (g.S.Store.view c.args.files.now).file_at in
    reads-fails {T = Report} (λ _. may) may _ _ _ c.read_from_room.ensures.reads c.in-Err.ensures.error

pub returns-in_err-lookups-clause-changes : goal.returns-in_err-lookups-clause-changes
returns-in_err-lookups-clause-changes g c =
    let may = PutsOf c.args.places.now (g.S.Store.view c.args.files.now).file_at in
    reads-refused {T = Report} (λ _. may) may _ _ _ c.read_from_room.ensures.reads c.from_residual.ensures.1

pub returns-in-Some-clause-changes : goal.returns-in-Some-clause-changes
returns-in-Some-clause-changes g c =
    let p = c.args.places.now in
    let files = (g.S.Store.view c.args.files.now).file_at in
    let may = PutsOf p files in
    let ls = c.deref.result.now in
    let say : (g.S.Store.view c.args.files.now).tells ≡ true
    → HasLookupLines (text_of (files (p.room.now ++ 47 ∷ codes "lookups"))) (map lookup_text ls)
    = λ t. subst (λ xs. HasLookupLines (text_of (files (p.room.now ++ 47 ∷ codes "lookups")))
    (map lookup_text xs))
    (sym c.deref.ensures.value)
    (subst (λ text. HasLookupLines text (map lookup_text c.in-Some.lookups.items))
    (c.as_str.ensures.value ∙ c.in-Ok.ensures.text t)
    (rw c.in-Some.is at c.in_ok-lookups.ensures)) in
    after-reads {T = Report} (λ _. may) may _ _ _ _ c.read_from_room.ensures.reads
    (weakened-known (λ _. PutsRun p ls) (λ _. may) (PutsRun p ls) may _ _ _
    (λ t v path bytes h. record {
      lookups = ls;
      say = say
          (sym c.read_from_room.ensures.reads.tells ∙ t);
      puts = h;
    })
    (λ t path bytes h. record {
      lookups = ls;
      say = say
          (sym c.read_from_room.ensures.reads.tells ∙ t);
      puts = h;
    })
    c.store_lookups.ensures.changes)

pub returns-in_err-malformed_report-in-None-clause-changes : goal.returns-in_err-malformed_report-in-None-clause-changes
returns-in_err-malformed_report-in-None-clause-changes g c =
    let may = PutsOf c.args.places.now (g.S.Store.view c.args.files.now).file_at in
    reads-refused {T = Report} (λ _. may) may _ _ _ c.read_from_room.ensures.reads
    c.from_residual-in_err-malformed_report-in-None.ensures.1

pub returns-clause-changes : goal.returns-clause-changes
returns-clause-changes g c =
    let may = PutsOf c.args.places.now (g.S.Store.view c.args.files.now).file_at in
    only-reads {T = Report} (λ _. may) may _ _ c.in_ok-malformed_report-in-None.field-0
    c.read_from_room.ensures.reads

pub returns-in-Some-clause-report : goal.returns-in-Some-clause-report
returns-in-Some-clause-report g c =
    let p = c.args.places.now in
    let old = (g.S.Store.view c.args.files.now).file_at in
    let mid = (g.S.Store.view c.read_from_room.new.files).file_at in
    let new = (g.S.Store.view c.store_lookups.new.files).file_at in
    let reads = c.read_from_room.ensures.reads in
    let ls = c.in-Some.lookups.items in
    on-ok _ _ c.store_lookups.result
    (λ r h t. readable ls (subst (λ text. HasLookupLines text (map lookup_text ls))
    (c.as_str.ensures.value ∙ c.in-Ok.ensures.text t)
    (rw c.in-Some.is at c.in_ok-lookups.ensures))
    (report-same p c.args.options.now old mid new ls r reads.files
    (subst (λ xs. ReportsOn p c.args.options.now mid new xs r) c.deref.ensures.value (h (reads.tells ∙ t)))))
    c.store_lookups.ensures.report

pub returns-clause-report : goal.returns-clause-report
returns-clause-report g c t =
    malformed (λ ls says. (rw c.in-None.is at c.in_ok-lookups.ensures) ls
    (subst (λ text. HasLookupLines text ls) (sym (c.as_str.ensures.value ∙ c.in-Ok.ensures.text t)) says))
    c.in_ok-malformed_report-in-None.ensures
