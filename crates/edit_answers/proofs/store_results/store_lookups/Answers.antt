use Rattle.std.proofs.Common.{◌≡◌, ◌∙◌, Vec, Global, map, subst}
use Rattle.std.specs.List.{zip}
use Rattle.edit_lookups.specs.Lookups.{lookup_text}
use Rattle.edit_answers.specs.Answers.{AreFirst, AreFound}
use Rattle.edit_answers.specs.OutcomeRules.{AllFollow}
use Rattle.edit_answers.specs.Groups.{included_lookups}
use Rattle.edit_answers.specs.Listing.{PutsList, WritesList}
use Rattle.edit_answers.specs.Messages.{IsReport}
use Rattle.edit_answers.specs.Outcomes.{PutsOne, PutsSome}
use Rattle.edit_answers.specs.StoredResults.{PutsRun, answers_text}
use Rattle.edit_answers.specs.StoredResults.PutsRun.{entry, list}
use Rattle.edit_answers.specs.declared.meaning.Outcome.{Outcome}
use Rattle.edit_answers.specs.declared.messages.Report.{Report}
use Rattle.edit_answers.proofs.ChangeLemmas.{after-reads, as-err, as-ok, ok-refused, reads-fails, reads-refused, then}
use Rattle.edit_answers.proofs.ReportLemmas.{follow-same}
use Rattle.edit_answers.proofs.SettleLemmas.{settled-all}
use Rattle.edit_answers.proofs.store_results.store_lookups.Goals as goal

pub returns-in-Err-clause-changes : goal.returns-in-Err-clause-changes
returns-in-Err-clause-changes g c =
    let may = PutsRun c.args.places.now c.args.lookups.now in
    reads-fails {T = Report} (λ _. may) may _ _ _ c.read_from_room.ensures.reads c.in-Err.ensures.error

pub returns-in_err-answers-clause-changes : goal.returns-in_err-answers-clause-changes
returns-in_err-answers-clause-changes g c =
    let may = PutsRun c.args.places.now c.args.lookups.now in
    reads-refused {T = Report} (λ _. may) may _ _ _ c.read_from_room.ensures.reads c.from_residual.ensures.1

pub returns-in-Err-settle_all-clause-changes : goal.returns-in-Err-settle_all-clause-changes
returns-in-Err-settle_all-clause-changes g c =
    let p = c.args.places.now in
    let may = PutsRun p c.args.lookups.now in
    after-reads {T = Report} (λ _. may) may _ _ _ _ c.read_from_room.ensures.reads
    (as-err {T = Vec Outcome Global} _ (λ _. may) (PutsSome p (map lookup_text c.args.lookups.now)) may _ _ _
    (λ path bytes h. entry h) c.in-Err-settle_all.ensures.changes)

pub returns-in_err-report-clause-changes : goal.returns-in_err-report-clause-changes
returns-in_err-report-clause-changes g c =
    let p = c.args.places.now in
    let ls = map lookup_text c.args.lookups.now in
    let may = PutsRun p c.args.lookups.now in
    after-reads {T = Report} (λ _. may) may _ _ _ _ c.read_from_room.ensures.reads
    (ok-refused {U = Vec Outcome Global} (λ v. PutsOne p ls v.items)
    (λ _. may) may _ _ c.in-Ok-settle_all.outcomes _
    (λ path bytes h. entry (settled-all p ls c.in-Ok-settle_all.outcomes.items path bytes h))
    c.from_residual-in_err-report.ensures.1
    (as-ok {T = Vec Outcome Global} (λ v. PutsOne p ls v.items) (λ v. PutsOne p ls v.items)
    (PutsSome p ls) may _ _ c.in-Ok-settle_all.outcomes c.in-Ok-settle_all.outcomes (λ t path bytes h. h)
    c.in-Ok-settle_all.ensures.changes))

pub returns-in-Ok-write_list-clause-changes : goal.returns-in-Ok-write_list-clause-changes
returns-in-Ok-write_list-clause-changes g c =
    let p = c.args.places.now in
    let ls = map lookup_text c.args.lookups.now in
    let may = PutsRun p c.args.lookups.now in
    let first = as-ok {T = Vec Outcome Global} (λ v. PutsOne p ls v.items)
    (λ _. may) (PutsSome p ls) may _ _ c.in-Ok-settle_all.outcomes c.in_ok-report.report
    (λ t path bytes h. entry (settled-all p ls c.in-Ok-settle_all.outcomes.items path bytes h))
    c.in-Ok-settle_all.ensures.changes in
    after-reads {T = Report} (λ _. may) may _ _ _ _ c.read_from_room.ensures.reads
    (then may _ _ _ _ _ first
    (as-ok (λ _. PutsList p (zip c.args.lookups.now c.deref-3.result.now)) (λ _. may)
    (PutsList p (zip c.args.lookups.now c.deref-3.result.now)) may _ _ _ c.in_ok-report.report
    (λ t path bytes h. list c.deref-3.result.now h) c.in-Ok-write_list.ensures.changes))

pub returns-clause-changes : goal.returns-clause-changes
returns-clause-changes g c =
    let p = c.args.places.now in
    let ls = map lookup_text c.args.lookups.now in
    let may = PutsRun p c.args.lookups.now in
    let first = as-ok {T = Vec Outcome Global} (λ v. PutsOne p ls v.items)
    (λ _. may) (PutsSome p ls) may _ _ c.in-Ok-settle_all.outcomes c.in_ok-report.report
    (λ t path bytes h. entry (settled-all p ls c.in-Ok-settle_all.outcomes.items path bytes h))
    c.in-Ok-settle_all.ensures.changes in
    after-reads {T = Report} (λ _. may) may _ _ _ _ c.read_from_room.ensures.reads
    (then may _ _ _ _ _ first
    (as-err (λ _. PutsList p (zip c.args.lookups.now c.deref-3.result.now)) (λ _. may)
    (PutsList p (zip c.args.lookups.now c.deref-3.result.now)) may _ _ _
    (λ path bytes h. list c.deref-3.result.now h) c.in-Err-write_list.ensures.changes))

pub returns-in-Ok-write_list-clause-report : goal.returns-in-Ok-write_list-clause-report
returns-in-Ok-write_list-clause-report g c t =
    let p = c.args.places.now in
    let ls = c.args.lookups.now in
    let old = (g.S.Store.view c.args.files.now).file_at in
    let mid = (g.S.Store.view c.read_from_room.new.files).file_at in
    let stored = (g.S.Store.view c.settle_all.new.files).file_at in
    let new = (g.S.Store.view c.write_list.new.files).file_at in
    let reads = c.read_from_room.ensures.reads in
    let text : c.as_str.result.now ≡ answers_text p old = c.as_str.ensures.value ∙ c.in-Ok.ensures.text t in
    let answers = c.in_ok-answers.answers.items in
    let outcomes = c.in-Ok-settle_all.outcomes.items in
    record {
      outcomes = outcomes;
      stored = stored;
      by_answers = record {
        answers = answers;
        are_first = subst (λ x. AreFirst x answers) text c.in_ok-answers.ensures.first;
        are_found = subst (λ x. AreFound x answers) text c.in_ok-answers.ensures.found;
        all_answers = c.in_ok-answers.ensures.count;
        all_outcomes = c.in-Ok-settle_all.ensures.count;
        follow = follow-same p (map lookup_text ls) c.args.options.now.offline answers old mid stored outcomes
            reads.files
            (subst (λ x. AllFollow p (map lookup_text ls) c.args.options.now.offline x mid stored outcomes)
            c.deref.ensures.value (c.in-Ok-settle_all.ensures.follows (reads.tells ∙ t)));
      };
      listed = subst (λ x. WritesList p (zip ls x) stored new) c.deref-3.ensures.value
          (c.in-Ok-write_list.ensures.written (c.in-Ok-settle_all.ensures.changes.tells ∙ (reads.tells ∙ t)));
      says = subst (λ x. IsReport c.args.options.now.offline
          (included_lookups c.args.options.now.excluded.now ls x) c.in_ok-report.report)
          c.deref-2.ensures.value c.in_ok-report.ensures;
    }
