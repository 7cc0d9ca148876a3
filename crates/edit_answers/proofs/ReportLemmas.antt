-- The report of a run depends only on the contents of the files.
use Rattle.std.proofs.Common.{◌≡◌, ◌<◌, List, Bool, Option, ◌∷◌, ◌++◌, ap, subst}
use Rattle.std.specs.Prelude.{codes}
use Rattle.edit_store.specs.Store.{Files, SameFiles}
use Rattle.edit_lookups.specs.Lookups.{LookupText}
use Rattle.edit_lookups.specs.declared.lookups.Lookup.{Lookup}
use Rattle.edit_answers.specs.Answers.{AreFirst, AreFound}
use Rattle.edit_answers.specs.OutcomeRules.{AllFollow}
use Rattle.edit_answers.specs.Outcomes.{PutsAmong}
use Rattle.edit_answers.specs.StoredResults.{ReportsOn, answers_text, text_of}
use Rattle.edit_answers.specs.declared.answers.Answer.{Answer}
use Rattle.edit_answers.specs.declared.meaning.Outcome.{Outcome}
use Rattle.edit_answers.specs.declared.messages.Report.{Report}
use Rattle.edit_answers.specs.declared.messages.StoreOptions.{StoreOptions}
use Rattle.edit_answers.specs.declared.places.Places.{Places}
use Rattle.edit_answers.proofs.ChangeLemmas.{keeps-same, keeps-then}

-- results that follow with some files follow with the same files
pub follow-same : (p : Places) (ls : List LookupText) (is_offline : Bool) (answers : List (Option Answer))
    (old mid new : Files) (os : List Outcome) → SameFiles old mid
    → AllFollow p ls is_offline answers mid new os
    → AllFollow p ls is_offline answers old new os
follow-same p ls is_offline answers old mid new os same h k l o is was =
    let it = h k l o is was in
    record {
      before = it.before;
      after = it.after;
      from_old = keeps-then (PutsAmong p ls (λ n. n < k)) old mid it.before
          (keeps-same (PutsAmong p ls (λ n. n < k)) old mid same)
          it.from_old;
      follows = it.follows;
      stores = it.stores;
      to_new = it.to_new;
    }

-- a report with some files is one with the same files
pub report-same : (p : Places) (options : StoreOptions) (old mid new : Files) (ls : List Lookup) (r : Report)
    → SameFiles old mid → ReportsOn p options mid new ls r → ReportsOn p options old new ls r
report-same p options old mid new ls r same it =
    let was = it.by_answers in
    let text : answers_text p mid ≡ answers_text p old
    = ap text_of (same (p.room.now ++ 47 ∷ codes "answers")) in
    record {
      outcomes = it.outcomes;
      stored = it.stored;
      by_answers = record {
        answers = was.answers;
        are_first = subst (λ x. AreFirst x was.answers) text was.are_first;
        are_found = subst (λ x. AreFound x was.answers) text was.are_found;
        all_answers = was.all_answers;
        all_outcomes = was.all_outcomes;
        follow = follow-same p _ options.offline was.answers old mid it.stored it.outcomes same was.follow;
      };
      listed = it.listed;
      says = it.says;
    }
