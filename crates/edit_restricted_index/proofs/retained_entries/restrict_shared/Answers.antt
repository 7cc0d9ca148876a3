use Rattle.std.proofs.Common.{◌≡◌, ◌∙◌, Some, option_map, rules}
use Rattle.std.specs.Rc.{rc_value}
use Rattle.edit_sources.specs.Index.{answer_of, entries_of, shared_in}
use Rattle.edit_restricted_index.specs.Restrictions.{passes, retained_entries}
use Rattle.edit_restricted_index.specs.VersionTests.{tests_of}
use Rattle.edit_restricted_index.proofs.EntryLemmas.{answer_by_test, whole_answer}
use Rattle.edit_restricted_index.proofs.retained_entries.restrict_shared.Goals as goal

pub returns-then-passes_all-clause-ok : goal.returns-then-passes_all-clause-ok
returns-then-passes_all-clause-ok c =
    let answer = answer_of (shared_in c.args.answer) in
    whole_answer (passes (tests_of c.args.tests.now) c.args.name.now) answer
    (c.passes_all.ensures c.if-passes_all.true) ∙ answer_by_test (tests_of c.args.tests.now) c.args.name.now answer

pub returns-in_ok-new-in-Some-clause-ok : goal.returns-in_ok-new-in-Some-clause-ok
returns-in_ok-new-in-Some-clause-ok c =
    let answer = answer_of (shared_in c.args.answer) in
    let retained : Some (entries_of (rc_value c.in_ok-new-in-Some.field-0))
    ≡ option_map (retained_entries (passes (tests_of c.args.tests.now) c.args.name.now)) answer = search rules in
    retained ∙ answer_by_test (tests_of c.args.tests.now) c.args.name.now answer
