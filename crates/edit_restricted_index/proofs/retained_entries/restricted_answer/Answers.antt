use Rattle.std.proofs.Common.{◌∙◌}
use Rattle.std.proofs.lemmas.Result.{IfOk-weaker}
use Rattle.edit_sources.specs.Index.{answer_of}
use Rattle.edit_restricted_index.specs.VersionTests.{tests_of}
use Rattle.edit_restricted_index.proofs.EntryLemmas.{answer_by_test}
use Rattle.edit_restricted_index.proofs.retained_entries.restricted_answer.Goals as goal

pub returns-clause-ok : goal.returns-clause-ok
returns-clause-ok c =
    IfOk-weaker c.passing_answer.result _ _
    (λ k h. h ∙ answer_by_test (tests_of c.args.tests.now) c.args.name.now (answer_of c.args.answer))
    c.passing_answer.ensures.ok
