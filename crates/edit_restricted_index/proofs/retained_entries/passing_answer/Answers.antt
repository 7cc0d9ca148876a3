use Rattle.edit_sources.specs.Index.{answer_of}
use Rattle.edit_restricted_index.specs.Restrictions.{passes}
use Rattle.edit_restricted_index.specs.VersionTests.{tests_of}
use Rattle.edit_restricted_index.proofs.EntryLemmas.{whole_answer}
use Rattle.edit_restricted_index.proofs.retained_entries.passing_answer.Goals as goal

pub returns-then-passes_all-clause-ok : goal.returns-then-passes_all-clause-ok
returns-then-passes_all-clause-ok c =
    whole_answer (passes (tests_of c.args.tests.now) c.args.name.now) (answer_of c.args.answer)
    (c.passes_all.ensures c.if-passes_all.true)
