use Rattle.std.proofs.Common.{◌∙◌, ◌++◌, ◌∷◌, [], List, cond, ap, sym, map, take}
use Rattle.edit_lock.proofs.ListLemmas.{mapped-more}
use Rattle.edit_version.specs.IndexEntry.{IndexEntry, entry_of}
use Rattle.edit_restricted_index.specs.Restrictions.{passes, retained_entries}
use Rattle.edit_restricted_index.specs.VersionTests.{tests_of}
use Rattle.edit_restricted_index.proofs.EntryLemmas.{retained_more}
use Rattle.edit_restricted_index.proofs.retained_entries.passing_entries.Goals as goal

pub entries-preserved : goal.entries-preserved
entries-preserved c =
    let i = c.entries.entry-index in
    let all = c.args.entries.now in
    let seen = map entry_of (take i all) in
    let e = entry_of c.entry-item.result in
    let keeps = passes (tests_of c.args.tests.now) c.args.name.now in
    c.in_ok-add_passing.ensures.ok
    ∙ ap (λ (es : List IndexEntry). es ++ cond (keeps e.version) (e ∷ []) []) c.entries.invariant
    ∙ sym (retained_more keeps seen e)
    ∙ ap (retained_entries keeps)
    (sym (mapped-more entry_of all i c.entry-item.result c.entries-test.true c.entry-item.is))
