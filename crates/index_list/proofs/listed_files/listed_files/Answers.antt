use Rattle.index_list.proofs.ListedLemmas.{files_more}
use Rattle.index_list.proofs.listed_files.listed_files.Goals as goal

pub loop-entry-preserved : goal.loop-entry-preserved
loop-entry-preserved c = λ path.
    files_more c.args.folder.now c.args.entries.now c.loop-entry.entry-index _ path _ _ c.loop-entry-test.true
    (c.loop-entry.invariant path) (c.in_ok-add_entry.ensures path)
