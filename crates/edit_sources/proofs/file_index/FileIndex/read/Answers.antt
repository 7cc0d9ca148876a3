use Rattle.edit_sources.proofs.FileIndexLemmas.{grouped_lines}
use Rattle.edit_sources.proofs.file_index.FileIndex.read.Goals as goal

pub returns-clause-entries : goal.returns-clause-entries
returns-clause-entries c =
    grouped_lines _ c.in_ok-entries.entries.items c.args.bytes.now c.in_ok-entries.ensures.entries
    c.in_ok-group_by_crate.ensures
