use Rattle.edit_sources.proofs.published_lines.dated_from_tree.Goals as goal

pub returns-in-Ok-time_from_tree : goal.returns-in-Ok-time_from_tree
returns-in-Ok-time_from_tree c =
    let found = c.in-Ok.ensures in
    record {
      entry = found;
      published = c.in-Ok-time_from_tree.ensures.time found.value found.utf8 found.reads;
    }
