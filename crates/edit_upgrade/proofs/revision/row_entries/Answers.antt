use Rattle.std.proofs.Common.{◌∙◌, ap, map}
use Rattle.std.specs.List.{filter_map}
use Rattle.edit_upgrade.specs.Found.{row_entry_view}
use Rattle.edit_upgrade.specs.Records.{with_row}
use Rattle.edit_upgrade.proofs.RevisionLemmas.{row_each}
use Rattle.edit_upgrade.proofs.revision.row_entries.Goals as goal

pub returns-clause-entries : goal.returns-clause-entries
returns-clause-entries c =
    row_each c.args.document.now (map row_entry_view c.in_ok-entries.entries.items) c.lemma_form.ensures.some
    c.lemma_form.ensures.shows
    (c.in_ok-entries.ensures.ok ∙ ap (filter_map with_row) c.in_ok-found.ensures.ok)
