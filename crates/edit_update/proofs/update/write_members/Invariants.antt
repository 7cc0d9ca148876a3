use Rattle.std.proofs.Common.{take}
use Rattle.std.specs.List.{filter_map}
use Rattle.edit_document.specs.Items.{place_view}
use Rattle.edit_update.specs.FinalValueViews.{final_values_view}
use Rattle.edit_update.specs.EntryUpdates.{write_of}
use Rattle.edit_update.specs.UpdatedTexts.{Changed}
use Rattle.edit_update.proofs.update.write_members.Given as goal

-- the effect of the edits so far
abbrev pub invariant-ends : goal.invariant-ends
invariant-ends l =
    Changed (place_view l.entry) (filter_map write_of (final_values_view (take l.end-index l.ends)))
    l.initial.document.bytes l.document.bytes
