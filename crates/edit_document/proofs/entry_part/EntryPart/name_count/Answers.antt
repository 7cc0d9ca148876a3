use Rattle.std.proofs.Common.{ap, sym, ◌∙◌, length, not}
use Rattle.std.proofs.lemmas.List.{length-map}
use Rattle.edit_document.specs.EntryParts.{part_value_view}
use Rattle.edit_document.specs.Items.{names_in}
use Rattle.edit_document.specs.NewItemViews.{new_pair_view, new_pair_views}
use Rattle.edit_document.proofs.ShownItems.{members_names}
use Rattle.edit_document.proofs.entry_part.EntryPart.name_count.Goals as goal

pub returns-in-Members : goal.returns-in-Members
returns-in-Members c =
    let ms = c.in-Members.members.now in
    sym (ap length (ap names_in (c.part_value.ensures ∙ ap part_value_view c.in-Members.is)
    ∙ members_names (not c.in-Members.field-1) (new_pair_views ms))
    ∙ length-map (new_pair_views ms) (λ m. m.0) ∙ length-map ms new_pair_view)
