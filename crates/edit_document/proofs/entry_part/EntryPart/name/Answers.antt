use Rattle.std.proofs.Common.{ap, sym, ◌∙◌, not, List, ℕ}
use Rattle.std.specs.Prelude.{slice_get}
use Rattle.edit_document.specs.EntryParts.{part_value_view}
use Rattle.edit_document.specs.Items.{names_in}
use Rattle.edit_document.specs.NewItemViews.{new_pair_views}
use Rattle.edit_document.proofs.ShownItems.{members_names}
use Rattle.edit_document.proofs.entry_part.EntryPart.name.Goals as goal

pub returns-in-Members : goal.returns-in-Members
returns-in-Members c =
    c.nth_name.ensures
    ∙ ap (λ (ns : List (List ℕ)). slice_get ns c.args.index)
    (sym (ap names_in (c.part_value.ensures ∙ ap part_value_view c.in-Members.is)
    ∙ members_names (not c.in-Members.field-1) (new_pair_views c.in-Members.members.now)))
