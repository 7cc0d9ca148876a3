use Rattle.std.proofs.Common.{◌∙◌, ap}
use Rattle.std.specs.Prelude.{codes, nat_eq}
use Rattle.std.specs.List.{join_by}
use Rattle.std.proofs.lemmas.List.Filters.{dedup_is}
use Rattle.std.proofs.lemmas.Result.{IfOk-weaker}
use Rattle.edit_shown.specs.Markdown.{member_cell}
use Rattle.edit_shown.proofs.markdown.groups.members_cell.Goals as goal

pub returns : goal.returns
returns c =
    IfOk-weaker c.joined_names.result _ _ (λ s joined.
    joined
    ∙ ap (join_by (member_cell c.args.inputs.now) (codes ", "))
    (c.as_slice.ensures.value ∙ dedup_is nat_eq c.args.members.items _ c.dedup.ensures.filtered))
    c.joined_names.ensures
