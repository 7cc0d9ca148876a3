use Rattle.std.proofs.Common.{◌∙◌, ap, map, sym}
use Rattle.std.specs.Prelude.{codes, string_bytes}
use Rattle.std.specs.List.{join_by}
use Rattle.std.proofs.lemmas.List.{take_all}
use Rattle.std.proofs.lemmas.Result.{IfOk-weaker}
use Rattle.edit_shown.specs.Markdown.{member_cell}
use Rattle.edit_shown.proofs.MarkdownLemmas.{join_by-map}
use Rattle.edit_shown.proofs.markdown.groups.joined_names.Goals as goal

-- all names were joined
pub returns : goal.returns
returns c =
    let member = member_cell c.args.inputs.now in
    IfOk-weaker c.join.result _ _ (λ s joined.
    joined
    ∙ ap (join_by string_bytes (codes ", ")) c.as_slice.ensures.value
    ∙ join_by-map string_bytes (codes ", ") c.loop-member.names.items
    ∙ ap (join_by (λ name. name) (codes ", ")) (c.loop-member.invariant
    ∙ ap (map member) (take_all c.loop-member.member-index c.args.members.now c.loop-member-test.false))
    ∙ sym (join_by-map member (codes ", ") c.args.members.now)) c.join.ensures.ok
