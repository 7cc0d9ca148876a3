use Rattle.std.proofs.Common.{sym, ◌∙◌}
use Rattle.edit_document.specs.Items.{node_view, names_in}
use Rattle.edit_document.proofs.SameParts.{take_both}
use Rattle.edit_compare.proofs.compare.same_names.Goals as goal

pub names-preserved : goal.names-preserved
names-preserved c =
    take_both (names_in (node_view c.args.document.now c.args.number))
    (names_in (node_view c.args.other.now c.args.there)) c.names.index c.names.invariant
    (sym c.member_name.ensures ∙ c.is_same_text.ensures.0 c.if-not-is_same_text.false ∙
    c.member_name-in-names.ensures)
