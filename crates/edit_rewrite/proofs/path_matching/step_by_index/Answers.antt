use Rattle.std.proofs.Common.{sym}
use Rattle.edit_rewrite.proofs.Ways.{index_on, index_past, key_off}
use Rattle.edit_rewrite.proofs.path_matching.step_by_index.Goals as goal

pub returns-in-Key : goal.returns-in-Key
returns-in-Key c = sym
    (key_off c.args.place.now c.in-On.done c.index-place-done.result c.in-Key.field-0 c.args.number c.args.way
    c.in-On.is c.if-done-place.false c.index-place-done.is c.in-Key.is)

pub returns-then-index-number : goal.returns-then-index-number
returns-then-index-number c =
    sym (index_on c.args.place.now c.in-On.done c.index-place-done.result c.in-Index.index c.args.number
    c.args.way c.in-On.is c.if-done-place.false c.index-place-done.is c.in-Index.is c.if-index-number.true)

pub returns-else-index-number : goal.returns-else-index-number
returns-else-index-number c =
    sym (index_past c.args.place.now c.in-On.done c.index-place-done.result c.in-Index.index c.args.number
    c.args.way c.in-On.is c.if-done-place.false c.index-place-done.is c.in-Index.is c.if-index-number.false)
