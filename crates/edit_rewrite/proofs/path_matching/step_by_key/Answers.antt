use Rattle.std.proofs.Common.{sym, ◌∙◌}
use Rattle.std.proofs.lemmas.Slice.Eq.{bytes_eq-Decides}
use Rattle.edit_rewrite.proofs.Ways.{name_on, name_off, index_off}
use Rattle.edit_rewrite.proofs.path_matching.step_by_key.Goals as goal

pub returns-then-eq : goal.returns-then-eq
returns-then-eq c =
    let said = (bytes_eq-Decides c.args.name.now c.as_str.result.now).0 (sym c.eq.ensures ∙ c.if-eq.true) in
    sym (name_on c.args.place.now c.in-On.done c.index-place-done.result c.in-Key.key c.args.name.now
    c.args.way c.in-On.is c.if-done-place.false c.index-place-done.is c.in-Key.is
    (said ∙ c.as_str.ensures.value))

pub returns-else-eq : goal.returns-else-eq
returns-else-eq c =
    sym (name_off c.args.place.now c.in-On.done c.index-place-done.result c.in-Key.key c.args.name.now
    c.args.way c.in-On.is c.if-done-place.false c.index-place-done.is c.in-Key.is
    (λ e. let said = sym c.if-eq.false ∙ c.eq.ensures ∙
    (bytes_eq-Decides c.args.name.now c.as_str.result.now).1 (e ∙ sym c.as_str.ensures.value) in cc))

pub returns-in-Index : goal.returns-in-Index
returns-in-Index c =
    sym (index_off c.args.place.now c.in-On.done c.index-place-done.result c.in-Index.field-0 c.args.name.now
    c.args.way c.in-On.is c.if-done-place.false c.index-place-done.is c.in-Index.is)
