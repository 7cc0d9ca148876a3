use Rattle.std.proofs.Common.{◌≡◌, sym, ◌∙◌}
use Rattle.edit_syntax.specs.declared.read.syntax_tokens.ReadError.TheVariants.{Memory, NotToml}
use Rattle.edit_syntax.specs.Reading.{begins_with_byte_order_mark}
use Rattle.edit_syntax.proofs.TextLaws.{lines_found, lines_only}
use Rattle.edit_syntax.proofs.read.tokenize.Goals as goal

pub returns-in-Ok-clause-found : goal.returns-in-Ok-clause-found
returns-in-Ok-clause-found c =
    let f = c.in-Ok.ensures.found in
    let h = lines_found 80 c.args.text.now f.0 (sym c.skip_byte_order_mark-body.ensures ∙ f.1) f.2 f.3 in
    (record { has_byte_order_mark = begins_with_byte_order_mark c.args.text.now; lines = f.0 }, h.spells, h.shallow, f.4)

pub returns-in-Ok-clause-only : goal.returns-in-Ok-clause-only
returns-in-Ok-clause-only c form has le =
    c.in-Ok.ensures.only form.lines (c.skip_byte_order_mark-body.ensures ∙
    lines_only c.args.text.now form has) has.well_formed le

pub returns-in-Err-NotToml-clause-only : goal.returns-in-Err-NotToml-clause-only
returns-in-Err-NotToml-clause-only c form has le =
    let e : c.in-Err-NotToml.field-0 ≡ Memory = c.in-Err-NotToml.ensures.only form.lines
    (c.skip_byte_order_mark-body.ensures ∙ lines_only c.args.text.now form has) has.well_formed le in
    let none : NotToml c.in-Err-NotToml.left ≡ Memory = sym c.in-Err-NotToml.field-0-is ∙ e in
    absurd cc
