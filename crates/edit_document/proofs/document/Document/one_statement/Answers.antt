use Rattle.std.proofs.Common.{refl, sym, ◌∙◌}
use Rattle.edit_document.specs.Items.{place_view}
use Rattle.edit_document.proofs.AloneTurns.{unnamed_none, nothing_alone}
use Rattle.edit_document.proofs.document.Document.one_statement.Goals as goal

pub returns-then-not-is_member : goal.returns-then-not-is_member
returns-then-not-is_member c form manifest =
    sym (unnamed_none form (place_view c.args.place.now) (c.if-not-is_member.ensures.no refl))

pub returns-in_default : goal.returns-in_default
returns-in_default c form manifest =
    let m = c.if-not-is_member.ensures.yes refl in
    sym (nothing_alone form (place_view c.args.place.now) m.0 m.1 m.2
    (sym (c.lemma_form.ensures.shows form manifest (place_view c.args.place.now)) ∙
    c.in_default.ensures {u = tt}))
