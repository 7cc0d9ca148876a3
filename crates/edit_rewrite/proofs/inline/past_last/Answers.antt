use Rattle.std.proofs.Common.{◌≡◌, ℕ, true, eqb, List, ◌∷◌, drop, sym, subst, ap, ◌∙◌, arith}
use Rattle.std.proofs.lemmas.Result.{err_from_is_err_and}
use Rattle.edit_syntax.specs.Characters.{comma, right_brace}
use Rattle.edit_syntax.specs.Reading.{first, past_gap}
use Rattle.edit_tree.specs.EditBytes.{behind_last}
use Rattle.edit_rewrite.proofs.InlineSuffixes.{past_value, table_past}
use Rattle.edit_rewrite.proofs.SlotSteps.{keeps_memory}
use Rattle.edit_rewrite.proofs.SlotTurns.{stop_is}
use Rattle.edit_rewrite.proofs.MemberTurns.{AtMembers, members_start, members_closed, members_front, members_over}
use Rattle.edit_rewrite.proofs.inline.past_last.Goals as goal

pub members-init : goal.members-init
members-init c g ms after h =
    let text = c.args.text.now in
    let rest = c.past_gap-rest.result.now in
    let come = c.past_gap-rest.ensures ∙ ap past_gap c.behind_one.ensures in
    subst (λ (x : List ℕ). AtMembers past_value text after 0 rest rest x)
    (table_past text c.args.table.now g ms after rest h come)
    (members_start past_value text c.args.table.now g ms after rest rest h come)

pub returns-then-begins : goal.returns-then-begins
returns-then-begins c g ms after h =
    sym (members_closed past_value c.args.text.now after c.members.index c.members.rest.now c.members.last.now
    (behind_last ms (right_brace ∷ after)) (c.members.invariant g ms after h)
    (sym c.begins.ensures ∙ c.if-begins.true))

pub returns-in_err-after : goal.returns-in_err-after
returns-in_err-after c g ms after h =
    let p = err_from_is_err_and c.from_residual.result c.from_residual.ensures.1 in
    let target = behind_last ms (right_brace ∷ after) in
    let f = members_front past_value c.args.text.now after c.members.index c.members.rest.now
    c.members.last.now target
    (c.members.invariant g ms after h) (sym c.begins.ensures ∙ c.if-begins.false) in
    keeps_memory c.from_residual.result c.in_err-after.field-0.0 p.0 (λ r. r.now ≡ target) p.1 p.2
    (c.in_err-after.ensures {u = tt} f.it f.gap_behind f.behind f.stands)

pub returns-then-not-begins : goal.returns-then-not-begins
returns-then-not-begins c g ms after h =
    let text = c.args.text.now in
    let rest = c.members.rest.now in
    let f = members_front past_value text after c.members.index rest c.members.last.now
    (behind_last ms (right_brace ∷ after)) (c.members.invariant g ms after h)
    (sym c.begins.ensures ∙ c.if-begins.false) in
    let r = c.in_ok-after.ensures {u = tt} f.it f.gap_behind f.behind f.stands in
    let stop : c.past_gap-stop.result.now ≡ f.behind =
    c.past_gap-stop.ensures ∙ ap past_gap r.1 ∙ stop_is text rest true f.it f.gap_behind f.behind f.stands in
    let other = ap (λ (x : List ℕ). eqb (first x) comma) (sym stop) ∙ sym c.begins-in-members.ensures
    ∙ c.if-not-begins.true in
    r.1 ∙ sym (f.last other)

pub members-preserved : goal.members-preserved
members-preserved c g ms after h =
    let text = c.args.text.now in
    let rest = c.members.rest.now in
    let f = members_front past_value text after c.members.index rest c.members.last.now
    (behind_last ms (right_brace ∷ after)) (c.members.invariant g ms after h)
    (sym c.begins.ensures ∙ c.if-begins.false) in
    let r = c.in_ok-after.ensures {u = tt} f.it f.gap_behind f.behind f.stands in
    let stop : c.past_gap-stop.result.now ≡ f.behind =
    c.past_gap-stop.ensures ∙ ap past_gap r.1 ∙ stop_is text rest true f.it f.gap_behind f.behind f.stands in
    let more = ap (λ (x : List ℕ). eqb (first x) comma) (sym stop) ∙ sym c.begins-in-members.ensures
    ∙ c.if-not-begins.false in
    let next = c.past_gap-rest-in-members.result.now in
    let comes : next ≡ past_gap (drop 1 f.behind) =
    c.past_gap-rest-in-members.ensures ∙ ap past_gap (c.behind_one-in-members.ensures ∙ ap (drop 1) stop) in
    rw r.1 (f.next more next comes)

pub returns : goal.returns
returns c g ms after h =
    absurd (members_over past_value c.args.text.now after c.members.index c.members.rest.now
    c.members.last.now
    (behind_last ms (right_brace ∷ after)) (c.members.invariant g ms after h)
    (omega (arith, c.members-test.false)))
