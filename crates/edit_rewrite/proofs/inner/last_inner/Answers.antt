use Rattle.std.proofs.Common.{◌≡◌, ℕ, true, eqb, List, ◌∷◌, None, Option, drop, sym, subst, ap, ◌∙◌, ◌+◌, arith}
use Rattle.std.specs.Option.{option_or}
use Rattle.std.proofs.lemmas.Result.{err_from_is_err_and}
use Rattle.edit_syntax.specs.Characters.{comma, right_brace}
use Rattle.edit_syntax.specs.Reading.{first, past_gap}
use Rattle.edit_rewrite.specs.declared.inner.Inner.{Inner}
use Rattle.edit_tree.specs.EditBytes.{last_result}
use Rattle.edit_rewrite.specs.Inner.{inner_of}
use Rattle.edit_document.specs.Items.{place_view}
use Rattle.edit_tree.specs.Statements.{paired_members}
use Rattle.edit_rewrite.proofs.InnerTurns.{inner_turn, last_folded, or_none}
use Rattle.edit_rewrite.proofs.SlotSteps.{keeps_memory}
use Rattle.edit_rewrite.proofs.SlotTurns.{stop_is}
use Rattle.edit_rewrite.proofs.MemberTurns.{AtMembers, members_start, members_closed, members_front, members_over}
use Rattle.edit_rewrite.proofs.inner.last_inner.Goals as goal

pub members-init : goal.members-init
members-init c above g ms after h start =
    let text = c.args.text.now in
    let place = place_view c.args.place.now in
    let turn = inner_turn place above in
    let rest = c.past_gap-rest.result.now in
    let come = c.past_gap-rest.ensures ∙ ap past_gap c.behind_one.ensures in
    let all = last_result (inner_of place) (paired_members above ms (right_brace ∷ after)) in
    subst (λ (x : Option Inner). AtMembers turn text after 0 rest None x)
    (last_folded place above ms (right_brace ∷ after) None ∙ or_none all)
    (members_start turn text c.args.table.now g ms after rest None h come)

pub returns-then-begins : goal.returns-then-begins
returns-then-begins c above g ms after h start =
    let place = place_view c.args.place.now in
    sym (members_closed (inner_turn place above) c.args.text.now after c.members.index c.members.rest.now
    c.members.last
    (last_result (inner_of place) (paired_members above ms (right_brace ∷ after)))
    (c.members.invariant above g ms after h start) (sym c.begins.ensures ∙ c.if-begins.true))

pub returns-in_err-here : goal.returns-in_err-here
returns-in_err-here c above g ms after h start =
    let p = err_from_is_err_and c.from_residual.result c.from_residual.ensures.1 in
    let place = place_view c.args.place.now in
    let target = last_result (inner_of place) (paired_members above ms (right_brace ∷ after)) in
    let f = members_front (inner_turn place above) c.args.text.now after c.members.index c.members.rest.now
    c.members.last
    target (c.members.invariant above g ms after h start) (sym c.begins.ensures ∙ c.if-begins.false) in
    keeps_memory c.from_residual.result c.in_err-here.field-0.0 p.0 (λ r. r ≡ target) p.1 p.2
    (c.in_err-here.ensures {u = tt} above f.it f.gap_behind f.behind f.stands start)

pub returns-then-not-begins : goal.returns-then-not-begins
returns-then-not-begins c above g ms after h start =
    let text = c.args.text.now in
    let place = place_view c.args.place.now in
    let rest = c.members.rest.now in
    let f = members_front (inner_turn place above) text after c.members.index rest c.members.last
    (last_result (inner_of place) (paired_members above ms (right_brace ∷ after)))
    (c.members.invariant above g ms after h start) (sym c.begins.ensures ∙ c.if-begins.false) in
    let r = c.in_ok-here.ensures {u = tt} above f.it f.gap_behind f.behind f.stands start in
    let stop : c.past_gap-stop.result.now ≡ f.behind =
    c.past_gap-stop.ensures ∙ ap past_gap r.1 ∙ stop_is text rest true f.it f.gap_behind f.behind f.stands in
    let other = ap (λ (x : List ℕ). eqb (first x) comma) (sym stop) ∙ sym c.begins-in-members.ensures
    ∙ c.if-not-begins.true in
    c.or-last.ensures ∙ ap (λ (x : Option Inner). option_or x c.members.last) r.0 ∙ sym (f.last other)

pub members-preserved : goal.members-preserved
members-preserved c above g ms after h start =
    let text = c.args.text.now in
    let place = place_view c.args.place.now in
    let turn = inner_turn place above in
    let rest = c.members.rest.now in
    let target = last_result (inner_of place) (paired_members above ms (right_brace ∷ after)) in
    let f = members_front turn text after c.members.index rest c.members.last target
    (c.members.invariant above g ms after h start) (sym c.begins.ensures ∙ c.if-begins.false) in
    let r = c.in_ok-here.ensures {u = tt} above f.it f.gap_behind f.behind f.stands start in
    let stop : c.past_gap-stop.result.now ≡ f.behind =
    c.past_gap-stop.ensures ∙ ap past_gap r.1 ∙ stop_is text rest true f.it f.gap_behind f.behind f.stands in
    let more = ap (λ (x : List ℕ). eqb (first x) comma) (sym stop) ∙ sym c.begins-in-members.ensures
    ∙ c.if-not-begins.false in
    let next = c.past_gap-rest-in-members.result.now in
    let comes : next ≡ past_gap (drop 1 f.behind) =
    c.past_gap-rest-in-members.ensures ∙ ap past_gap (c.behind_one-in-members.ensures ∙ ap (drop 1) stop) in
    subst (λ (x : Option Inner). AtMembers turn text after (c.members.index + 1) next x target)
    (sym (c.or-last.ensures ∙ ap (λ (x : Option Inner). option_or x c.members.last) r.0))
    (f.next more next comes)

pub returns : goal.returns
returns c above g ms after h start =
    let place = place_view c.args.place.now in
    absurd (members_over (inner_turn place above) c.args.text.now after c.members.index c.members.rest.now
    c.members.last
    (last_result (inner_of place) (paired_members above ms (right_brace ∷ after)))
    (c.members.invariant above g ms after h start) (omega (arith, c.members-test.false)))
