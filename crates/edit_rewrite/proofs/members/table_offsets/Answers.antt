use Rattle.std.proofs.Common.{◌≡◌, ℕ, true, eqb, List, length, sym, ap, ◌∙◌, arith}
use Rattle.edit_syntax.specs.Characters.{comma}
use Rattle.edit_syntax.specs.Reading.{first, past_gap}
use Rattle.std.specs.Prelude.{drop}
use Rattle.edit_document.specs.Items.{place_view}
use Rattle.edit_tree.specs.Slots.{of_pair}
use Rattle.edit_rewrite.proofs.NamedMembers.{members_start, no_member_offsets, members_closed, members_over, members_front}
use Rattle.edit_rewrite.proofs.SlotTurns.{stop_is}
use Rattle.edit_rewrite.proofs.PairOffsetLemmas.{mapped, unmapped}
use Rattle.edit_rewrite.proofs.members.table_offsets.Goals as goal

pub returns-then-not-begins-clause-outcome : goal.returns-then-not-begins-clause-outcome
returns-then-not-begins-clause-outcome c w st e begins =
    no_member_offsets c.args.text.now c.args.s.now (place_view c.args.place.now) w st e
    (sym c.begins.ensures ∙ c.if-not-begins.true)

pub members-init : goal.members-init
members-init c w st e begins =
    members_start c.args.text.now c.args.s.now (place_view c.args.place.now) w c.past_gap-rest.result.now st e
    (sym c.begins.ensures ∙ c.if-not-begins.false) (c.past_gap-rest.ensures ∙ ap past_gap
    c.behind_one.ensures)

pub returns-then-begins-clause-outcome : goal.returns-then-begins-clause-outcome
returns-then-begins-clause-outcome c w st e begins =
    members_closed c.args.text.now (place_view c.args.place.now) w c.members._member (length c.args.s.now)
    c.members.rest.now (c.members.invariant w st e begins) (sym c.begins-in-members.ensures ∙
    c.if-begins.true)

pub returns-in-Some-clause-outcome : goal.returns-in-Some-clause-outcome
returns-in-Some-clause-outcome c w st e begins =
    let f =
    members_front c.args.text.now (place_view c.args.place.now) w c.members._member (length c.args.s.now)
    c.members.rest.now (c.members.invariant w st e begins) (sym c.begins-in-members.ensures ∙
    c.if-begins.false) in
    let r = (c.in_ok-part.ensures {u = tt}).outcome w.place f.k f.a f.b f.v f.c f.behind f.stands begins in
    let is = mapped _ c.in-Some.from (sym r.0 ∙ c.in-Some.is) in
    f.found is.0 (c.in-Some.from, length c.in_ok-part.after.now) is.1 is.2 (ap length r.1)

pub returns-then-not-begins-2-clause-outcome : goal.returns-then-not-begins-2-clause-outcome
returns-then-not-begins-2-clause-outcome c w st e begins =
    let text = c.args.text.now in
    let rest = c.members.rest.now in
    let f = members_front text (place_view c.args.place.now) w c.members._member (length c.args.s.now) rest
    (c.members.invariant w st e begins) (sym c.begins-in-members.ensures ∙ c.if-begins.false) in
    let r = (c.in_ok-part.ensures {u = tt}).outcome w.place f.k f.a f.b f.v f.c f.behind f.stands begins in
    let stop : c.past_gap-stop.result.now ≡ f.behind =
    c.past_gap-stop.ensures ∙ ap past_gap r.1
    ∙ stop_is text rest true (of_pair f.k f.a f.b f.v) f.c f.behind f.stands in
    f.last (unmapped _ (sym r.0 ∙ c.in_default.is))
    (ap (λ (x : List ℕ). eqb (first x) comma) (sym stop) ∙ sym c.begins-in-members-2.ensures
    ∙ c.if-not-begins-2.true)

pub members-preserved : goal.members-preserved
members-preserved c w st e begins =
    let text = c.args.text.now in
    let rest = c.members.rest.now in
    let f = members_front text (place_view c.args.place.now) w c.members._member (length c.args.s.now) rest
    (c.members.invariant w st e begins) (sym c.begins-in-members.ensures ∙ c.if-begins.false) in
    let r = (c.in_ok-part.ensures {u = tt}).outcome w.place f.k f.a f.b f.v f.c f.behind f.stands begins in
    let stop : c.past_gap-stop.result.now ≡ f.behind =
    c.past_gap-stop.ensures ∙ ap past_gap r.1
    ∙ stop_is text rest true (of_pair f.k f.a f.b f.v) f.c f.behind f.stands in
    f.next (unmapped _ (sym r.0 ∙ c.in_default.is))
    (ap (λ (x : List ℕ). eqb (first x) comma) (sym stop) ∙ sym c.begins-in-members-2.ensures
    ∙ c.if-not-begins-2.false)
    c.past_gap-rest-in-members.result.now
    (c.past_gap-rest-in-members.ensures ∙ ap past_gap (c.behind_one-in-members.ensures ∙ ap (drop 1) stop))

pub returns-clause-outcome : goal.returns-clause-outcome
returns-clause-outcome c w st e begins =
    absurd (members_over c.args.text.now (place_view c.args.place.now) w c.members._member
    (length c.args.s.now)
    c.members.rest.now (c.members.invariant w st e begins) (omega (arith, c.members-test.false)))
