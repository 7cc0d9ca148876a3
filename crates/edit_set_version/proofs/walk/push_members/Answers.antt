use Rattle.std.proofs.Common.{◌∙◌, ◌∷◌, [], ap, subst, sym, take}
use Rattle.std.specs.Prelude.{All}
use Rattle.std.proofs.lemmas.List.{take_all}
use Rattle.std.proofs.lemmas.List.Elements.{All-append, All-nil}
use Rattle.std.proofs.lemmas.Result.{err_from_is_err_and}
use Rattle.edit_set_version.specs.Crates.{member_of, members_of}
use Rattle.edit_set_version.specs.PlanCauses.{AllRiseIn}
use Rattle.edit_set_version.specs.LineViews.{line_lists_view, other_manifests, with_manifests}
use Rattle.edit_set_version.proofs.ManifestLines.{manifests_in_parts, no_manifests, others_more, unraised_among}
use Rattle.edit_set_version.proofs.walk.push_members.Goals as goal

pub members-init : goal.members-init
members-init c = λ bs tells.
    (sym (no_manifests bs 0 (line_lists_view c.args.lists.now.items)), All-nil (AllRiseIn bs))

pub returns-in_err-push_member-clause-error : goal.returns-in_err-push_member-clause-error
returns-in_err-push_member-clause-error c =
    let p = err_from_is_err_and c.from_residual.result c.from_residual.ensures.1 in
    rw (p.1, p.2) (λ bs tells. unraised_among bs c.args.root.now c.args.crates.now c.members.found-index
    c.found-item.result c.in_err-push_member.field-0.0 c.members-test.true c.found-item.is
    (c.members.invariant bs tells).1 (c.in_err-push_member.ensures.error bs tells))

pub members-preserved : goal.members-preserved
members-preserved c = λ bs tells.
    let root = c.args.root.now in
    let cs = c.args.crates.now in
    let i = c.members.found-index in
    let x = c.found-item.result in
    let was = line_lists_view c.args.lists.now.items in
    let own = other_manifests root (member_of x ∷ []) in
    let front = other_manifests root (members_of (take i cs)) in
    let more = others_more root cs i x c.members-test.true c.found-item.is in
    let far = c.members.invariant bs tells in (
      c.in_ok-push_member.ensures.ok bs tells
          ∙ ap (with_manifests bs own 0) far.0
          ∙ sym (manifests_in_parts bs front own 0 was)
          ∙ ap (λ ms. with_manifests bs ms 0 was) (sym more),
      subst (All (AllRiseIn bs)) (sym more)
          (All-append (AllRiseIn bs) front own far.1 (c.in_ok-push_member.ensures.rise bs tells)),
    )

pub returns-clause-ok : goal.returns-clause-ok
returns-clause-ok c = λ bs tells.
    (c.members.invariant bs tells).0
    ∙ ap (λ cs. with_manifests bs (other_manifests c.args.root.now (members_of cs)) 0
    (line_lists_view c.args.lists.now.items))
    (take_all c.members.found-index c.args.crates.now c.members-test.false)

pub returns-clause-rise : goal.returns-clause-rise
returns-clause-rise c = λ bs tells.
    subst (λ cs. All (AllRiseIn bs) (other_manifests c.args.root.now (members_of cs)))
    (take_all c.members.found-index c.args.crates.now c.members-test.false) (c.members.invariant bs tells).1
