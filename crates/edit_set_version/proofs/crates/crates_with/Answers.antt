use Rattle.std.proofs.Common.{◌∙◌, ◌<◌, ◌≤◌, ap, arith, length, map, refl}
use Rattle.std.proofs.lemmas.List.{take_all}
use Rattle.edit_set_version.proofs.ChoiceLemmas.{pushed_more, pushed_next}
use Rattle.edit_set_version.proofs.crates.crates_with.Goals as goal

pub members-preserved : goal.members-preserved
members-preserved c =
    let i = c.members.i in
    let was = c.members.crates.items in
    let package_info = c.index-members-i.result in
    let input = c.index-inputs-i.result in
    let manifest = c.index-manifests-i.result in
    let within : i < length c.args.members.now = c.members-test.true in
    record {
      package_info = pushed_more (λ c. c.package_info.now) (λ p. p.now) was _ _ c.args.members.now i package_info
          c.in_ok-push.ensures.items c.members.invariant.package_info within c.index-members-i.is refl;
      inputs = pushed_next (λ c. c.input.now) was _ _ c.args.inputs.now i c.in_ok-push.ensures.items
          c.members.invariant.inputs (omega (arith, within, c.requires.inputs)) c.index-inputs-i.is;
      manifests = pushed_next (λ c. c.manifest.now) was _ _ c.args.manifests.now i
          c.in_ok-push.ensures.items c.members.invariant.manifests
          (omega (arith, within, c.requires.manifests)) c.index-manifests-i.is;
    }

pub returns-clause-outcome : goal.returns-clause-outcome
returns-clause-outcome c =
    c.members.invariant.package_info
    ∙ ap (map (λ p. p.now)) (take_all c.members.i c.args.members.now c.members-test.false)

pub returns-clause-inputs : goal.returns-clause-inputs
returns-clause-inputs c =
    let long : length c.args.inputs.now ≤ c.members.i
    = omega (arith, c.members-test.false, c.requires.inputs) in
    c.members.invariant.inputs ∙ take_all c.members.i c.args.inputs.now long

pub returns-clause-manifests : goal.returns-clause-manifests
returns-clause-manifests c =
    let long : length c.args.manifests.now ≤ c.members.i
    = omega (arith, c.members-test.false, c.requires.manifests) in
    c.members.invariant.manifests ∙ take_all c.members.i c.args.manifests.now long
