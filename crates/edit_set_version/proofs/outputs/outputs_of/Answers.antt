use Rattle.std.proofs.Common.{◌≡◌, All, arith, rules, subst, take}
use Rattle.std.proofs.Math.Seq.{take-length}
use Rattle.std.proofs.lemmas.List.Elements.{All-contains, All-more, All-nil}
use Rattle.std.proofs.lemmas.Result.{err_from_is_err_and}
use Rattle.std.proofs.lemmas.Slice.Zip.{AllZip-long}
use Rattle.edit_set_version.specs.Crates.{IsReadOf, bumps_view}
use Rattle.edit_set_version.specs.PlanRefused.{IsInputClearBy}
use Rattle.edit_set_version.specs.Written.{shared_version_view}
use Rattle.edit_set_version.proofs.DistinctInputs.{can_share}
use Rattle.edit_set_version.proofs.ChoiceLemmas.{element_among}
use Rattle.edit_set_version.proofs.OutputLists.{AreInARow, no_outputs, outputs_more, row_has, row_in_order}
use Rattle.edit_set_version.proofs.ProjectRoot.{read_beside}
use Rattle.edit_set_version.proofs.outputs.outputs_of.Goals as goal

pub inputs-init : goal.inputs-init
inputs-init c =
    let w = c.args.writing.now in (
      no_outputs w.root.now (shared_version_view w.shared) (bumps_view w.bumps.now) c.new-outputs.result.items
          c.new-outputs.ensures.items,
      All-nil (IsInputClearBy (bumps_view w.bumps.now)),
    )

pub bounds-manifests-i : goal.bounds-manifests-i
bounds-manifests-i c =
    let long = AllZip-long IsReadOf c.args.inputs.now c.args.manifests.now c.requires.read in
    omega (arith, long, c.inputs-test.true)

pub push_output-requires-clause-read : goal.push_output-requires-clause-read
push_output-requires-clause-read c =
    let there = read_beside c.index-inputs-i.result c.index-manifests-i.result c.args.inputs.now
    c.args.manifests.now c.inputs.i c.requires.read c.inputs-test.true c.index-inputs-i.is
    c.index-manifests-i.is in
    there.1

pub push_output-requires-clause-shared : goal.push_output-requires-clause-shared
push_output-requires-clause-shared c =
    let w = c.args.writing.now in
    can_share w.root.now (shared_version_view w.shared) c.args.inputs.now c.args.manifests.now c.inputs.i
    c.index-inputs-i.result c.index-manifests-i.result c.requires.read c.requires.distinct c.requires.shared
    c.inputs-test.true c.index-inputs-i.is c.index-manifests-i.is

pub returns-in_err-push_output-clause-error : goal.returns-in_err-push_output-clause-error
returns-in_err-push_output-clause-error c =
    let p = err_from_is_err_and c.from_residual.result c.from_residual.ensures.1 in
    let bs = bumps_view c.args.writing.now.bumps.now in
    let input = c.index-inputs-i.result in
    rw (p.1, p.2) (λ clear. c.in_err-push_output.ensures.error
    (All-contains (IsInputClearBy bs) c.args.inputs.now input clear
    (element_among c.args.inputs.now c.inputs.i input c.inputs-test.true c.index-inputs-i.is)))

pub inputs-preserved : goal.inputs-preserved
inputs-preserved c =
    let w = c.args.writing.now in
    let bs = bumps_view w.bumps.now in
    let input = c.index-inputs-i.result in
    let own = c.in_ok-push_output.ensures.output in (
      outputs_more w.root.now (shared_version_view w.shared) bs c.args.inputs.now c.inputs.i input
          c.inputs.outputs.items own.0 c.push_output.new.outputs.items c.inputs-test.true c.index-inputs-i.is
          c.inputs.invariant.0 own.2 own.1,
      All-more (IsInputClearBy bs) c.args.inputs.now c.inputs.i input c.inputs-test.true c.inputs.invariant.1
          (subst (IsInputClearBy bs) c.index-inputs-i.is c.in_ok-push_output.ensures.clear),
    )

pub returns-clause-outputs : goal.returns-clause-outputs
returns-clause-outputs c =
    let w = c.args.writing.now in
    let bs = bumps_view w.bumps.now in
    let all : take c.inputs.i c.args.inputs.now ≡ c.args.inputs.now
    = search (rules, take-length c.args.inputs.now, c.inputs-test.false, c.inputs.auto) in
    row_has w.root.now (shared_version_view w.shared) bs c.args.inputs.now c.inputs.outputs.items c.requires.distinct
    (subst (λ xs. AreInARow w.root.now (shared_version_view w.shared) bs xs c.inputs.outputs.items) all
    c.inputs.invariant.0)

pub returns-clause-in_order : goal.returns-clause-in_order
returns-clause-in_order c =
    let w = c.args.writing.now in
    let bs = bumps_view w.bumps.now in
    let all : take c.inputs.i c.args.inputs.now ≡ c.args.inputs.now
    = search (rules, take-length c.args.inputs.now, c.inputs-test.false, c.inputs.auto) in
    row_in_order w.root.now (shared_version_view w.shared) bs c.args.inputs.now c.inputs.outputs.items
    c.requires.distinct
    (subst (λ xs. AreInARow w.root.now (shared_version_view w.shared) bs xs c.inputs.outputs.items) all
    c.inputs.invariant.0)

pub returns-clause-clear : goal.returns-clause-clear
returns-clause-clear c =
    let bs = bumps_view c.args.writing.now.bumps.now in
    let all : take c.inputs.i c.args.inputs.now ≡ c.args.inputs.now
    = search (rules, take-length c.args.inputs.now, c.inputs-test.false, c.inputs.auto) in
    subst (All (IsInputClearBy bs)) all c.inputs.invariant.1
