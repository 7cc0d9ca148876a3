use Rattle.std.proofs.Common.{◌≡◌, ◌∙◌, All, arith, inl, inr, rules, subst, sym, take}
use Rattle.std.proofs.Math.Seq.{take-length}
use Rattle.std.proofs.lemmas.List.Elements.{All-more, All-nil}
use Rattle.std.proofs.lemmas.Slice.Zip.{AllZip-long}
use Rattle.edit_base.specs.Errors.{IsMemory}
use Rattle.edit_metadata.specs.Inputs.{path_of}
use Rattle.edit_metadata.specs.declared.input.Input.{Input}
use Rattle.edit_set_version.specs.Failures.{IsFrom}
use Rattle.edit_set_version.specs.Failures.Cause.{at_input}
use Rattle.edit_set_version.specs.Crates.{IsReadOf, bumps_view}
use Rattle.edit_set_version.specs.PlanCauses.{HasLiteral, LacksLiteral}
use Rattle.edit_base.proofs.FirstCauseLemmas.{first_at}
use Rattle.edit_set_version.proofs.ProjectRoot.{read_beside}
use Rattle.edit_set_version.proofs.literals.check_literals.Goals as goal

pub inputs-init : goal.inputs-init
inputs-init c = All-nil (HasLiteral (bumps_view c.args.writing.now.bumps.now))

pub bounds-manifests-i : goal.bounds-manifests-i
bounds-manifests-i c =
    let long = AllZip-long IsReadOf c.args.inputs.now c.args.manifests.now c.requires.read in
    omega (arith, long, c.inputs-test.true)

pub check_literal-requires-clause-read : goal.check_literal-requires-clause-read
check_literal-requires-clause-read c =
    let there = read_beside c.index-inputs-i.result c.index-manifests-i.result c.args.inputs.now
    c.args.manifests.now c.inputs.i c.requires.read c.inputs-test.true c.index-inputs-i.is
    c.index-manifests-i.is in
    there.1

pub returns-in-Err-clause-error : goal.returns-in-Err-clause-error
returns-in-Err-clause-error c =
    let bs = bumps_view c.args.writing.now.bumps.now in
    let f = c.at_input.result in
    elim c.in-Err.ensures.error [
      | inl none ↦ inl (subst IsMemory (sym c.at_input.ensures.error) none)
      | inr why ↦ inr (
        c.at_input.ensures.error ∙ why.0,
        first_at (HasLiteral bs) (λ (i : Input). LacksLiteral bs i × IsFrom f (at_input (path_of i)))
            c.args.inputs.now c.inputs.i c.index-inputs-i.result c.inputs-test.true c.index-inputs-i.is
            c.inputs.invariant (why.1, c.at_input.ensures.origin),
      )
    ]

pub inputs-preserved : goal.inputs-preserved
inputs-preserved c =
    let bs = bumps_view c.args.writing.now.bumps.now in
    All-more (HasLiteral bs) c.args.inputs.now c.inputs.i c.index-inputs-i.result c.inputs-test.true
    c.inputs.invariant (subst (HasLiteral bs) c.index-inputs-i.is c.in_default.ensures.literal)

pub returns-clause-literals : goal.returns-clause-literals
returns-clause-literals c =
    let bs = bumps_view c.args.writing.now.bumps.now in
    let all : take c.inputs.i c.args.inputs.now ≡ c.args.inputs.now
    = search (rules, take-length c.args.inputs.now, c.inputs-test.false, c.inputs.auto) in
    subst (All (HasLiteral bs)) all c.inputs.invariant
