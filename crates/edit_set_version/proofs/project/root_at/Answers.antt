use Rattle.std.proofs.Common.{◌≡◌, ◌∙◌, arith, rules, subst, sym, take}
use Rattle.std.specs.Prelude.{Contains}
use Rattle.std.proofs.Math.Seq.{take-length}
use Rattle.std.proofs.lemmas.Slice.Eq.{bytes_eq-Decides}
use Rattle.std.proofs.lemmas.Slice.Zip.{AllZip-long}
use Rattle.edit_metadata.specs.Inputs.{input_paths}
use Rattle.edit_metadata.proofs.InputLemmas.{none-more}
use Rattle.edit_set_version.specs.Crates.{IsReadOf}
use Rattle.edit_set_version.proofs.ProjectRoot.{tree_beside}
use Rattle.edit_set_version.proofs.project.root_at.Goals as goal

pub bounds-manifests-i : goal.bounds-manifests-i
bounds-manifests-i c =
    let long = AllZip-long IsReadOf c.args.inputs.now c.args.manifests.now c.requires.read in
    omega (arith, long, c.inputs-test.true)

pub returns-then-eq-clause-tree : goal.returns-then-eq-clause-tree
returns-then-eq-clause-tree c =
    tree_beside c.args.inputs.now c.args.manifests.now c.inputs.i c.index-inputs-i.result
    c.index-manifests-i.result c.args.path.now c.requires.read c.inputs-test.true c.index-inputs-i.is
    c.index-manifests-i.is (sym c.as_str.ensures.value
    ∙ (bytes_eq-Decides c.as_str.result.now c.args.path.now).0 (sym c.eq.ensures ∙ c.if-eq.true))

pub inputs-preserved : goal.inputs-preserved
inputs-preserved c =
    none-more c.args.inputs.now c.inputs.i c.index-inputs-i.result c.args.path.now c.inputs-test.true
    c.index-inputs-i.is c.inputs.invariant
    (λ same. cc (sym c.if-eq.false ∙ c.eq.ensures
    ∙ (bytes_eq-Decides c.as_str.result.now c.args.path.now).1 (c.as_str.ensures.value ∙ same)))

pub unreachable-requires : goal.unreachable-requires
unreachable-requires c =
    let all : take c.inputs.i c.args.inputs.now ≡ c.args.inputs.now
    = search (rules, take-length c.args.inputs.now, c.inputs-test.false, c.inputs.auto) in
    absurd (c.inputs.invariant
    (subst (λ xs. Contains (input_paths xs) c.args.path.now) (sym all) c.requires.among))
