use Rattle.std.proofs.Common.{◌∙◌, refl, subst, sym, take, rules, ◌≡◌}
use Rattle.std.specs.Prelude.{Contains}
use Rattle.std.proofs.Math.Seq.{take-length}
use Rattle.std.proofs.lemmas.Slice.Eq.{bytes_eq-Decides}
use Rattle.edit_metadata.specs.Inputs.{input_paths}
use Rattle.edit_metadata.proofs.InputLemmas.{has-path, none-more}
use Rattle.edit_metadata.proofs.inputs.has_path.Goals as goal

pub returns-then-eq : goal.returns-then-eq
returns-then-eq c =
    let same = (bytes_eq-Decides c.as_str.result.now c.args.path.now).0 (sym c.eq.ensures ∙ c.if-eq.true) in (
      λ yes. has-path c.args.inputs.now c.inputs.input-index c.input-item.result c.args.path.now
          c.inputs-test.true c.input-item.is (sym c.as_str.ensures.value ∙ same),
      λ has. refl,
    )

pub inputs-preserved : goal.inputs-preserved
inputs-preserved c =
    none-more c.args.inputs.now c.inputs.input-index c.input-item.result c.args.path.now c.inputs-test.true
    c.input-item.is c.inputs.invariant
    (λ same. cc (sym c.if-eq.false ∙ c.eq.ensures
    ∙ (bytes_eq-Decides c.as_str.result.now c.args.path.now).1 (c.as_str.ensures.value ∙ same)))

pub returns : goal.returns
returns c =
    let all : take c.inputs.input-index c.args.inputs.now ≡ c.args.inputs.now
    = search (rules, take-length c.args.inputs.now) in (
      λ no. cc no,
      λ has. absurd (c.inputs.invariant
          (subst (λ xs. Contains (input_paths xs) c.args.path.now) (sym all) has)),
    )
