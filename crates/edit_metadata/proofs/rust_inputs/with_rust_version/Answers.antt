use Rattle.std.proofs.Common.{◌∙◌, List, ap, map, subst, sym}
use Rattle.std.proofs.lemmas.Result.{IfOk-weaker}
use Rattle.edit_metadata.specs.Inputs.{HaveOwnPaths}
use Rattle.edit_metadata.specs.declared.input.Input.{Input}
use Rattle.edit_metadata.proofs.RustInputs.{own_for, same_bytes}
use Rattle.edit_metadata.proofs.rust_inputs.with_rust_version.Goals as goal

pub returns-clause-paths : goal.returns-clause-paths
returns-clause-paths c = λ own.
    IfOk-weaker c.for_rust_version.result _ _
    (λ v is. subst HaveOwnPaths (sym is) (own_for c.args.version c.args.inputs.items own))
    c.for_rust_version.ensures

pub returns-clause-bytes : goal.returns-clause-bytes
returns-clause-bytes c =
    IfOk-weaker c.for_rust_version.result _ _
    (λ v is. ap (λ (xs : List Input). map (λ (i : Input). i.bytes.items) xs) is
    ∙ same_bytes c.args.version c.args.inputs.items) c.for_rust_version.ensures
