use Rattle.std.proofs.Common.{arith, ◌∷◌, ◌++◌, [], ◌∙◌, List, ℕ, ap, map, subst, sym, take}
use Rattle.std.specs.Prelude.{String, string_bytes}
use Rattle.std.specs.declared.alloc.Global.{Global}
use Rattle.std.proofs.lemmas.List.{take_all}
use Rattle.edit_upgrade.specs.PackageSelection.{ArePackageArgs}
use Rattle.edit_upgrade.proofs.PlannedLemmas.{failure-has}
use Rattle.edit_upgrade.proofs.Steps.{names-more}
use Rattle.edit_upgrade.proofs.OptionCauseLemmas.{stops-at}
use Rattle.edit_upgrade.proofs.PackageArgLemmas.{no_args, args_more}
use Rattle.edit_upgrade.proofs.package_selection.parse_package_args.Goals as goal

pub each_arg-init : goal.each_arg-init
each_arg-init c = no_args _ c.new.ensures.items c.new-2.ensures.empty

pub each_arg-preserved : goal.each_arg-preserved
each_arg-preserved c =
    let i = c.each_arg.arg-index in
    let old = map string_bytes (take i c.args.args.now) in
    let more = ap (λ (t : List ℕ). old ++ t ∷ []) c.as_str.ensures.value
    ∙ sym (names-more string_bytes c.args.args.now i c.arg-item.result c.each_arg-test.true c.arg-item.is) in
    subst (λ (ws : List (List ℕ)). ArePackageArgs ws c.add_package_arg.new.args) more
    (args_more old c.as_str.result.now c.each_arg.read c.add_package_arg.new.args c.each_arg.invariant
    c.in_ok-add_package_arg.ensures.ok)

pub returns-clause-ok : goal.returns-clause-ok
returns-clause-ok c =
    subst (λ (xs : List (String Global)). ArePackageArgs (map string_bytes xs) c.each_arg.read)
    (take_all c.each_arg.arg-index c.args.args.now (omega (arith, c.each_arg-test.false))) c.each_arg.invariant

pub returns-in_err-add_package_arg-clause-error : goal.returns-in_err-add_package_arg-clause-error
returns-in_err-add_package_arg-clause-error c =
    failure-has c.from_residual.result c.in_err-add_package_arg.field-0.0 _ c.from_residual.ensures.1
    (stops-at c.args.args.now c.each_arg.arg-index c.arg-item.result c.as_str.result.now
    c.in_err-add_package_arg.field-0.0 c.each_arg-test.true c.arg-item.is c.as_str.ensures.value
    c.each_arg.invariant.each c.in_err-add_package_arg.ensures.error)
