use Rattle.std.proofs.Common.{◌∙◌, List, ℕ, ap, option_copied, subst, sym}
use Rattle.std.specs.Prelude.{IsTrue}
use Rattle.std.proofs.lemmas.Result.{err_from_is_err_and}
use Rattle.semver.specs.Grammar.{is_pre_release}
use Rattle.semver.specs.Identifiers.{parts_of}
use Rattle.semver.specs.Parse.{Parts}
use Rattle.edit_version.specs.Changed.{IsCause}
use Rattle.edit_version.specs.Increments.{Change}
use Rattle.edit_set_version.specs.Bumps.{raised_by, with_given}
use Rattle.edit_set_version.proofs.MadeVersions.{build_refused, cause_stays}
use Rattle.edit_set_version.proofs.bump.raised_version.Goals as goal

pub returns-in_err-version-clause-made : goal.returns-in_err-version-clause-made
returns-in_err-version-clause-made c =
    let r = err_from_is_err_and c.from_residual.result c.from_residual.ensures.1 in
    rw (r.1, r.2) tt

pub returns-in_err-raise_by-clause-made : goal.returns-in_err-raise_by-clause-made
returns-in_err-raise_by-clause-made c =
    let r = err_from_is_err_and c.from_residual-in_err-raise_by.result
    c.from_residual-in_err-raise_by.ensures.1 in
    let given = option_copied c.args.metadata in
    let copied = parts_of c.in_ok-version.version in
    let e = c.in_err-raise_by.field-0.0 in
    rw (r.1, r.2) (subst (λ (v : Parts). IsCause (with_given given (raised_by c.args.level v)) v e)
    c.in_ok-version.ensures
    (cause_stays given (raised_by c.args.level copied) copied e c.in_err-raise_by.ensures.changed.1))

pub returns-in_err-set_build-clause-made : goal.returns-in_err-set_build-clause-made
returns-in_err-set_build-clause-made c =
    let r = err_from_is_err_and c.from_residual-in_err-set_build.result
    c.from_residual-in_err-set_build.ensures.1 in
    let given = option_copied c.args.metadata in
    let current = parts_of c.args.current.now in
    let raised = parts_of c.raise_by.new.version in
    let e = c.in_err-set_build.field-0.0 in
    let is = ap (raised_by c.args.level) (sym c.in_ok-version.ensures) ∙ c.in_ok-raise_by.ensures.changed in
    rw (r.1, r.2) (subst (λ (d : Change). IsCause (with_given given d) current e) (sym is)
    (build_refused given raised raised current e c.in_err-set_build.ensures.changed.1))

pub returns-clause-made : goal.returns-clause-made
returns-clause-made c =
    let is = ap (raised_by c.args.level) (sym c.in_ok-version.ensures) ∙ c.in_ok-raise_by.ensures.changed in
    ap (with_given (option_copied c.args.metadata)) is ∙ c.in_ok-set_build.ensures.changed

pub returns-clause-readable : goal.returns-clause-readable
returns-clause-readable c =
    subst (λ (t : List ℕ). IsTrue (is_pre_release t)) (sym c.in_ok-set_build.ensures.pre)
    c.in_ok-raise_by.ensures.readable
