use Rattle.std.proofs.Common.{◌≡◌, rules, sym, Err}
use Rattle.semver.specs.Identifiers.{build_text}
use Rattle.semver.specs.Parse.{only_identifier}
use Rattle.semver.specs.declared.error.Position.TheVariants as place
use Rattle.semver.proofs.Grammar.{only_identifier-build}
use Rattle.edit_version.proofs.Steps.{build-refused}
use Rattle.edit_version.proofs.version.read_build.Goals as goal

pub returns-in-Ok-clause-ok : goal.returns-in-Ok-clause-ok
returns-in-Ok-clause-ok c =
    let s = only_identifier-build c.args.text.now (build_text c.in-Ok.build) c.in-Ok.ensures.ok in
    (sym s.0, s.1)

pub returns-in_ok-from_str-in-Err-clause-err : goal.returns-in_ok-from_str-in-Err-clause-err
returns-in_ok-from_str-in-Err-clause-err c =
    let r : only_identifier place.Build c.args.text.now ≡ Err c.in-Err.error = search rules in
    (build-refused c.args.text.now c.in-Err.error r, c.in_ok-from_str-in-Err.ensures.ok)
