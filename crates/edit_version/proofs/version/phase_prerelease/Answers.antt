use Rattle.std.proofs.Common.{◌≡◌, ◌∙◌, rules, sym, subst, List, ℕ, true}
use Rattle.edit_version.specs.Increments.{phase_prerelease}
use Rattle.semver.specs.Grammar.{is_pre_release}
use Rattle.semver.specs.Identifiers.{pre_text}
use Rattle.semver.proofs.Grammar.{only_identifier-pre}
use Rattle.edit_version.proofs.version.phase_prerelease.Goals as goal

pub returns-in-Ok-clause-ok : goal.returns-in-Ok-clause-ok
returns-in-Ok-clause-ok c =
    let s = only_identifier-pre c.as_str.result.now (pre_text c.in-Ok.pre) c.in-Ok.ensures.ok in
    let t : c.as_str.result.now ≡ phase_prerelease c.args.phase c.args.number = search rules in
    let P : List ℕ → Type 0 = λ x. is_pre_release x ≡ true in
    (sym s.0 ∙ t, subst P s.0 s.1)
