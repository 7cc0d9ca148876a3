use Rattle.std.proofs.Common.{refl, subst, sym, ◌+◌, Err}
use Rattle.edit_base.specs.declared.errors.Error.{Error}
use Rattle.edit_version.specs.Changed.{IsRaisedOrAtEnd}
use Rattle.edit_version.specs.Increments.{next_minor, step, Minor}
use Rattle.semver.specs.Identifiers.{parts_of}
use Rattle.edit_version.proofs.Steps.{fits-not}
use Rattle.edit_version.proofs.version.VersionVersionExt.increment_minor.Goals as goal

pub returns-in_default-clause-changed : goal.returns-in_default-clause-changed
returns-in_default-clause-changed c =
    let v = parts_of c.args.self.now in
    let P : Error → Type 0 =
    λ e. IsRaisedOrAtEnd (step Minor (parts_of c.args.self.now)) c.args.self.now c.args.self.now (Err e) in
    subst P (sym c.at_end.ensures) (
      refl,
      fits-not (c.args.self.now.minor + 1) (next_minor (parts_of c.args.self.now)) c.in_default.ensures,
      refl,
      refl,
      refl,
    )
