use Rattle.std.proofs.Common.{refl, subst, sym, ◌+◌, Err}
use Rattle.edit_base.specs.declared.errors.Error.{Error}
use Rattle.edit_version.specs.Changed.{IsRaisedOrAtEnd}
use Rattle.edit_version.specs.Increments.{next_major, step, Major}
use Rattle.semver.specs.Identifiers.{parts_of}
use Rattle.edit_version.proofs.Steps.{fits-not}
use Rattle.edit_version.proofs.version.VersionVersionExt.increment_major.Goals as goal

pub returns-in_default-clause-changed : goal.returns-in_default-clause-changed
returns-in_default-clause-changed c =
    let v = parts_of c.args.self.now in
    let P : Error → Type 0 =
    λ e. IsRaisedOrAtEnd (step Major (parts_of c.args.self.now)) c.args.self.now c.args.self.now (Err e) in
    subst P (sym c.at_end.ensures) (
      refl,
      fits-not (c.args.self.now.major + 1) (next_major (parts_of c.args.self.now)) c.in_default.ensures,
      refl,
      refl,
      refl,
    )
