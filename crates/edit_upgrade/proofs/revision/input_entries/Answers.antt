use Rattle.std.proofs.Common.{List, ap, subst, ℕ}
use Rattle.std.specs.Prelude.{option_copied}
use Rattle.edit_base.specs.Errors.{IsMemory}
use Rattle.edit_manifest.specs.Loaded.{IsBadManifest}
use Rattle.edit_upgrade.proofs.PlannedLemmas.{failure-has}
use Rattle.edit_upgrade.proofs.RevisionLemmas.{readable}
use Rattle.edit_upgrade.proofs.revision.input_entries.Goals as goal

pub returns-in_err-manifest-in-None-clause-error : goal.returns-in_err-manifest-in-None-clause-error
returns-in_err-manifest-in-None-clause-error c =
    let e = c.in_err-manifest-in-None.field-0.0 in
    failure-has c.from_residual-in_err-manifest-in-None.result e IsMemory c.from_residual-in_err-manifest-in-None.ensures.1
    (readable c.args.input.now.bytes.items e c.requires.manifest.0 c.requires.manifest.1
    (c.requires.utf8 (ap option_copied c.in-None.is))
    (subst (λ (bytes : List ℕ). IsBadManifest bytes e) c.deref.ensures.value
    c.in_err-manifest-in-None.ensures.error))
