use Rattle.std.proofs.Common.{inl, inr, subst, sym}
use Rattle.edit_diagnostics.specs.FailurePlaces.{IsIndexError}
use Rattle.edit_diagnostics.proofs.FailureLemmas.{index-place}
use Rattle.edit_diagnostics.proofs.upgrade.explain_entry.Goals as goal

pub returns-in-IndexLine-clause-place : goal.returns-in-IndexLine-clause-place
returns-in-IndexLine-clause-place g c =
    index-place c.at_index.result.place c.args.error c.args.at.input.now (elim c.in-IndexLine.is [
      | inl line ↦ subst IsIndexError (sym line.1) tt
      | inr device ↦ subst IsIndexError (sym device.1) tt
    ])
