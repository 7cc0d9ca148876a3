use Rattle.std.proofs.Common.{◌≡◌, ap, arith, inl, inr, subst, true, ⊎_elim}
use Rattle.std.specs.Prelude.{◌⊎◌, not, string_bytes}
use Rattle.std.proofs.lemmas.List.Folds.{list_any_at}
use Rattle.edit_base.specs.Errors.{IsMemory, number_of}
use Rattle.edit_base.specs.declared.errors.Error.{Error}
use Rattle.edit_program.specs.LookupLines.{HasBadLookup}
use Rattle.edit_sources.specs.Names.{is_crate_name}
use Rattle.edit_upgrade.proofs.PlannedLemmas.{failure-has}
use Rattle.edit_upgrade.specs.declared.upgrade.Look.{Look}
use Rattle.edit_program.proofs.lookup_lines.lookup_lines_text.Goals as goal

pub returns-in_err-push_lookup-clause-error : goal.returns-in_err-push_lookup-clause-error
returns-in_err-push_lookup-clause-error c =
    failure-has c.from_residual.result c.in_err-push_lookup.field-0.0
    (λ (e : Error). IsMemory e ⊎ HasBadLookup c.args.lookups.now (number_of e)) c.from_residual.ensures.1
    (⊎_elim (λ m. inl m) (λ bad. inr (
      bad.0,
      list_any_at (λ (l : Look). not (is_crate_name (string_bytes l.name))) c.args.lookups.now
          c.loop-lookup.lookup-index c.lookup-item.result (omega arith)
          (subst (λ (l : Look). not (is_crate_name (string_bytes l.name)) ≡ true) c.lookup-item.is (ap not bad.1)),
    )) c.in_err-push_lookup.ensures.error)
