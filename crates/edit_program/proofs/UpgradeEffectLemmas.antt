-- What an upgrade prints and writes, once it is carried out.
use Rattle.std.proofs.Common.{◌≡◌, ◌∙◌, ℕ, Bool, List, [], ◌∷◌, ◌++◌, Some, None, true, false, ap, arith, inl, inr, length, map, refl, string_bytes, subst, sym}
use Rattle.std.specs.Prelude.{◌⊎◌, ◌||◌, if◌then◌else◌, not}
use Rattle.std.proofs.lemmas.List.{append_assoc}
use Rattle.edit_base.specs.declared.errors.Error.{Error}
use Rattle.edit_base.specs.declared.errors.Error.TheVariants.{Locked}
use Rattle.edit_report.specs.Applied.{HasStopped}
use Rattle.edit_report.specs.declared.output.Output.{Output}
use Rattle.edit_store.specs.Store.{SameFiles, StoreView}
use Rattle.edit_program.proofs.DryRuns.{no_files, unchanged}
use Rattle.edit_program.specs.CallsFile.{calls_files}
use Rattle.edit_program.specs.Delivered.{AreBothWritten, HaveStopped, IsDelivered, IsDeliveryInterrupted, IsWrittenAfterPrint, upgrade_outputs_to_write}
use Rattle.edit_program.specs.Delivery.{Delivery}
use Rattle.edit_program.specs.DeliveryCauses.{IsDeliveryCause, IsNamesError}
use Rattle.edit_program.specs.Effects.{AreCarriedOut, AreInterrupted, HasStoppedIn, IsEffectCause, diffs_in, stderr_of, stdout_of, written_outputs}
use Rattle.edit_program.specs.PrintedPlan.{diffs_if, messages_as, upgrade_stdout_text}
use Rattle.edit_program.specs.StderrText.{call_statuses, input_reports, upgrade_stderr_text}
use Rattle.edit_program.specs.Tables.{tables}
use Rattle.edit_program.specs.UpgradeEffects.{AreEffectsOf, IsLockError, IsUnlocked, error_in}
use Rattle.edit_program.specs.declared.effects.Effects.{Effects}

-- ---- nothing is written

pub stopped_nowhere : {P : Type 0} (outputs : List Output) (old new : StoreView) → outputs ≡ []
    → HasStopped outputs old new → P
stopped_nowhere [] old new is stopped = absurd (omega (arith, stopped.within))
stopped_nowhere (o ∷ outputs) old new is stopped = absurd (cc is)

pub both_unchanged : (first last : List Output) (old new : StoreView) → first ≡ [] → last ≡ []
    → AreBothWritten first last old new → SameFiles old.file_at new.file_at
both_unchanged first last old new none none_last both path =
    unchanged last both.mid new none_last both.behind path ∙ unchanged first old both.mid none both.before path

-- if nothing is to be written, then no file changes, wherever the run stops
pub none_changed : (Reports : List ℕ → Type 0) (e : Effects) (old new : StoreView) → written_outputs e ≡ []
    → e.calls_file.items ≡ [] → HasStoppedIn Reports e old new → SameFiles old.file_at new.file_at
none_changed Reports e old new none none_last (inl (stopped, says)) =
    stopped_nowhere (written_outputs e) old new none stopped
none_changed Reports e old new none none_last (inr (inl (written, more))) =
    unchanged (written_outputs e) old new none written
none_changed Reports e old new none none_last (inr (inr (inl left))) =
    stopped_nowhere e.calls_file.items left.mid new none_last left.behind
none_changed Reports e old new none none_last (inr (inr (inr (both, more)))) =
    both_unchanged (written_outputs e) e.calls_file.items old new none none_last both

-- ---- what is printed and written

-- what is written, from whether the writes are held back
pub written_by : (held writes : Bool) (made of : List Output) → writes ≡ not held → made ≡ of
    → (if writes then made else []) ≡ (if held then [] else of)
written_by true true made of w is = absurd (cc w)
written_by true false made of w is = refl
written_by false true made of w is = is
written_by false false made of w is = absurd (cc w)

written_are : (d : Delivery) (e : Effects) → AreEffectsOf d e
    → written_outputs e ≡ upgrade_outputs_to_write d.options d.plan.outputs.items
written_are d e is = written_by (d.options.dry_run || d.options.locked) e.writes e.outputs.items
    d.plan.outputs.items is.writes is.outputs

stdout_is : (d : Delivery) (e : Effects) → AreEffectsOf d e → stdout_of e ≡ upgrade_stdout_text d
stdout_is d e is =
    let tables_text = tables d.presentation.format d.options.verbosity d.plan.rows.items (length d.inputs) in
    let plan_text = messages_as d.presentation.format d.plan d.inputs d.current d.options d.calls in
    ap (λ (text : List ℕ). text ++ diffs_in e.diffs e.outputs.items) is.reports.stdout
    ∙ ap (λ (text : List ℕ). (tables_text ++ plan_text) ++ text) is.diffs
    ∙ append_assoc tables_text plan_text
    (diffs_if d.presentation.diff d.current d.inputs d.plan.outputs.items)

stderr_is : (d : Delivery) (e : Effects) → AreEffectsOf d e
    → IsUnlocked d (string_bytes e.calls) (error_in e.failure) e.notes.items
    → stderr_of e ≡ upgrade_stderr_text d
stderr_is d e is free =
    ap (λ (text : List ℕ). text ++ (string_bytes e.calls ++ e.notes.items)) is.reports.stderr
    ∙ ap (λ (text : List ℕ).
    input_reports d.options.verbosity d.plan.warnings.items d.inputs (length d.inputs) ++ (text ++ e.notes.items))
    free.calls
    ∙ ap (λ (text : List ℕ).
    input_reports d.options.verbosity d.plan.warnings.items d.inputs (length d.inputs)
    ++ (call_statuses d.calls ++ text)) free.notes

printed_by : (Leaves : List Output → List Output → StoreView → StoreView → Type 0) (Prints : List ℕ → Type 0)
    (d : Delivery) (e : Effects) (old new : StoreView) → AreEffectsOf d e
    → (d.options.locked ≡ true → d.plan.outputs.items ≡ []) → Prints (stdout_of e)
    → Leaves (written_outputs e) e.calls_file.items old new → IsWrittenAfterPrint Leaves Prints d old new
printed_by Leaves Prints d e old new is unlocked shows leaves = record {
  shows = subst Prints (stdout_is d e is) shows;
  unlocked = unlocked;
  calls = e.calls_file.items;
  are = is.reports.files;
  leaves = subst (λ outputs. Leaves outputs e.calls_file.items old new) (written_are d e is) leaves;
}

-- ---- the whole

-- everything is printed and written
pub carried : (Prints Reports : List ℕ → Type 0) (d : Delivery) (e : Effects) (old new : StoreView)
    → AreEffectsOf d e → AreCarriedOut Prints Reports e old new
    → IsDelivered Prints d old new × Reports (upgrade_stderr_text d)
carried Prints Reports d e old new is done = by is.reports.ends
  where
    by : IsLockError d (string_bytes e.calls) (error_in e.failure)
        ⊎ IsUnlocked d (string_bytes e.calls) (error_in e.failure) e.notes.items
        → IsDelivered Prints d old new × Reports (upgrade_stderr_text d)
    by (inl locked) =
        let none : error_in e.failure ≡ None = ap error_in done.ends in
        absurd (cc (locked.is, none))
    by (inr free) = (
      record {
        printed = printed_by AreBothWritten Prints d e old new is free.unlocked done.shows done.written;
        complete = subst (IsNamesError (map string_bytes d.plan.missing.items)) (ap error_in done.ends)
            free.names;
      },
      subst Reports (stderr_is d e is free) done.says,
    )

-- nothing is written if the manifests are locked
locked_outputs : (d : Delivery) (e : Effects) → AreEffectsOf d e → d.options.locked ≡ true
    → written_outputs e ≡ []
locked_outputs d e is locked = written_are d e is ∙ none d.options.dry_run d.options.locked locked
  where
    none : (dry held : Bool) → held ≡ true → (if dry || held then [] else d.plan.outputs.items) ≡ []
    none true held h = refl
    none false true h = refl
    none false false h = absurd (cc h)

locked_files : (d : Delivery) (e : Effects) → AreEffectsOf d e → d.options.locked ≡ true
    → e.calls_file.items ≡ []
locked_files d e is locked =
    no_files e.calls_file.items (is.reports.files ∙ none d.options.dry_run d.options.locked locked)
  where
    none : (dry held : Bool) → held ≡ true
        → calls_files (if dry || held then None else d.calls_path) d.calls ≡ []
    none true held h = refl
    none false true h = refl
    none false false h = absurd (cc h)

-- not everything is printed and written
pub interrupted : (Prints Reports : List ℕ → Type 0) (d : Delivery) (e : Effects) (old new : StoreView)
    → AreEffectsOf d e → AreInterrupted Prints Reports e old new
    → SameFiles old.file_at new.file_at ⊎ IsDeliveryInterrupted Prints d old new
interrupted Prints Reports d e old new is (inl same) = inl same
interrupted Prints Reports d e old new is (inr (shows, stopped)) = by is.reports.ends stopped
  where
    by : IsLockError d (string_bytes e.calls) (error_in e.failure)
        ⊎ IsUnlocked d (string_bytes e.calls) (error_in e.failure) e.notes.items
        → HasStoppedIn Reports e old new
        → SameFiles old.file_at new.file_at ⊎ IsDeliveryInterrupted Prints d old new
    by (inl locked) at = inl (none_changed Reports e old new (locked_outputs d e is locked.locked)
        (locked_files d e is locked.locked) at)
    by (inr free) (inl (first, says)) =
        inr (inl (printed_by HaveStopped Prints d e old new is free.unlocked shows (inl first)))
    by (inr free) (inr (inl (written, more))) =
        inr (inl (printed_by HaveStopped Prints d e old new is free.unlocked shows (inr (inl written))))
    by (inr free) (inr (inr (inl left))) =
        inr (inl (printed_by HaveStopped Prints d e old new is free.unlocked shows (inr (inr left))))
    by (inr free) (inr (inr (inr (both, more)))) =
        inr (inr (printed_by AreBothWritten Prints d e old new is free.unlocked shows both))

-- the cause of an error
pub effect_cause : (Prints : List ℕ → Type 0) (d : Delivery) (e : Effects) (old new : StoreView)
    (error : Error) → AreEffectsOf d e → IsEffectCause Prints e old new error
    → IsDeliveryCause Prints d old new error
effect_cause Prints d e old new error is (inl failed) = inl failed
effect_cause Prints d e old new error is (inr (inl (unwritten, leaves))) = inr (inl unwritten)
effect_cause Prints d e old new error is (inr (inr end)) = by is.reports.ends
  where
    failed : error_in e.failure ≡ Some error
    failed = ap error_in end.fails ∙ ap (λ x. Some x) (sym end.is)

    by : IsLockError d (string_bytes e.calls) (error_in e.failure)
        ⊎ IsUnlocked d (string_bytes e.calls) (error_in e.failure) e.notes.items
        → IsDeliveryCause Prints d old new error
    by (inl locked) =
        let is_locked : error ≡ Locked = cc (failed, locked.is) in
        inr (inr (inl (
          both_unchanged (written_outputs e) e.calls_file.items old new
              (locked_outputs d e is locked.locked) (locked_files d e is locked.locked) end.written,
          inl (is_locked, locked.locked, locked.changes),
        )))
    by (inr free) = inr (inr (inr (
      printed_by AreBothWritten Prints d e old new is free.unlocked end.shows end.written,
      subst (IsNamesError (map string_bytes d.plan.missing.items)) failed free.names,
    )))
