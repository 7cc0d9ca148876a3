-- What `set-version` prints and writes, once it is carried out.
use Rattle.std.proofs.Common.{◌≡◌, ◌≢◌, ◌∙◌, ℕ, Bool, List, [], ◌∷◌, ◌++◌, true, false, ap, append-nil, arith, codes, inl, inr, refl, string_bytes, subst, sym}
use Rattle.std.specs.Prelude.{◌⊎◌, if◌then◌else◌}
use Rattle.edit_base.specs.declared.errors.DeviceCall.TheVariants as call
use Rattle.edit_base.specs.declared.errors.Error.{Error}
use Rattle.edit_report.specs.Applied.{AreWritten, HasStopped}
use Rattle.edit_report.specs.declared.output.Output.{Output}
use Rattle.edit_set_version.specs.Bumps.{target_of}
use Rattle.edit_set_version.specs.PlanRefused.{IsCauseOf}
use Rattle.edit_set_version.specs.Planned.{plan_lines_view}
use Rattle.edit_set_version.specs.Selections.{selection_view}
use Rattle.edit_set_version.specs.declared.plan.SetVersionPlan.{SetVersionPlan}
use Rattle.edit_metadata.specs.declared.input.Input.{Input}
use Rattle.edit_steps.proofs.Written.{stopped_after, written_after}
use Rattle.edit_store.specs.Store.{OnlyReads, SameFiles, StoreView}
use Rattle.edit_program.proofs.DeliveryLemmas.{refused_later}
use Rattle.edit_program.proofs.DryRuns.{unchanged}
use Rattle.edit_program.proofs.SetVersionLemmas.{plan_cause, stream_cause}
use Rattle.edit_program.proofs.StagingLemmas.{written_still}
use Rattle.edit_program.proofs.UpgradeEffectLemmas.{both_unchanged, none_changed, stopped_nowhere, written_by}
use Rattle.edit_program.specs.Delivered.{AreBothWritten}
use Rattle.edit_program.specs.Effects.{AreCarriedOut, AreInterrupted, HasMore, HasStoppedIn, IsEffectCause, stderr_texts, written_outputs}
use Rattle.edit_program.specs.Printed.{set_version_stderr_text, warning_if}
use Rattle.edit_program.specs.SetVersionCauses.{IsSetVersionCause}
use Rattle.edit_program.specs.SetVersions.{AreVersionsSet, IsSettingInterrupted, has_some, outputs_to_write}
use Rattle.edit_program.specs.VersionEffects.{AreTextsOf, AreVersionEffects, IsSetting, IsUnplannedSetting}
use Rattle.edit_program.specs.declared.effects.Effects.{Effects}
use Rattle.edit_program.specs.declared.set_version_run.set_version_args.SetVersionArgs.{SetVersionArgs}

-- ---- what is written

written_are : (args : SetVersionArgs) (root : List ℕ) (inputs : List Input) (plan : SetVersionPlan) (e : Effects)
    → AreTextsOf args root inputs plan e → written_outputs e ≡ outputs_to_write args plan.outputs.items
written_are args root inputs plan e is =
    written_by args.dry_run e.writes e.outputs.items plan.outputs.items is.writes is.outputs

nothing_due : (writes : Bool) (outputs : List Output) → outputs ≡ [] → (if writes then outputs else []) ≡ []
nothing_due true outputs is = is
nothing_due false outputs is = refl

-- without a file of calls, all that is written is the manifests
both_written : (first last : List Output) (old new : StoreView) → last ≡ [] → AreBothWritten first last old new
    → AreWritten first old new
both_written first [] old new is both =
    written_still first old both.mid new (unchanged [] both.mid new refl both.behind)
    (both.behind.once ∙ append-nil both.mid.writes) both.before
both_written first (o ∷ last) old new is both = absurd (cc is)

-- if something is printed after the writes, nothing is written
dry_by : (dry : Bool) (outputs : List Output)
    → warning_if dry (codes "aborting set-version due to dry run") ≢ [] → (if dry then [] else outputs) ≡ []
dry_by true outputs some = refl
dry_by false outputs some = absurd (some refl)

more_writes_none : (args : SetVersionArgs) (root : List ℕ) (inputs : List Input) (plan : SetVersionPlan)
    (e : Effects) → AreTextsOf args root inputs plan e → string_bytes e.calls ≡ [] → HasMore e
    → written_outputs e ≡ []
more_writes_none args root inputs plan e is calls (inl some) = absurd (some calls)
more_writes_none args root inputs plan e is calls (inr (inl some)) =
    written_are args root inputs plan e is
    ∙ dry_by args.dry_run plan.outputs.items (λ none. some (is.notes ∙ none))
more_writes_none args root inputs plan e is calls (inr (inr fails)) = absurd (fails is.ends)

-- ---- everything is printed and written

pub versions_set : (Prints Reports : List ℕ → Type 0) (args : SetVersionArgs) (current : List ℕ)
    (old mid new : StoreView) (e : Effects) → OnlyReads old mid → IsSetting args current old e
    → AreCarriedOut Prints Reports e mid new → old.tells ≡ true
    → AreVersionsSet Prints Reports args current (has_some e.outputs.items) old new
versions_set Prints Reports args current old mid new e reads setting done t = by setting.ends
  where
    by : AreVersionEffects args current old e ⊎ IsUnplannedSetting args current old e
        → AreVersionsSet Prints Reports args current (has_some e.outputs.items) old new
    by (inr unplanned) = absurd (cc (unplanned.fails, done.ends))
    by (inl h) = record {
      workspace = h.workspace;
      inputs = h.inputs;
      plan = h.plan;
      read = h.read t;
      planned = h.planned;
      shows = subst Prints h.texts.stdout done.shows;
      tells = subst Reports h.texts.stderr done.says;
      leaves = (
        subst (λ outputs. AreWritten outputs old new)
            (written_are args h.workspace.root h.inputs h.plan e h.texts)
            (written_after (written_outputs e) old mid new reads
            (both_written (written_outputs e) e.calls_file.items mid new setting.files done.written)),
        ap has_some h.texts.outputs,
      );
    }

-- ---- not everything is

stopped_some : (dry : Bool) (outputs : List Output) (old new : StoreView)
    → HasStopped (if dry then [] else outputs) old new → dry ≡ false
stopped_some true outputs old new stopped = absurd (omega (arith, stopped.within))
stopped_some false outputs old new stopped = refl

-- all that standard error got where writing stopped at a manifest
said : (args : SetVersionArgs) (root : List ℕ) (inputs : List Input) (plan : SetVersionPlan) (e : Effects)
    → AreTextsOf args root inputs plan e → string_bytes e.calls ≡ [] → args.dry_run ≡ false
    → stderr_texts e.messages.items ≡ set_version_stderr_text args (plan_lines_view plan)
said args root inputs plan e is calls wet =
    let texts = stderr_texts e.messages.items in
    let quiet : e.notes.items ≡ [] =
    is.notes ∙ ap (λ dry. warning_if dry (codes "aborting set-version due to dry run")) wet in
    sym (append-nil texts)
    ∙ ap (λ (text : List ℕ). texts ++ text) (sym quiet)
    ∙ ap (λ (text : List ℕ). texts ++ (text ++ e.notes.items)) (sym calls)
    ∙ is.stderr

pub setting_interrupted : (Prints Reports : List ℕ → Type 0) (args : SetVersionArgs) (current : List ℕ)
    (old mid new : StoreView) (e : Effects) → OnlyReads old mid → IsSetting args current old e
    → AreInterrupted Prints Reports e mid new → old.tells ≡ true
    → SameFiles old.file_at new.file_at ⊎ IsSettingInterrupted Prints Reports args current old new
setting_interrupted Prints Reports args current old mid new e reads setting (inl same) t =
    inl (λ path. same path ∙ reads.files path)
setting_interrupted Prints Reports args current old mid new e reads setting (inr (shows, at)) t =
    by setting.ends at
  where
    unwritten : written_outputs e ≡ []
        → SameFiles old.file_at new.file_at ⊎ IsSettingInterrupted Prints Reports args current old new
    unwritten none =
        inl (λ path. none_changed Reports e mid new none setting.files at path ∙ reads.files path)

    by : AreVersionEffects args current old e ⊎ IsUnplannedSetting args current old e
        → HasStoppedIn Reports e mid new
        → SameFiles old.file_at new.file_at ⊎ IsSettingInterrupted Prints Reports args current old new
    by (inr unplanned) stopped = unwritten (nothing_due e.writes e.outputs.items unplanned.outputs)
    by (inl h) (inl (stopped, says)) =
        let are = written_are args h.workspace.root h.inputs h.plan e h.texts in
        let stops = subst (λ outputs. HasStopped outputs mid new) are stopped in
        inr (record {
          workspace = h.workspace;
          inputs = h.inputs;
          plan = h.plan;
          read = h.read t;
          planned = h.planned;
          shows = subst Prints h.texts.stdout shows;
          tells = subst Reports (said args h.workspace.root h.inputs h.plan e h.texts setting.calls
              (stopped_some args.dry_run h.plan.outputs.items mid new stops)) says;
          leaves = stopped_after (outputs_to_write args h.plan.outputs.items) old mid new reads stops;
        })
    by (inl h) (inr (inl (written, more))) =
        unwritten (more_writes_none args h.workspace.root h.inputs h.plan e h.texts setting.calls more)
    by (inl h) (inr (inr (inl left))) =
        stopped_nowhere e.calls_file.items left.mid new setting.files left.behind
    by (inl h) (inr (inr (inr (both, more)))) =
        unwritten (more_writes_none args h.workspace.root h.inputs h.plan e h.texts setting.calls more)

-- ---- the cause of an error

pub setting_cause : (Prints Reports : List ℕ → Type 0) (args : SetVersionArgs) (current : List ℕ)
    (old mid new : StoreView) (e : Effects) (error : Error) → OnlyReads old mid → IsSetting args current old e
    → AreInterrupted Prints Reports e mid new → IsEffectCause Prints e mid new error
    → IsSetVersionCause args current old new error
setting_cause Prints Reports args current old mid new e error reads setting at (inl failed) =
    inl (refused_later call.Write old mid new error reads.later failed)
setting_cause Prints Reports args current old mid new e error reads setting at (inr (inl (is, inl same))) =
    stream_cause args current old new error (λ path. same path ∙ reads.files path) (inr is)
setting_cause Prints Reports args current old mid new e error reads setting at (inr (inl (is, inr more))) =
    stream_cause args current old new error (by setting.ends at) (inr is)
  where
    stays : written_outputs e ≡ [] → AreInterrupted Prints Reports e mid new
        → SameFiles old.file_at new.file_at
    stays none (inl same) path = same path ∙ reads.files path
    stays none (inr (shows, stopped)) path =
        none_changed Reports e mid new none setting.files stopped path ∙ reads.files path

    by : AreVersionEffects args current old e ⊎ IsUnplannedSetting args current old e
        → AreInterrupted Prints Reports e mid new → SameFiles old.file_at new.file_at
    by (inl h) left = stays
        (more_writes_none args h.workspace.root h.inputs h.plan e h.texts setting.calls more) left
    by (inr unplanned) left = stays (nothing_due e.writes e.outputs.items unplanned.outputs) left
setting_cause Prints Reports args current old mid new e error reads setting at (inr (inr end)) =
    by setting.ends
  where
    by : AreVersionEffects args current old e ⊎ IsUnplannedSetting args current old e
        → IsSetVersionCause args current old new error
    by (inl h) = absurd (cc (h.texts.ends, end.fails))
    by (inr unplanned) =
        let same_error : unplanned.failure.error ≡ error = cc (unplanned.fails, end.fails, end.is) in
        plan_cause args current old new unplanned.workspace unplanned.inputs error
        (λ path. both_unchanged (written_outputs e) e.calls_file.items mid new
        (nothing_due e.writes e.outputs.items unplanned.outputs) setting.files end.written path
        ∙ reads.files path)
        unplanned.read (subst (IsCauseOf (target_of args.target) (selection_view args.selection)
        unplanned.workspace unplanned.inputs) same_error unplanned.cause)
