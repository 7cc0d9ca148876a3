-- The causes of errors of an upgrade, from its steps.
use Rattle.std.proofs.Common.{◌≡◌, ◌∙◌, ℕ, List, Option, inl, inr, true}
use Rattle.std.specs.Prelude.{◌⊎◌}
use Rattle.edit_base.specs.Errors.{IsMemory}
use Rattle.edit_base.specs.declared.errors.Error.{Error}
use Rattle.edit_report.specs.Applied.{AreWritten}
use Rattle.edit_sources.specs.Configured.{given}
use Rattle.edit_base.specs.declared.errors.DeviceCall.TheVariants as call
use Rattle.edit_store.specs.Store.{OnlyReads, SameFiles, StoreView}
use Rattle.edit_upgrade.specs.declared.upgrade.UpgradePlan.{UpgradePlan}
use Rattle.edit_steps.proofs.ReadLemmas.{refused_on}
use Rattle.edit_steps.specs.Causes.{IsFailure, IsReadCause}
use Rattle.edit_steps.specs.Shared.{lists_for}
use Rattle.edit_program.proofs.UpgradeLemmas.{printed_after}
use Rattle.edit_program.proofs.StagingLemmas.{behind_after}
use Rattle.edit_program.specs.DeliveryCauses.{IsDeliveryCause, IsStopped}
use Rattle.edit_program.specs.Delivered.{AreBothWritten}
use Rattle.edit_program.specs.Delivery.{Delivery}
use Rattle.edit_program.specs.Followed.{AreByPolicy, HasBadPolicy, HasNoUpgradeIndex, IsReady}
use Rattle.edit_program.specs.LockRead.{HasNoLock}
use Rattle.edit_program.specs.PlannedUpgrades.{prints_nothing}
use Rattle.edit_program.specs.UpgradeCauses.{IsUnfit, IsUnplanned, IsUpgradeCause}
use Rattle.edit_program.specs.UpgradeErrors.{IsReadingError, IsUpgradeError}
use Rattle.edit_program.specs.Planned.{IsPlanCause, to_request, upgrade_index}
use Rattle.edit_program.specs.Run.{Run, run_at}
use Rattle.edit_program.specs.Revising.{IsRevisionError}
use Rattle.edit_program.specs.Upgrading.{IsPathOf, IsPlannedFor, IsRevisedFor, delivery_for}
use Rattle.edit_program.specs.declared.upgrade_run.following.Readings.{Readings}
use Rattle.edit_program.specs.declared.upgrade_run.upgrade_args.UpgradeArgs.{UpgradeArgs}

-- what the arguments name is not read, or the policy cannot be followed: there is an error of reading, with
-- its cause in the files where the store tells what these hold
unread : (HasFields : List ℕ → Type 0) (args : UpgradeArgs) (current : List ℕ) (home : Option (List ℕ))
    (local old new : StoreView) (e : Error) → SameFiles old.file_at new.file_at
    → IsFailure old new e ⊎ IsReadingError args current e
    → (old.tells ≡ true → IsUnplanned args current home local old.file_at e)
    → IsUpgradeCause HasFields args (run_at current home local old new) e
unread HasFields args current home local old new e same (inl failed) wrong = inr (inl (same, failed))
unread HasFields args current home local old new e same (inr only) wrong =
    inr (inr (inr (inr (inl only, λ t. inl (same, inl (wrong t))))))

-- the lock file, another file or the index is not read, or the policy cannot be followed
pub policy_cause : (HasFields : List ℕ → Type 0) (args : UpgradeArgs) (current : List ℕ)
    (home : Option (List ℕ)) (local old new : StoreView) (e : Error) → SameFiles old.file_at new.file_at
    → IsFailure old new e ⊎ IsReadingError args current e
    → (IsReadCause current home (to_request args) old new e
    ⊎ (old.tells ≡ true → HasNoLock args.to_lockfile old.file_at current (given args.lock_file) e))
    ⊎ (old.tells ≡ true → HasBadPolicy args current home old.file_at e
    ⊎ HasNoUpgradeIndex args current home old.file_at e)
    → IsUpgradeCause HasFields args (run_at current home local old new) e
policy_cause HasFields args current home local old new e same only (inl (inl (inl failed))) =
    inr (inl (same, failed))
policy_cause HasFields args current home local old new e same only (inl (inl (inr wrong))) =
    unread HasFields args current home local old new e same only (λ t. inr (inl (wrong t)))
policy_cause HasFields args current home local old new e same only (inl (inr none)) =
    unread HasFields args current home local old new e same only (λ t. inl (none t))
policy_cause HasFields args current home local old new e same only (inr bad) =
    unread HasFields args current home local old new e same only (λ t. inr (inr (inl (bad t))))

-- there is no plan for it
pub plan_cause : (HasFields : List ℕ → Type 0) (args : UpgradeArgs) (current : List ℕ)
    (home : Option (List ℕ)) (local old new : StoreView) (r : Readings) (e : Error)
    → SameFiles old.file_at new.file_at → AreByPolicy args r
    → (old.tells ≡ true → IsReady args current home old.file_at r)
    → IsMemory e ⊎ IsPlanCause r.args.options r.sources.target.inputs.items (lists_for r.sources.configs)
    (upgrade_index r local) e
    → IsUpgradeCause HasFields args (run_at current home local old new) e
plan_cause HasFields args current home local old new r e same by ready (inl memory) = inl memory
plan_cause HasFields args current home local old new r e same by ready (inr wrong) =
    inr (inr (inr (inr (
      inr (inl (record { readings = r; by_policy = by; cause = wrong })),
      λ t. inl (same, inl (inr (inr (inr (record { readings = r; ready = ready t; cause = wrong }))))),
    ))))

-- a row is chosen that it has not
pub revision_cause : (HasFields : List ℕ → Type 0) (args : UpgradeArgs) (current : List ℕ)
    (home : Option (List ℕ)) (local old new : StoreView) (r : Readings) (single : UpgradePlan) (e : Error)
    → SameFiles old.file_at new.file_at → AreByPolicy args r
    → (old.tells ≡ true → IsReady args current home old.file_at r)
    → IsPlannedFor r local single
    → IsMemory e ⊎ IsRevisionError r.args r.sources.target.inputs.items (lists_for r.sources.configs) single e
    → IsUpgradeCause HasFields args (run_at current home local old new) e
revision_cause HasFields args current home local old new r single e same by ready planned (inl memory) =
    inl memory
revision_cause HasFields args current home local old new r single e same by ready planned (inr missing) =
    inr (inr (inr (inr (
      inr (inr (inl (record {
        readings = r;
        single = single;
        by_policy = by;
        planned = planned;
        missing = missing;
      }))),
      λ t. inl (
        same,
        inr (record { readings = r; single = single; ready = ready t; planned = planned; missing = missing }),
      ),
    ))))

-- a plan is not carried out behind reads
stopped_later : (HasFields : List ℕ → Type 0) (d : Delivery) (old mid new : StoreView) (e : Error)
    → OnlyReads old mid
    → IsStopped HasFields d mid new e → IsStopped HasFields d old new e
stopped_later HasFields d old mid new e reads (inl held) =
    inl ((λ path. held.0 path ∙ reads.files path), held.1)
stopped_later HasFields d old mid new e reads (inr lacks) = inr (
  printed_after AreBothWritten HasFields d old mid new
      (λ first last. behind_after AreWritten first last old mid new reads) lacks.0,
  lacks.1,
)

-- the plan is not delivered
pub stop_cause : (HasFields : List ℕ → Type 0) (args : UpgradeArgs) (current : List ℕ)
    (home : Option (List ℕ)) (local old mid new : StoreView) (r : Readings) (single plan : UpgradePlan)
    (apart : List (List ℕ)) (path : Option (List ℕ)) (e : Error)
    → OnlyReads old mid → AreByPolicy args r
    → (old.tells ≡ true → IsReady args current home old.file_at r) → IsPlannedFor r local single
    → IsRevisedFor r single plan apart
    → IsPathOf current (given args.update_calls) path
    → IsDeliveryCause HasFields (delivery_for r current plan apart path) mid new e
    → IsUpgradeCause HasFields args (run_at current home local old new) e
stop_cause HasFields args current home local old mid new r single plan apart path e reads by ready planned
    revised at (inl refused) =
    inr (inr (inl (refused_on call.Write old mid new e reads refused)))
stop_cause HasFields args current home local old mid new r single plan apart path e reads by ready planned
    revised at (inr (inl unwritten)) =
    inr (inr (inr (inl unwritten)))
stop_cause HasFields args current home local old mid new r single plan apart path e reads by ready planned
    revised at (inr (inr stopped)) =
    let ends = stopped_later HasFields (delivery_for r current plan apart path) old mid new e reads stopped in
    inr (inr (inr (inr (
      inr (inr (inr (record {
        readings = r;
        single = single;
        plan = plan;
        apart = apart;
        path = path;
        by_policy = by;
        planned = planned;
        revised = revised;
        at = at;
        stopped = ends;
      }))),
      λ t. inr (record {
        readings = r;
        single = single;
        plan = plan;
        apart = apart;
        path = path;
        ready = ready t;
        planned = planned;
        revised = revised;
        at = at;
        ends = ends;
      }),
    ))))

-- ---- an error before anything is printed

stopped_unprinted : (Prints : List ℕ → Type 0) (d : Delivery) (old new : StoreView) (e : Error)
    → IsStopped prints_nothing d old new e → IsStopped Prints d old new e
stopped_unprinted Prints d old new e (inl blocked) = inl blocked
stopped_unprinted Prints d old new e (inr (written, names)) = absurd written.shows

error_unprinted : (Prints : List ℕ → Type 0) (args : UpgradeArgs) (run : Run) (e : Error)
    → IsUpgradeError prints_nothing args run e → IsUpgradeError Prints args run e
error_unprinted Prints args run e (inl reading) = inl reading
error_unprinted Prints args run e (inr (inl planning)) = inr (inl planning)
error_unprinted Prints args run e (inr (inr (inl choice))) = inr (inr (inl choice))
error_unprinted Prints args run e (inr (inr (inr h))) = inr (inr (inr (record {
  readings = h.readings;
  single = h.single;
  plan = h.plan;
  apart = h.apart;
  path = h.path;
  by_policy = h.by_policy;
  planned = h.planned;
  revised = h.revised;
  at = h.at;
  stopped = stopped_unprinted Prints (delivery_for h.readings run.current h.plan h.apart h.path) run.old
      run.new e h.stopped;
})))

unfit_unprinted : (Prints : List ℕ → Type 0) (args : UpgradeArgs) (run : Run) (e : Error)
    → IsUnfit prints_nothing args run e → IsUnfit Prints args run e
unfit_unprinted Prints args run e (inl unprepared) = inl unprepared
unfit_unprinted Prints args run e (inr h) = inr (record {
  readings = h.readings;
  single = h.single;
  plan = h.plan;
  apart = h.apart;
  path = h.path;
  ready = h.ready;
  planned = h.planned;
  revised = h.revised;
  at = h.at;
  ends = stopped_unprinted Prints (delivery_for h.readings run.current h.plan h.apart h.path) run.old run.new
      e h.ends;
})

-- the cause of an error before anything is printed is one whatever is printed
pub unprinted : (Prints : List ℕ → Type 0) (args : UpgradeArgs) (run : Run) (e : Error)
    → IsUpgradeCause prints_nothing args run e → IsUpgradeCause Prints args run e
unprinted Prints args run e (inl memory) = inl memory
unprinted Prints args run e (inr (inl failed)) = inr (inl failed)
unprinted Prints args run e (inr (inr (inl write))) = inr (inr (inl write))
unprinted Prints args run e (inr (inr (inr (inl unwritten)))) = inr (inr (inr (inl unwritten)))
unprinted Prints args run e (inr (inr (inr (inr (error, unfit))))) = inr (inr (inr (inr (
  error_unprinted Prints args run e error,
  λ t. unfit_unprinted Prints args run e (unfit t),
))))
