-- An upgrade, from its steps.
use Rattle.std.proofs.Common.{◌≡◌, ◌∙◌, ℕ, Bor, Bool, List, Option, Some, None, ap, inl, inr, option_map, subst, true}
use Rattle.std.specs.Prelude.{◌⊎◌, option_copied}
use Rattle.edit_base.specs.Errors.{IsMemory}
use Rattle.edit_base.specs.declared.errors.Error.{Error}
use Rattle.edit_lock.specs.LockFile.{Package}
use Rattle.edit_lock.specs.Views.{lock_view}
use Rattle.edit_lock.specs.declared.lock.Lock.{Lock}
use Rattle.edit_policy.specs.declared.policy.CratePolicy.{CratePolicy}
use Rattle.edit_restricted_index.specs.RestrictedIndex.{restricted_view}
use Rattle.edit_restricted_index.specs.Restrictions.{VersionTest, restriction_test}
use Rattle.edit_metadata.specs.Workspaces.{workspace_view}
use Rattle.edit_metadata.specs.declared.workspace.Workspace.{Workspace}
use Rattle.edit_report.specs.Applied.{AreWritten}
use Rattle.edit_report.specs.declared.output.Output.{Output}
use Rattle.edit_sources.specs.Configured.{given}
use Rattle.edit_store.specs.Store.{OnlyReads, SameFiles, StoreView}
use Rattle.edit_upgrade.specs.declared.upgrade.UpgradePlan.{UpgradePlan}
use Rattle.edit_steps.specs.Shared.{lists_for}
use Rattle.edit_program.proofs.StagingLemmas.{all_stopped_after, behind_after}
use Rattle.edit_program.specs.Delivered.{AreBothWritten, HaveStopped, IsDeliveryInterrupted, IsDelivered, IsWrittenAfterPrint, upgrade_outputs_to_write}
use Rattle.edit_program.specs.Delivery.{Delivery}
use Rattle.edit_program.specs.Followed.{IsReady}
use Rattle.edit_program.specs.Planned.{IsPlanCause, IsPlanned, index_view, restriction, upgrade_index, upgrade_test}
use Rattle.edit_program.specs.Run.{run_at}
use Rattle.edit_program.specs.StderrText.{upgrade_stderr_text}
use Rattle.edit_program.specs.Upgrading.{IsUpgradeResult, IsBroken, IsPathOf, IsPlannedFor, IsRevisedFor, IsUpgraded, delivery_for, has_outputs}
use Rattle.edit_program.specs.declared.upgrade_run.following.Readings.{Readings}
use Rattle.edit_program.specs.declared.upgrade_run.upgrade_args.UpgradeArgs.{UpgradeArgs}

-- a plan over the index that is restricted by a test, where that is the test of the upgrade
pub planned_for : (r : Readings) (local : StoreView) (plan : UpgradePlan) (test : Option VersionTest)
    → test ≡ upgrade_test r
    → IsPlanned r.args.options r.sources.target.inputs.items (lists_for r.sources.configs)
    (restricted_view test (index_view r.args.published_before r.index local)) plan
    → IsPlannedFor r local plan
planned_for r local plan test is planned =
    subst (λ (t : Option VersionTest). IsPlanned r.args.options r.sources.target.inputs.items
    (lists_for r.sources.configs)
    (restricted_view t (index_view r.args.published_before r.index local)) plan) is planned

-- and one that is refused
pub unplanned_for : (r : Readings) (local : StoreView) (e : Error) (test : Option VersionTest)
    → test ≡ upgrade_test r
    → IsMemory e ⊎ IsPlanCause r.args.options r.sources.target.inputs.items (lists_for r.sources.configs)
    (restricted_view test (index_view r.args.published_before r.index local)) e
    → IsMemory e ⊎ IsPlanCause r.args.options r.sources.target.inputs.items (lists_for r.sources.configs)
    (upgrade_index r local) e
unplanned_for r local e test is refused =
    subst (λ (t : Option VersionTest). IsMemory e ⊎ IsPlanCause r.args.options
    r.sources.target.inputs.items (lists_for r.sources.configs)
    (restricted_view t (index_view r.args.published_before r.index local)) e) is refused

-- what is said of a workspace that is borrowed
pub same_workspace : (r : Option (Bor Workspace)) (w : Option Workspace) → option_copied r ≡ w
    → option_map (λ x. workspace_view x.now) r ≡ option_map workspace_view w
same_workspace None w is = ap (option_map workspace_view) is
same_workspace (Some x) w is = ap (option_map workspace_view) is

-- the packages of a lock file that is borrowed
pub same_lock : (r : Option (Bor Lock)) (lock : Option Lock) → option_copied r ≡ lock
    → option_map (λ l. lock_view l.now) r ≡ option_map lock_view lock
same_lock None lock is = ap (option_map lock_view) is
same_lock (Some l) lock is = ap (option_map lock_view) is

-- the test of the index, where the lock file and what the policy says of crates are borrowed
pub upgrade_test_is : (r : Readings) (lent : Option (Bor Lock)) (crates : List CratePolicy)
    (test : Option VersionTest) → option_copied lent ≡ r.lock → crates ≡ r.policy.crates.items
    → test ≡ restriction_test (restriction r.args.to_lockfile (option_map (λ l. lock_view l.now) lent)) crates
    → test ≡ upgrade_test r
upgrade_test_is r lent crates test lock same is =
    is
    ∙ ap (λ (ps : Option (List Package)). restriction_test (restriction r.args.to_lockfile ps) crates)
    (same_lock lent r.lock lock)
    ∙ ap (λ (cs : List CratePolicy).
    restriction_test (restriction r.args.to_lockfile (option_map lock_view r.lock)) cs) same

-- a plan was delivered, and the answer is whether it changes a manifest
pub answered : (due : Bool) (HasFields HasDecodedValue : List ℕ → Type 0) (old new : StoreView)
    (task d : Delivery) → task ≡ d
    → due ≡ has_outputs d.plan → IsDelivered HasFields task old new
    → HasDecodedValue (upgrade_stderr_text task)
    → IsUpgradeResult due HasFields HasDecodedValue old new d
answered due HasFields HasDecodedValue old new task d same is delivered says = record {
  is = is;
  delivered = subst (λ x. IsDelivered HasFields x old new) same delivered;
  says = subst (λ x. HasDecodedValue (upgrade_stderr_text x)) same says;
}

-- ---- behind reads

-- what was printed and left behind reads
pub printed_after : (Leaves : List Output → List Output → StoreView → StoreView → Type 0)
    (HasFields : List ℕ → Type 0) (d : Delivery) (old mid new : StoreView)
    → ((first last : List Output) → Leaves first last mid new → Leaves first last old new)
    → IsWrittenAfterPrint Leaves HasFields d mid new → IsWrittenAfterPrint Leaves HasFields d old new
printed_after Leaves HasFields d old mid new after printed = record {
  shows = printed.shows;
  unlocked = printed.unlocked;
  calls = printed.calls;
  are = printed.are;
  leaves = after (upgrade_outputs_to_write d.options d.plan.outputs.items) printed.calls printed.leaves;
}

-- a plan that was delivered
pub upgraded : (due : Bool) (HasFields HasDecodedValue : List ℕ → Type 0) (args : UpgradeArgs)
    (current : List ℕ) (home : Option (List ℕ)) (local old mid new : StoreView) (r : Readings)
    (single plan : UpgradePlan) (apart : List (List ℕ)) (path : Option (List ℕ)) → OnlyReads old mid
    → (old.tells ≡ true → IsReady args current home old.file_at r) → IsPlannedFor r local single
    → IsRevisedFor r single plan apart
    → IsPathOf current (given args.update_calls) path
    → IsUpgradeResult due HasFields HasDecodedValue mid new (delivery_for r current plan apart path)
    → old.tells ≡ true → IsUpgraded due HasFields HasDecodedValue args (run_at current home local old new)
upgraded due HasFields HasDecodedValue args current home local old mid new r single plan apart path reads
    ready planned revised at answered t =
    let d = delivery_for r current plan apart path in
    record {
      readings = r;
      single = single;
      plan = plan;
      apart = apart;
      path = path;
      ready = ready t;
      planned = planned;
      revised = revised;
      at = at;
      ends = record {
        is = answered.is;
        delivered = record {
          printed = printed_after AreBothWritten HasFields d old mid new
              (λ first last. behind_after AreWritten first last old mid new reads) answered.delivered.printed;
          complete = answered.delivered.complete;
        };
        says = answered.says;
      };
    }

cut_after : (HasFields : List ℕ → Type 0) (d : Delivery) (old mid new : StoreView) → OnlyReads old mid
    → IsDeliveryInterrupted HasFields d mid new → IsDeliveryInterrupted HasFields d old new
cut_after HasFields d old mid new reads (inl stopped) =
    inl (printed_after HaveStopped HasFields d old mid new
    (λ first last. all_stopped_after first last old mid new reads) stopped)
cut_after HasFields d old mid new reads (inr whole) =
    inr (printed_after AreBothWritten HasFields d old mid new
    (λ first last. behind_after AreWritten first last old mid new reads) whole)

-- and one whose delivery was refused
pub broken : (HasFields : List ℕ → Type 0) (args : UpgradeArgs) (current : List ℕ)
    (home : Option (List ℕ)) (local old mid new : StoreView) (r : Readings) (single plan : UpgradePlan)
    (apart : List (List ℕ)) (path : Option (List ℕ)) → OnlyReads old mid
    → (old.tells ≡ true → IsReady args current home old.file_at r) → IsPlannedFor r local single
    → IsRevisedFor r single plan apart
    → IsPathOf current (given args.update_calls) path
    → SameFiles mid.file_at new.file_at
    ⊎ IsDeliveryInterrupted HasFields (delivery_for r current plan apart path) mid new
    → old.tells ≡ true
    → SameFiles old.file_at new.file_at ⊎ IsBroken HasFields args (run_at current home local old new)
broken HasFields args current home local old mid new r single plan apart path reads ready planned revised at
    (inl unchanged) t =
    inl (λ file. unchanged file ∙ reads.files file)
broken HasFields args current home local old mid new r single plan apart path reads ready planned revised at
    (inr cut) t =
    inr (record {
      readings = r;
      single = single;
      plan = plan;
      apart = apart;
      path = path;
      ready = ready t;
      planned = planned;
      revised = revised;
      at = at;
      ends = cut_after HasFields (delivery_for r current plan apart path) old mid new reads cut;
    })
