-- What a subcommand did, from what it answers and how that is carried out.
use Rattle.std.proofs.Common.{◌≡◌, ◌∙◌, ◌≤◌, ℕ, Bool, List, Option, true, false, ap, arith, codes, inl, inr, refl, sym}
use Rattle.std.specs.Prelude.{◌⊎◌, ◌&&◌, ◌==◌, if◌then◌else◌, length, not}
use Rattle.clap.specs.Words.{Row, Text}
use Rattle.edit_base.specs.declared.errors.Error.{Error}
use Rattle.edit_report.specs.declared.output.Output.{Output}
use Rattle.edit_store.specs.Store.{OnlyReads, SameFiles, StoreView}
use Rattle.edit_program.proofs.CheckLemmas.{dry_after, dry_upgrade, dry_versions}
use Rattle.edit_program.proofs.UpgradeCauseLemmas.{stop_cause}
use Rattle.edit_program.proofs.UpgradeEffectLemmas.{carried, effect_cause, interrupted}
use Rattle.edit_program.proofs.UpgradeLemmas.{broken, upgraded}
use Rattle.edit_program.proofs.VersionEffectLemmas.{setting_cause, setting_interrupted, versions_set}
use Rattle.edit_program.specs.Commands.{IsBrokenBy, IsCauseBy, IsDoneBy}
use Rattle.edit_program.specs.Effects.{AreCarriedOut, AreInterrupted, IsEffectCause, exit_status, status_of_reply}
use Rattle.edit_program.specs.ParsedOptions.{is_given}
use Rattle.edit_program.specs.PlannedUpgrades.{apart_in, readings_of}
use Rattle.edit_program.specs.Presented.{status_after}
use Rattle.edit_program.specs.Replies.{IsReplyBy}
use Rattle.edit_program.specs.Run.{Run, run_at}
use Rattle.edit_program.specs.SetVersions.{has_some}
use Rattle.edit_program.specs.UpgradeEffects.{AreUpgradeEffects, planned_delivery}
use Rattle.edit_program.specs.Upgrading.{IsBroken, IsUpgraded, has_outputs}
use Rattle.edit_program.specs.declared.effects.Effects.{Effects}
use Rattle.edit_program.specs.declared.effects.Reply.{Reply}
use Rattle.edit_program.specs.declared.effects.Reply.TheVariants as reply
use Rattle.edit_program.specs.declared.upgrade_run.upgrade_args.UpgradeArgs.{UpgradeArgs}

-- ---- the exit status

ends_by : (check due : Bool) → (if check && due then 1 else 0) ≤ 1
ends_by true true = omega arith
ends_by true false = omega arith
ends_by false due = omega arith

pub small_exit : (e : Effects) → exit_status e ≤ 1
small_exit e = ends_by e.check (not (length e.outputs.items == 0))

pub small_effects : (e : Effects) (s : ℕ) → s ≡ exit_status e → s ≤ 1
small_effects e s is = let small : exit_status e ≤ 1 = small_exit e in omega (arith, small, is)

pub small_reply : (r : Reply) (s : ℕ) → s ≡ status_of_reply r → s ≤ 2
small_reply (reply.Usage text) s is = omega (arith, is)
small_reply (reply.Text text) s is = omega (arith, is)
small_reply (reply.Effects e) s is =
    let small : exit_status e ≤ 1 = small_exit e in
    let same : s ≡ exit_status e = is in
    omega (arith, small, same)

-- the exit status says whether changes are found where they are only checked
exit_is : (rows : List Row) (e : Effects) (outputs : List Output) → e.check ≡ is_given (codes "check") rows
    → e.outputs.items ≡ outputs → exit_status e ≡ status_after rows (not (length outputs == 0))
exit_is rows e outputs check same =
    ap (λ (b : Bool). if b && not (length e.outputs.items == 0) then 1 else 0) check
    ∙ ap (λ (os : List Output). if is_given (codes "check") rows && not (length os == 0) then 1 else 0) same

-- ---- an upgrade

upgraded_by : (Prints Reports : List ℕ → Type 0) (args : UpgradeArgs) (current : List ℕ)
    (home : Option (List ℕ)) (local old mid new : StoreView) (e : Effects) → OnlyReads old mid
    → (h : AreUpgradeEffects args current home local old e) → AreCarriedOut Prints Reports e mid new
    → old.tells ≡ true
    → IsUpgraded (has_outputs h.planned.revised.plan) Prints Reports args (run_at current home local old new)
upgraded_by Prints Reports args current home local old mid new e reads h done t =
    let p = h.planned in
    let r = readings_of p h.is.configs h.is.index in
    let d = planned_delivery p current h.path in
    let whole = carried Prints Reports d e mid new h.effects done in
    upgraded (has_outputs p.revised.plan) Prints Reports args current home local old mid new r h.is.single
    p.revised.plan (apart_in p) h.path reads h.is.ready h.is.planned h.is.revised h.at
    (record { is = refl; delivered = whole.0; says = whole.1 }) t

broken_by : (Prints Reports : List ℕ → Type 0) (args : UpgradeArgs) (current : List ℕ)
    (home : Option (List ℕ)) (local old mid new : StoreView) (e : Effects) → OnlyReads old mid
    → AreUpgradeEffects args current home local old e → AreInterrupted Prints Reports e mid new
    → old.tells ≡ true
    → SameFiles old.file_at new.file_at ⊎ IsBroken Prints args (run_at current home local old new)
broken_by Prints Reports args current home local old mid new e reads h at t =
    let p = h.planned in
    let r = readings_of p h.is.configs h.is.index in
    let d = planned_delivery p current h.path in
    broken Prints args current home local old mid new r h.is.single p.revised.plan (apart_in p) h.path reads
    h.is.ready h.is.planned h.is.revised h.at (interrupted Prints Reports d e mid new h.effects at) t

-- ---- effects of a subcommand

pub effects_done : (name : Text) (rows : List Row) (Prints Reports : List ℕ → Type 0) (current : List ℕ)
    (home : Option (List ℕ)) (local old mid new : StoreView) (e : Effects) → OnlyReads old mid
    → IsReplyBy name rows (run_at current home local old mid) (reply.Effects e)
    → AreCarriedOut Prints Reports e mid new → old.tells ≡ true
    → IsDoneBy name rows (exit_status e) Prints Reports (run_at current home local old new)
effects_done name rows Prints Reports current home local old mid new e reads (inl (is, h)) done t = inl (
  is,
  record {
    args = h.args;
    asks = h.asks;
    due = has_outputs h.effects.planned.revised.plan;
    upgraded = upgraded_by Prints Reports h.args current home local old mid new e reads h.effects done t;
    ends = exit_is rows e h.effects.planned.revised.plan.outputs.items h.check h.effects.effects.outputs;
  },
)
effects_done name rows Prints Reports current home local old mid new e reads (inr (is, h)) done t = inr (inr (
  is,
  record {
    args = h.args;
    asks = h.asks;
    due = has_some e.outputs.items;
    set = versions_set Prints Reports h.args current old mid new e reads h.effects done t;
    ends = exit_is rows e e.outputs.items h.check refl;
  },
))

-- with the status 1 no file changes
pub effects_dry : (name : Text) (rows : List Row) (s : ℕ) (Prints Reports : List ℕ → Type 0) (run : Run)
    → s ≡ 1 → IsDoneBy name rows s Prints Reports run → SameFiles run.old.file_at run.new.file_at
effects_dry name rows s Prints Reports run one (inl (is, h)) =
    dry_upgrade h.due Prints Reports h.args run
    (h.asks.options.dry_run ∙ dry_after rows h.due s h.ends one) h.upgraded
effects_dry name rows s Prints Reports run one (inr (inl (is, none, h))) =
    let bad : 1 ≡ 0 = sym one ∙ none in absurd (omega (arith, bad))
effects_dry name rows s Prints Reports run one (inr (inr (is, h))) =
    dry_versions Prints Reports h.args run.current h.due run.old run.new
    (h.asks.dry_run ∙ dry_after rows h.due s h.ends one) h.set

pub effects_broken : (name : Text) (rows : List Row) (Prints Reports : List ℕ → Type 0) (current : List ℕ)
    (home : Option (List ℕ)) (local old mid new : StoreView) (e : Effects) → OnlyReads old mid
    → IsReplyBy name rows (run_at current home local old mid) (reply.Effects e)
    → AreInterrupted Prints Reports e mid new → old.tells ≡ true
    → SameFiles old.file_at new.file_at
    ⊎ IsBrokenBy name rows Prints Reports (run_at current home local old new)
effects_broken name rows Prints Reports current home local old mid new e reads (inl (is, h)) at t =
    by (broken_by Prints Reports h.args current home local old mid new e reads h.effects at t)
  where
    by : SameFiles old.file_at new.file_at ⊎ IsBroken Prints h.args (run_at current home local old new)
        → SameFiles old.file_at new.file_at
        ⊎ IsBrokenBy name rows Prints Reports (run_at current home local old new)
    by (inl same) = inl same
    by (inr broke) = inr (inl (is, record { args = h.args; asks = h.asks; broken = broke }))
effects_broken name rows Prints Reports current home local old mid new e reads (inr (is, h)) at t =
    elim (setting_interrupted Prints Reports h.args current old mid new e reads h.effects at t) [
      | inl same ↦ inl same
      | inr stops ↦ inr (inr (is, record { args = h.args; asks = h.asks; stopped = stops }))
    ]

pub effects_cause : (name : Text) (rows : List Row) (Prints Reports : List ℕ → Type 0) (current : List ℕ)
    (home : Option (List ℕ)) (local old mid new : StoreView) (e : Effects) (error : Error)
    → OnlyReads old mid → IsReplyBy name rows (run_at current home local old mid) (reply.Effects e)
    → AreInterrupted Prints Reports e mid new → IsEffectCause Prints e mid new error
    → IsCauseBy name rows Prints (run_at current home local old new) error
effects_cause name rows Prints Reports current home local old mid new e error reads (inl (is, h)) at cause =
    let p = h.effects.planned in
    let r = readings_of p h.effects.is.configs h.effects.is.index in
    let d = planned_delivery p current h.effects.path in
    inl (
      is,
      record {
        args = h.args;
        asks = h.asks;
        cause = stop_cause Prints h.args current home local old mid new r h.effects.is.single p.revised.plan
            (apart_in p) h.effects.path error reads h.effects.is.by_policy h.effects.is.ready
            h.effects.is.planned h.effects.is.revised h.effects.at
            (effect_cause Prints d e mid new error h.effects.effects cause);
      },
    )
effects_cause name rows Prints Reports current home local old mid new e error reads (inr (is, h)) at cause =
    inr (inr (
      is,
      record {
        args = h.args;
        asks = h.asks;
        cause = setting_cause Prints Reports h.args current old mid new e error reads h.effects at cause;
      },
    ))
