-- The causes of errors of a run before and after it answers.
use Rattle.std.proofs.Common.{◌≡◌, ◌∙◌, ℕ, List, Option, ap, inl, inr}
use Rattle.std.specs.Prelude.{◌⊎◌}
use Rattle.clap.specs.Words.{Row, Text}
use Rattle.edit_base.specs.Errors.{number_of}
use Rattle.edit_base.specs.declared.errors.DeviceCall.TheVariants as call
use Rattle.edit_base.specs.declared.errors.Error.{Error}
use Rattle.edit_base.specs.declared.errors.Error.TheVariants as error
use Rattle.edit_steps.specs.Faults.{CountsFault}
use Rattle.edit_store.specs.Store.{StoreView}
use Rattle.edit_program.proofs.CountLemmas.{call_counts, delivery_counts, error_counts}
use Rattle.edit_program.proofs.UpgradeCauseLemmas.{unprinted}
use Rattle.edit_program.proofs.UpgradeEffectLemmas.{effect_cause}
use Rattle.edit_program.specs.Commands.{IsCauseBy}
use Rattle.edit_program.specs.Effects.{IsEffectCause, IsReplyCause}
use Rattle.edit_program.specs.PlannedUpgrades.{prints_nothing}
use Rattle.edit_program.specs.Replies.{IsReplyBy, IsReplyTo}
use Rattle.edit_program.specs.Run.{Run, run_at}
use Rattle.edit_program.specs.Runs.{IsRunCause}
use Rattle.edit_program.specs.UpgradeEffects.{planned_delivery}
use Rattle.edit_program.specs.VersionEffects.{AreVersionEffects, IsUnplannedSetting}
use Rattle.edit_program.specs.declared.effects.Effects.{Effects}
use Rattle.edit_program.specs.declared.effects.Reply.{Reply}
use Rattle.edit_program.specs.declared.effects.Reply.TheVariants as reply

effects_count : (name : Text) (rows : List Row) (Prints : List ℕ → Type 0) (current : List ℕ)
    (home : Option (List ℕ)) (local old mid new : StoreView) (e : Effects) (is : Error)
    → IsReplyBy name rows (run_at current home local old mid) (reply.Effects e)
    → IsEffectCause Prints e mid new is → CountsFault mid new is
effects_count name rows Prints current home local old mid new e is (inl (named, h)) cause =
    let p = h.effects.planned in
    let d = planned_delivery p current h.effects.path in
    delivery_counts Prints d mid new is (effect_cause Prints d e mid new is h.effects.effects cause)
effects_count name rows Prints current home local old mid new e is (inr (named, h)) (inl failed) =
    call_counts call.Write mid new is failed
effects_count name rows Prints current home local old mid new e is (inr (named, h)) (inr (inl unwritten)) =
    error_counts is error.Output unwritten.0 (λ same. cc same)
effects_count name rows Prints current home local old mid new e is (inr (named, h)) (inr (inr end)) =
    by h.effects.ends
  where
    by : AreVersionEffects h.args current old e ⊎ IsUnplannedSetting h.args current old e
        → CountsFault mid new is
    by (inl whole) = absurd (cc (whole.texts.ends, end.fails))
    by (inr unplanned) =
        let same : unplanned.failure.error ≡ is = cc (unplanned.fails, end.fails, end.is) in
        λ device. absurd (unplanned.uncounted (ap number_of same ∙ device))

-- an error of a device is counted, if it arises while an answer is carried out
pub reply_counts : (args : List Text) (Prints : List ℕ → Type 0) (current : List ℕ) (home : Option (List ℕ))
    (local old mid new : StoreView) (r : Reply) (is : Error)
    → IsReplyTo args (run_at current home local old mid) r → IsReplyCause Prints r mid new is
    → CountsFault mid new is
reply_counts args Prints current home local old mid new (reply.Usage text) is to cause = absurd cause
reply_counts args Prints current home local old mid new (reply.Text text) is to cause =
    error_counts is error.Output cause.0 (λ same. cc same)
reply_counts args Prints current home local old mid new (reply.Effects e) is to cause =
    effects_count to.name to.rows Prints current home local old mid new e is to.holds cause

-- the cause of an error before anything is printed is one whatever is printed
pub run_unprinted : (args : List Text) (Prints : List ℕ → Type 0) (run : Run) (e : Error)
    → IsRunCause args prints_nothing run e → IsRunCause args Prints run e
run_unprinted args Prints run e (inl memory) = inl memory
run_unprinted args Prints run e (inr (inl at_once)) = inr (inl at_once)
run_unprinted args Prints run e (inr (inr to)) = inr (inr (record {
  name = to.name;
  rows = to.rows;
  entered = to.entered;
  holds = by to.holds;
}))
  where
    by : IsCauseBy to.name to.rows prints_nothing run e → IsCauseBy to.name to.rows Prints run e
    by (inl (is, h)) = inl (
      is,
      record { args = h.args; asks = h.asks; cause = unprinted Prints h.args run e h.cause },
    )
    by (inr other) = inr other
