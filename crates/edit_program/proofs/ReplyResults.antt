-- The result of a run, from what it answers and the result of carrying that out.
use Rattle.std.proofs.Common.{◌≡◌, ◌∙◌, ◌≢◌, ◌≤◌, ℕ, List, Option, Result, Ok, Err, arith, sym, true}
use Rattle.std.specs.Prelude.{IfErr, IfOk, OnErr, OnOk}
use Rattle.clap.specs.Words.{Text}
use Rattle.edit_steps.specs.Faults.{CountsFault}
use Rattle.edit_steps.specs.declared.run_error.RunError.{RunError}
use Rattle.edit_store.specs.Store.{OnlyReads, StoreView}
use Rattle.edit_program.proofs.CountLemmas.{fault_before}
use Rattle.edit_program.proofs.ReplyCounts.{reply_counts}
use Rattle.edit_program.proofs.ReplyLemmas.{reply_cause, reply_checks, reply_ended, reply_failed}
use Rattle.edit_program.proofs.SubcommandLemmas.{small_effects, small_reply}
use Rattle.edit_program.specs.Effects.{IsReplied, IsReplyCause, IsUnreplied, status_of_reply}
use Rattle.edit_program.specs.Replies.{IsReplyTo}
use Rattle.edit_program.specs.Run.{Run, run_at}
use Rattle.edit_program.specs.Runs.{HasCheckFlag, HasUsageError, IsEnded, IsRunCause, IsRunFailure}
use Rattle.edit_program.specs.declared.effects.Reply.{Reply}
use Rattle.edit_program.specs.declared.effects.Reply.TheVariants as reply

pub result_small : (r : Reply) (result : Result ℕ RunError) → IfOk result (λ s. s ≡ status_of_reply r)
    → IfOk result (λ s. s ≤ 2)
result_small r (Ok s) is = small_reply r s is
result_small r (Err x) is = tt

-- a usage error changes nothing
pub result_answered : {A : Type 0} (old mid new : A) (r : Reply) (result : Result ℕ RunError)
    → IfOk result (λ s. s ≡ status_of_reply r) → IfOk result (λ s. s ≡ 2 → new ≡ mid)
    → (status_of_reply r ≡ 2 → mid ≡ old) → IfOk result (λ s. s ≡ 2 → new ≡ old)
result_answered old mid new r (Ok s) is after before = λ two. after two ∙ before (sym is ∙ two)
result_answered old mid new r (Err x) is after before = tt

fault_by : (args : List Text) (run : Run) (r : Reply) (s : ℕ) → IsReplyTo args run r → s ≡ status_of_reply r
    → s ≡ 2 → HasUsageError args
fault_by args run (reply.Usage text) s to is two = to
fault_by args run (reply.Text text) s to is two =
    let none : s ≡ 0 = is in absurd (omega (arith, none, two))
fault_by args run (reply.Effects e) s to is two = absurd (omega (arith, one, two))
  where
    one : s ≤ 1
    one = small_effects e s is

pub result_fault : (args : List Text) (run : Run) (r : Reply) (result : Result ℕ RunError)
    → IsReplyTo args run r → IfOk result (λ s. s ≡ status_of_reply r)
    → IfOk result (λ s. s ≡ 2 → HasUsageError args)
result_fault args run r (Ok s) to is = fault_by args run r s to is
result_fault args run r (Err x) to is = tt

pub result_checks : (args : List Text) (run : Run) (r : Reply) (result : Result ℕ RunError)
    → IsReplyTo args run r → IfOk result (λ s. s ≡ status_of_reply r)
    → IfOk result (λ s. s ≡ 1 → HasCheckFlag args)
result_checks args run r (Ok s) to is = reply_checks args run r s to is
result_checks args run r (Err x) to is = tt

pub result_ended : (args : List Text) (Prints Reports : List ℕ → Type 0) (current : List ℕ)
    (home : Option (List ℕ)) (local old mid new : StoreView) (r : Reply) (result : Result ℕ RunError)
    → OnlyReads old mid → IsReplyTo args (run_at current home local old mid) r
    → IfOk result (λ s. s ≡ status_of_reply r) → OnOk result (IsReplied Prints Reports r mid new)
    → IfOk result (λ s. s ≢ 2 → old.tells ≡ true
    → IsEnded args s Prints Reports (run_at current home local old new))
result_ended args Prints Reports current home local old mid new r (Ok s) reads to is done =
    λ other t. reply_ended args Prints Reports current home local old mid new r s reads to done is other t
result_ended args Prints Reports current home local old mid new r (Err x) reads to is done = tt

pub result_failed : (args : List Text) (Prints Reports : List ℕ → Type 0) (current : List ℕ)
    (home : Option (List ℕ)) (local old mid new : StoreView) (r : Reply) (result : Result ℕ RunError)
    → OnlyReads old mid → IsReplyTo args (run_at current home local old mid) r
    → OnErr result (IsUnreplied Prints Reports r mid new)
    → OnErr result (old.tells ≡ true
    → IsRunFailure args Prints Reports (run_at current home local old new))
result_failed args Prints Reports current home local old mid new r (Ok s) reads to undone = tt
result_failed args Prints Reports current home local old mid new r (Err x) reads to undone =
    λ t. reply_failed args Prints Reports current home local old mid new r reads to undone t

pub result_cause : (args : List Text) (Prints Reports : List ℕ → Type 0) (current : List ℕ)
    (home : Option (List ℕ)) (local old mid new : StoreView) (r : Reply) (result : Result ℕ RunError)
    → OnlyReads old mid → IsReplyTo args (run_at current home local old mid) r
    → OnErr result (IsUnreplied Prints Reports r mid new)
    → IfErr result (λ x. IsReplyCause Prints r mid new x.error)
    → IfErr result (λ x. IsRunCause args Prints (run_at current home local old new) x.error)
result_cause args Prints Reports current home local old mid new r (Ok s) reads to undone cause = tt
result_cause args Prints Reports current home local old mid new r (Err x) reads to undone cause =
    reply_cause args Prints Reports current home local old mid new r x.error reads to undone cause

pub result_counts : (args : List Text) (Prints : List ℕ → Type 0) (current : List ℕ)
    (home : Option (List ℕ)) (local old mid new : StoreView) (r : Reply) (result : Result ℕ RunError)
    → OnlyReads old mid → IsReplyTo args (run_at current home local old mid) r
    → IfErr result (λ x. IsReplyCause Prints r mid new x.error)
    → IfErr result (λ x. CountsFault old new x.error)
result_counts args Prints current home local old mid new r (Ok s) reads to cause = tt
result_counts args Prints current home local old mid new r (Err x) reads to cause =
    fault_before old mid new x.error reads.later
    (reply_counts args Prints current home local old mid new r x.error to cause)
