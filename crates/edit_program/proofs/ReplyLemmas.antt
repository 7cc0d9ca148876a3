-- A run, from what it answers and how that is carried out.
use Rattle.std.proofs.Common.{◌≡◌, ◌∙◌, ◌≢◌, ◌≤◌, ℕ, zero, suc, Bool, List, Option, true, false, arith, codes, inl, inr, refl, subst, sym}
use Rattle.std.specs.Prelude.{◌⊎◌, ◌&&◌, ◌==◌, if◌then◌else◌, length, not}
use Rattle.clap.specs.Words.{Row, Text}
use Rattle.edit_base.specs.declared.errors.Error.{Error}
use Rattle.edit_store.specs.Store.{OnlyReads, SameFiles, StoreView}
use Rattle.edit_program.specs.Commands.{IsBrokenBy, IsDoneBy}
use Rattle.edit_program.specs.Effects.{IsReplied, IsReplyCause, IsUnreplied, exit_status, status_of_reply}
use Rattle.edit_program.specs.ParsedOptions.{is_given}
use Rattle.edit_program.specs.Replies.{IsReplyBy, IsReplyTo}
use Rattle.edit_program.specs.Run.{Run, run_at}
use Rattle.edit_program.specs.Runs.{HasCheckFlag, IsEnded, IsRunCause, IsRunFailure}
use Rattle.edit_program.specs.declared.effects.Effects.{Effects}
use Rattle.edit_program.specs.declared.effects.Reply.{Reply}
use Rattle.edit_program.specs.declared.effects.Reply.TheVariants as reply
use Rattle.edit_program.proofs.SubcommandLemmas.{effects_broken, effects_cause, effects_done, effects_dry, small_exit}

-- a run that ends with a status
pub reply_ended : (args : List Text) (Prints Reports : List ℕ → Type 0) (current : List ℕ)
    (home : Option (List ℕ)) (local old mid new : StoreView) (r : Reply) (s : ℕ) → OnlyReads old mid
    → IsReplyTo args (run_at current home local old mid) r → IsReplied Prints Reports r mid new
    → s ≡ status_of_reply r → s ≢ 2 → old.tells ≡ true
    → IsEnded args s Prints Reports (run_at current home local old new)
reply_ended args Prints Reports current home local old mid new (reply.Usage text) s reads to done is other t =
    absurd (other is)
reply_ended args Prints Reports current home local old mid new (reply.Text text) s reads (inl answered) done is
    other t =
    inl (is, inl (answered, λ path. done.1 path ∙ reads.files path))
reply_ended args Prints Reports current home local old mid new (reply.Text text) s reads (inr to) done is other
    t =
    let h = to.holds.1 in
    inl (
      is,
      inr (record {
        name = to.name;
        rows = to.rows;
        entered = to.entered;
        holds = inr (inl (
          to.holds.0,
          refl,
          record {
            args = h.args;
            asks = h.asks;
            printed = record {
              sources = (h.printed t).sources;
              text = (h.printed t).text;
              read = (h.printed t).read;
              lines = (h.printed t).lines;
              shows = subst Prints (sym (h.printed t).shows) done.0;
            };
            unchanged = λ path. done.1 path ∙ reads.files path;
          },
        ));
      }),
    )
reply_ended args Prints Reports current home local old mid new (reply.Effects e) s reads to done is other t =
    by s (small_exit e) is
  where
    run : Run
    run = run_at current home local old new

    ends : (n : ℕ) → n ≡ exit_status e → IsDoneBy to.name to.rows n Prints Reports run
    ends n same = subst (λ m. IsDoneBy to.name to.rows m Prints Reports run) (sym same)
        (effects_done to.name to.rows Prints Reports current home local old mid new e reads to.holds done t)

    by : (n : ℕ) → exit_status e ≤ 1 → n ≡ exit_status e → IsEnded args n Prints Reports run
    by zero small same = inl (
      refl,
      inr (record { name = to.name; rows = to.rows; entered = to.entered; holds = ends 0 same }),
    )
    by (suc zero) small same = inr (
      refl,
      record {
        unchanged = effects_dry to.name to.rows 1 Prints Reports run refl (ends 1 same);
        found = record { name = to.name; rows = to.rows; entered = to.entered; holds = ends 1 same };
      },
    )
    by (suc (suc n)) small same =
        let high : suc (suc n) ≡ exit_status e = same in absurd (omega (arith, small, high))

-- a run that ends with an error
pub reply_failed : (args : List Text) (Prints Reports : List ℕ → Type 0) (current : List ℕ)
    (home : Option (List ℕ)) (local old mid new : StoreView) (r : Reply) → OnlyReads old mid
    → IsReplyTo args (run_at current home local old mid) r → IsUnreplied Prints Reports r mid new
    → old.tells ≡ true → IsRunFailure args Prints Reports (run_at current home local old new)
reply_failed args Prints Reports current home local old mid new (reply.Usage text) reads to undone t =
    absurd undone
reply_failed args Prints Reports current home local old mid new (reply.Text text) reads to undone t =
    inl (λ path. undone path ∙ reads.files path)
reply_failed args Prints Reports current home local old mid new (reply.Effects e) reads to undone t =
    by (effects_broken to.name to.rows Prints Reports current home local old mid new e reads to.holds undone t)
  where
    run : Run
    run = run_at current home local old new

    by : SameFiles old.file_at new.file_at ⊎ IsBrokenBy to.name to.rows Prints Reports run
        → IsRunFailure args Prints Reports run
    by (inl same) = inl same
    by (inr broke) = inr (record { name = to.name; rows = to.rows; entered = to.entered; holds = broke })

-- and its cause
pub reply_cause : (args : List Text) (Prints Reports : List ℕ → Type 0) (current : List ℕ)
    (home : Option (List ℕ)) (local old mid new : StoreView) (r : Reply) (error : Error) → OnlyReads old mid
    → IsReplyTo args (run_at current home local old mid) r → IsUnreplied Prints Reports r mid new
    → IsReplyCause Prints r mid new error
    → IsRunCause args Prints (run_at current home local old new) error
reply_cause args Prints Reports current home local old mid new (reply.Usage text) error reads to undone cause =
    absurd cause
reply_cause args Prints Reports current home local old mid new (reply.Text text) error reads (inl answered)
    undone cause =
    inr (inl ((λ path. undone path ∙ reads.files path), inl (cause.0, answered)))
reply_cause args Prints Reports current home local old mid new (reply.Text text) error reads (inr to) undone
    cause =
    let h = to.holds.1 in
    inr (inr (record {
      name = to.name;
      rows = to.rows;
      entered = to.entered;
      holds = inr (inl (
        to.holds.0,
        record {
          args = h.args;
          asks = h.asks;
          cause = inr (inl cause.0);
          unchanged = λ path. undone path ∙ reads.files path;
        },
      ));
    }))
reply_cause args Prints Reports current home local old mid new (reply.Effects e) error reads to undone cause =
    inr (inr (record {
      name = to.name;
      rows = to.rows;
      entered = to.entered;
      holds = effects_cause to.name to.rows Prints Reports current home local old mid new e error reads to.holds
          undone cause;
    }))

-- a run that finds a change has `--check`
pub reply_checks : (args : List Text) (run : Run) (r : Reply) (s : ℕ) → IsReplyTo args run r
    → s ≡ status_of_reply r → s ≡ 1 → HasCheckFlag args
reply_checks args run (reply.Usage text) s to is one =
    let bad : 2 ≡ 1 = sym is ∙ one in absurd (omega (arith, bad))
reply_checks args run (reply.Text text) s to is one =
    let bad : 0 ≡ 1 = sym is ∙ one in absurd (omega (arith, bad))
reply_checks args run (reply.Effects e) s to is one = record {
  name = to.name;
  rows = to.rows;
  entered = to.entered;
  holds = flag to.rows to.holds;
}
  where
    by : (check due given : Bool) → check ≡ given → ◌≡◌ {A = ℕ} (if check && due then 1 else 0) 1
        → given ≡ true
    by true due given same found = sym same
    by false due given same found = absurd (omega (arith, found))

    flag : (rows : List Row) → IsReplyBy to.name rows run (reply.Effects e)
        → is_given (codes "check") rows ≡ true
    flag rows (inl (named, h)) =
        by e.check (not (length e.outputs.items == 0)) (is_given (codes "check") rows) h.check (sym is ∙ one)
    flag rows (inr (named, h)) =
        by e.check (not (length e.outputs.items == 0)) (is_given (codes "check") rows) h.check (sym is ∙ one)
