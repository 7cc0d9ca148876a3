-- Help, version and errors of `clap` as the answer of a run.
use Rattle.std.proofs.Common.{◌≡◌, List, Result, Ok, Err, inl, true}
use Rattle.std.specs.Prelude.{IfOk, IsErr}
use Rattle.clap.specs.Words.{App, HasKind, Text, fault_of, kind_of, takes}
use Rattle.clap.specs.declared.error.Error.{Error}
use Rattle.clap.specs.declared.error.kind.ErrorKind.TheVariants.{OutOfMemory}
use Rattle.edit_steps.specs.declared.run_error.RunError.{RunError}
use Rattle.edit_words.specs.CommandLine.{edit_app}
use Rattle.edit_program.specs.Effects.{IsMessage, status_of_reply}
use Rattle.edit_program.specs.Replies.{IsReplyTo}
use Rattle.edit_program.specs.Run.{Run}
use Rattle.edit_program.specs.Runs.{status_of}
use Rattle.edit_program.specs.declared.effects.Reply.{Reply}
use Rattle.edit_program.specs.declared.effects.Reply.TheVariants as reply
use Rattle.edit_program.proofs.CommandLemmas.{answered}

-- the message that `clap` has in place of matches is the answer to the arguments
pub shown_reply : (app : App) (args : List Text) (e : Error) (run : Run) (r : Result Reply RunError)
    → app ≡ edit_app → (takes app args ≡ true → kind_of e ≡ OutOfMemory)
    → HasKind (fault_of app args) e → (kind_of e ≡ OutOfMemory → IsErr r)
    → IfOk r IsMessage → IfOk r (λ p. status_of_reply p ≡ status_of (kind_of e))
    → IfOk r (IsReplyTo args run)
shown_reply app args e run (Ok (reply.Usage text)) is passes kinds memory message same =
    inl (answered app args e 2 is passes kinds (λ no_memory. cc (memory no_memory)) same)
shown_reply app args e run (Ok (reply.Text text)) is passes kinds memory message same =
    inl (answered app args e 0 is passes kinds (λ no_memory. cc (memory no_memory)) same)
shown_reply app args e run (Ok (reply.Effects effects)) is passes kinds memory message same = absurd message
shown_reply app args e run (Err x) is passes kinds memory message same = tt
