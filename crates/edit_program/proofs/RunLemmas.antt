-- The result of a run is that of the subcommand that its arguments name.
use Rattle.std.proofs.Common.{◌≡◌, ℕ, List, Result, Ok, Err, arith, inl, inr}
use Rattle.std.specs.Prelude.{◌⊎◌, IfErr, IfOk}
use Rattle.clap.specs.Words.{Row, Text}
use Rattle.edit_base.specs.Errors.{IsMemory}
use Rattle.edit_steps.specs.declared.run_error.RunError.{RunError}
use Rattle.edit_program.specs.Commands.{IsCauseBy}
use Rattle.edit_program.specs.Replies.{IsReplyBy, IsReplyTo}
use Rattle.edit_program.specs.Run.{Run}
use Rattle.edit_program.specs.Runs.{HasFound, HasParsedArgs, IsDone, IsEnded, IsRunCause}
use Rattle.edit_program.specs.declared.effects.Reply.{Reply}
use Rattle.edit_program.specs.declared.effects.Reply.TheVariants as reply

-- the answer of the subcommand is that to the arguments
pub command_reply : (args : List Text) (name : Text) (rows : List Row) (run : Run) (r : Result Reply RunError)
    → HasParsedArgs args name rows → IfOk r (IsReplyBy name rows run) → IfOk r (IsReplyTo args run)
command_reply args name rows run (Err x) entered h = tt
command_reply args name rows run (Ok (reply.Usage text)) entered h =
    inr (inr (record { name = name; rows = rows; entered = entered; holds = h }))
command_reply args name rows run (Ok (reply.Text text)) entered h =
    inr (record { name = name; rows = rows; entered = entered; holds = h })
command_reply args name rows run (Ok (reply.Effects e)) entered h =
    record { name = name; rows = rows; entered = entered; holds = h }

-- and so is the cause of its error
pub command_why : (args : List Text) (name : Text) (rows : List Row) (Prints : List ℕ → Type 0)
    (run : Run) (r : Result Reply RunError)
    → HasParsedArgs args name rows
    → IfErr r (λ x. IsMemory x.error ⊎ IsCauseBy name rows Prints run x.error)
    → IfErr r (λ x. IsRunCause args Prints run x.error)
command_why args name rows Prints run (Ok s) entered why = tt
command_why args name rows Prints run (Err x) entered (inl memory) = inl memory
command_why args name rows Prints run (Err x) entered (inr cause) =
    inr (inr (record { name = name; rows = rows; entered = entered; holds = cause }))

-- a run that ends with 0 is done
pub ended_done : (args : List Text) (s : ℕ) (HasFields IsErrorOf : List ℕ → Type 0) (run : Run)
    → IsEnded args s HasFields IsErrorOf run → s ≡ 0
    → IsDone args HasFields IsErrorOf run
ended_done args s HasFields IsErrorOf run (inl done) at = done.1
ended_done args s HasFields IsErrorOf run (inr found) at =
    let one : s ≡ 1 = found.0 in absurd (omega (arith, one, at))

-- and one that ends with 1 found what is to be changed
pub ended_found : (args : List Text) (s : ℕ) (HasFields IsErrorOf : List ℕ → Type 0) (run : Run)
    → IsEnded args s HasFields IsErrorOf run → s ≡ 1
    → HasFound args HasFields IsErrorOf run
ended_found args s HasFields IsErrorOf run (inl done) one =
    let none : s ≡ 0 = done.0 in absurd (omega (arith, one, none))
ended_found args s HasFields IsErrorOf run (inr found) one = found.1
