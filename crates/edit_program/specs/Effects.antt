-- What a run prints and writes, and what of it is carried out.
use Rattle.std.specs.Prelude.{◌≡◌, ◌≢◌, ◌⊎◌, ◌==◌, ◌&&◌, ◌++◌, ℕ, List, [], Option, None, Some, if◌then◌else◌, length, not, string_bytes, ⊤}
use Rattle.std.specs.List.{flat_map}
use Rattle.edit_base.specs.declared.errors.DeviceCall.TheVariants as call
use Rattle.edit_base.specs.declared.errors.Error.{Error}
use Rattle.edit_base.specs.declared.errors.Error.TheVariants.{Output as Unwritten}
use Rattle.edit_report.specs.Applied.{AreWritten, HasStopped, HaveDistinctPaths}
use Rattle.edit_report.specs.declared.output.Output.{Output}
use Rattle.edit_shown.specs.Diffs.{diffs}
use Rattle.edit_steps.specs.declared.run_error.RunError.{RunError}
use Rattle.edit_store.specs.Store.{IsCallError, SameFiles, StoreView}
use Rattle.edit_program.specs.Delivered.{AreBothWritten, IsBehind}
use Rattle.edit_program.specs.declared.effects.Diffs.{Diffs}
use Rattle.edit_program.specs.declared.effects.Effects.{Effects}
use Rattle.edit_program.specs.declared.effects.Message.{Message}
use Rattle.edit_program.specs.declared.effects.Message.TheVariants as message
use Rattle.edit_program.specs.declared.effects.Reply.{Reply}
use Rattle.edit_program.specs.declared.effects.Reply.TheVariants as reply

-- the part of a message that standard output gets
abbrev pub stdout_part : Message → List ℕ
stdout_part (message.Stdout text) = text.items
stdout_part (message.Stderr text) = []

-- the part that standard error gets
abbrev pub stderr_part : Message → List ℕ
stderr_part (message.Stdout text) = []
stderr_part (message.Stderr text) = text.items

-- what standard output gets of messages, one after another
abbrev pub stdout_texts : List Message → List ℕ
stdout_texts messages = flat_map stdout_part messages

-- what standard error gets
abbrev pub stderr_texts : List Message → List ℕ
stderr_texts messages = flat_map stderr_part messages

-- the diffs of the manifests that change, if they are requested
abbrev pub diffs_in : Option Diffs → List Output → List ℕ
diffs_in None outputs = []
diffs_in (Some d) outputs = diffs (string_bytes d.root) d.inputs.items outputs

-- the manifests that are written
abbrev pub written_outputs : Effects → List Output
written_outputs e = if e.writes then e.outputs.items else []

-- the exit status once all is done
abbrev pub exit_status : Effects → ℕ
exit_status e = if e.check && not (length e.outputs.items == 0) then 1 else 0

-- all that standard output gets
abbrev pub stdout_of : Effects → List ℕ
stdout_of e = stdout_texts e.messages.items ++ diffs_in e.diffs e.outputs.items

-- all that standard error gets, of a run that does not fail
abbrev pub stderr_of : Effects → List ℕ
stderr_of e = stderr_texts e.messages.items ++ (string_bytes e.calls ++ e.notes.items)

-- everything is printed and written, and the run does not fail
pub record AreCarriedOut (Prints Reports : List ℕ → Type 0) (e : Effects) (old new : StoreView)
    : Type 0 where
  pub ends : e.failure ≡ None
  pub shows : Prints (stdout_of e)
  pub says : Reports (stderr_of e)
  pub written : AreBothWritten (written_outputs e) e.calls_file.items old new

-- something is printed once the manifests are written, or the run fails
abbrev pub HasMore : Effects → Type 0
HasMore e = (string_bytes e.calls ≢ []) ⊎ ((e.notes.items ≢ []) ⊎ (e.failure ≢ None))

-- not everything is done: writing stopped at a manifest, after all of them, at the file of the calls, or
-- after it
abbrev pub HasStoppedIn : (List ℕ → Type 0) → Effects → StoreView → StoreView → Type 0
HasStoppedIn Reports e old new =
    (HasStopped (written_outputs e) old new × Reports (stderr_texts e.messages.items))
    ⊎ ((AreWritten (written_outputs e) old new × HasMore e)
    ⊎ (IsBehind HasStopped (written_outputs e) e.calls_file.items old new
    ⊎ (AreBothWritten (written_outputs e) e.calls_file.items old new × HasMore e)))

-- not everything is done: no file changed, or writing stopped after standard output got all
abbrev pub AreInterrupted : (List ℕ → Type 0) → (List ℕ → Type 0) → Effects → StoreView → StoreView → Type 0
AreInterrupted Prints Reports e old new =
    SameFiles old.file_at new.file_at ⊎ (Prints (stdout_of e) × HasStoppedIn Reports e old new)

-- the run fails, once all of the rest is done
pub record HasFailedAtEnd (Prints : List ℕ → Type 0) (e : Effects) (old new : StoreView) (error : Error)
    : Type 0 where
  pub failure : RunError
  pub fails : e.failure ≡ Some failure
  pub is : error ≡ failure.error
  pub shows : Prints (stdout_of e)
  pub written : AreBothWritten (written_outputs e) e.calls_file.items old new

-- the cause of an error: out of memory or a device error in a write; a failed print, which changes no file
-- unless something is printed after the writes; or the run fails at its end
abbrev pub IsEffectCause : (List ℕ → Type 0) → Effects → StoreView → StoreView → Error → Type 0
IsEffectCause Prints e old new error =
    IsCallError call.Write old new error
    ⊎ (((error ≡ Unwritten) × (SameFiles old.file_at new.file_at ⊎ HasMore e))
    ⊎ HasFailedAtEnd Prints e old new error)

-- the manifests that change have paths of their own, and so has the file of the calls
abbrev pub HaveOwnFiles : Reply → Type 0
HaveOwnFiles (reply.Effects e) = HaveDistinctPaths e.outputs.items × HaveDistinctPaths e.calls_file.items
HaveOwnFiles other = ⊤

-- the exit status of an answer
abbrev pub status_of_reply : Reply → ℕ
status_of_reply (reply.Usage text) = 2
status_of_reply (reply.Text text) = 0
status_of_reply (reply.Effects e) = exit_status e

-- an answer that only prints: the help, the version, lookups or a usage error
abbrev pub IsMessage : Reply → Type 0
IsMessage (reply.Effects e) = ⊥
IsMessage other = ⊤

-- an answer is carried out
abbrev pub IsReplied : (List ℕ → Type 0) → (List ℕ → Type 0) → Reply → StoreView → StoreView → Type 0
IsReplied Prints Reports (reply.Usage text) old new = SameFiles old.file_at new.file_at
IsReplied Prints Reports (reply.Text text) old new =
    Prints (string_bytes text) × SameFiles old.file_at new.file_at
IsReplied Prints Reports (reply.Effects e) old new = AreCarriedOut Prints Reports e old new

-- an answer is not carried out, or not whole: a usage error always is
abbrev pub IsUnreplied : (List ℕ → Type 0) → (List ℕ → Type 0) → Reply → StoreView → StoreView → Type 0
IsUnreplied Prints Reports (reply.Usage text) old new = ⊥
IsUnreplied Prints Reports (reply.Text text) old new = SameFiles old.file_at new.file_at
IsUnreplied Prints Reports (reply.Effects e) old new = AreInterrupted Prints Reports e old new

-- the cause of an error while an answer is carried out
abbrev pub IsReplyCause : (List ℕ → Type 0) → Reply → StoreView → StoreView → Error → Type 0
IsReplyCause Prints (reply.Usage text) old new error = ⊥
IsReplyCause Prints (reply.Text text) old new error =
    (error ≡ Unwritten) × SameFiles old.file_at new.file_at
IsReplyCause Prints (reply.Effects e) old new error = IsEffectCause Prints e old new error
