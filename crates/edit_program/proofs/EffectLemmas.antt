-- What of the effects of a run is carried out, from its steps.
use Rattle.std.proofs.Common.{◌≡◌, ◌≢◌, ◌⊎◌, ◌∙◌, ℕ, List, [], Option, Some, inl, inr, refl, string_bytes}
use Rattle.std.specs.Io.KnownBytes.{Appends}
use Rattle.std.proofs.KnownBytes.{Appends-trans}
use Rattle.edit_base.specs.declared.errors.DeviceCall.TheVariants as call
use Rattle.edit_base.specs.declared.errors.Error.{Error}
use Rattle.edit_base.specs.declared.errors.Error.TheVariants.{Output as Unwritten}
use Rattle.edit_report.specs.Applied.{AreWritten, HasStopped}
use Rattle.edit_report.specs.declared.output.Output.{Output}
use Rattle.edit_steps.specs.declared.run_error.RunError.{RunError}
use Rattle.edit_steps.proofs.Written.{written_after}
use Rattle.edit_store.specs.Store.{IsCallError, OnlyReads, SameFiles, StoreView}
use Rattle.edit_program.specs.Delivered.{AreBothWritten, IsBehind}
use Rattle.edit_program.specs.Effects.{AreInterrupted, HasMore, IsEffectCause, diffs_in, stderr_of, stderr_texts, stdout_of, stdout_texts, written_outputs}
use Rattle.edit_program.specs.declared.effects.Effects.{Effects}
use Rattle.edit_program.specs.declared.effects.Message.{Message}

-- all that standard output has
pub shown_all : (e : Effects) (messages : List Message) (outputs : List Output) (a b c : Option (List ℕ))
    → messages ≡ e.messages.items → outputs ≡ e.outputs.items → Appends a b (stdout_texts messages)
    → Appends b c (diffs_in e.diffs outputs) → Appends a c (stdout_of e)
shown_all e messages outputs a b c is are first second =
    Appends-trans a b c _ _ (rw is at first) (rw are at second)

-- all that standard error has
pub reported_all : (e : Effects) (messages : List Message) (calls notes : List ℕ) (a b c d : Option (List ℕ))
    → messages ≡ e.messages.items → calls ≡ string_bytes e.calls → notes ≡ e.notes.items
    → Appends a b (stderr_texts messages) → Appends b c calls → Appends c d notes → Appends a d (stderr_of e)
reported_all e messages calls notes a b c d is calls_are notes_are first second third =
    Appends-trans a b d _ _ (rw is at first)
    (Appends-trans b c d _ _ (rw calls_are at second) (rw notes_are at third))

-- writing stopped at one of the last outputs: these were staged, and then the first were written
pub stopped_last : (first last : List Output) (old staged mid new : StoreView) → OnlyReads old staged
    → mid.tells ≡ staged.tells → AreWritten first staged mid → HasStopped last mid new
    → IsBehind HasStopped first last old new
stopped_last first last old staged mid new reads tells before stopped = record {
  mid = mid;
  tells = tells ∙ reads.tells;
  before = written_after first old staged mid reads before;
  behind = stopped;
}

-- all files are written
pub written_all : (e : Effects) (outputs file : List Output) (old new : StoreView)
    → outputs ≡ written_outputs e → file ≡ e.calls_file.items → AreBothWritten outputs file old new
    → AreBothWritten (written_outputs e) e.calls_file.items old new
written_all e outputs file old new is file_is written = rw (is, file_is) at written

-- writing stopped, once standard output has all; nothing is printed before all manifests are written
pub interrupted_in : (Prints Reports : List ℕ → Type 0) (e : Effects) (outputs file : List Output)
    (calls : List ℕ) (Same : Type 0) (old new : StoreView) → outputs ≡ written_outputs e
    → file ≡ e.calls_file.items → calls ≡ string_bytes e.calls → Prints (stdout_of e)
    → (Same → Reports (stderr_texts e.messages.items))
    → SameFiles old.file_at new.file_at
    ⊎ ((HasStopped outputs old new × Same)
    ⊎ ((AreWritten outputs old new × (calls ≢ []))
    ⊎ IsBehind HasStopped outputs file old new))
    → AreInterrupted Prints Reports e old new
interrupted_in Prints Reports e outputs file calls Same old new is file_is calls_are shows says (inl same) =
    inl same
interrupted_in Prints Reports e outputs file calls Same old new is file_is calls_are shows says
    (inr (inl h)) =
    inr (shows, inl (rw is at h.0, says h.1))
interrupted_in Prints Reports e outputs file calls Same old new is file_is calls_are shows says
    (inr (inr (inl h))) =
    inr (shows, inr (inl (rw is at h.0, inl (rw calls_are at h.1))))
interrupted_in Prints Reports e outputs file calls Same old new is file_is calls_are shows says
    (inr (inr (inr h))) =
    inr (shows, inr (inr (inl (rw (is, file_is) at h))))

-- the cause of an error of the writes, or of the print that follows the manifests
pub written_cause : (Prints : List ℕ → Type 0) (e : Effects) (calls : List ℕ) (old new : StoreView)
    (error : Error) → calls ≡ string_bytes e.calls
    → IsCallError call.Write old new error ⊎ ((error ≡ Unwritten) × (calls ≢ []))
    → IsEffectCause Prints e old new error
written_cause Prints e calls old new error is (inl refused) = inl refused
written_cause Prints e calls old new error is (inr unwritten) =
    inr (inl (unwritten.0, inr (inl (rw is at unwritten.1))))

-- something was left to do, if the run ends with an error
pub more_at_end : (e : Effects) (notes : List ℕ) (r : RunError) → notes ≡ e.notes.items
    → (e.failure ≡ Some r) ⊎ ((r.error ≡ Unwritten) × (notes ≢ [])) → HasMore e
more_at_end e notes r is (inl fails) = inr (inr (λ none. cc))
more_at_end e notes r is (inr unwritten) = inr (inl (rw is at unwritten.1))

-- the run is interrupted at its end
pub interrupted_at_end : (Prints Reports : List ℕ → Type 0) (e : Effects) (notes : List ℕ)
    (old new : StoreView) (r : RunError) → notes ≡ e.notes.items → Prints (stdout_of e)
    → AreBothWritten (written_outputs e) e.calls_file.items old new
    → (e.failure ≡ Some r) ⊎ ((r.error ≡ Unwritten) × (notes ≢ []))
    → AreInterrupted Prints Reports e old new
interrupted_at_end Prints Reports e notes old new r is shows written ends =
    inr (shows, inr (inr (inr (written, more_at_end e notes r is ends))))

-- the cause of an error at the end
pub failure_cause : (Prints : List ℕ → Type 0) (e : Effects) (notes : List ℕ) (old new : StoreView)
    (r : RunError) → notes ≡ e.notes.items → Prints (stdout_of e)
    → AreBothWritten (written_outputs e) e.calls_file.items old new
    → (e.failure ≡ Some r) ⊎ ((r.error ≡ Unwritten) × (notes ≢ []))
    → IsEffectCause Prints e old new r.error
failure_cause Prints e notes old new r is shows written (inl fails) = inr (inr record {
  failure = r;
  fails = fails;
  is = refl;
  shows = shows;
  written = written;
})
failure_cause Prints e notes old new r is shows written (inr unwritten) =
    inr (inl (unwritten.0, inr (inr (inl (rw is at unwritten.1)))))
