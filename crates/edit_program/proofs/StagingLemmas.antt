-- Outputs that are written after steps that only read.
use Rattle.std.proofs.Common.{◌≡◌, ◌∙◌, List, inl, inr}
use Rattle.edit_report.specs.Applied.{AreWritten, HasStopped}
use Rattle.edit_report.specs.declared.output.Output.{Output}
use Rattle.edit_steps.proofs.Written.{stopped_after, written_after}
use Rattle.edit_store.specs.Store.{OnlyReads, SameFiles, StoreView}
use Rattle.edit_program.specs.Delivered.{HaveStopped, IsBehind}

-- outputs that are written stay so
pub written_still : (outputs : List Output) (old mid new : StoreView) → SameFiles mid.file_at new.file_at
    → new.writes ≡ mid.writes → AreWritten outputs old mid → AreWritten outputs old new
written_still outputs old mid new same writes are = record {
  whole = λ t k d within. same _ ∙ are.whole t k d within;
  once = writes ∙ are.once;
  others = λ path none. same path ∙ are.others path none;
}

-- the first outputs are written behind reads, and what became of the last
pub behind_after : (Leaves : List Output → StoreView → StoreView → Type 0) (first last : List Output)
    (old mid new : StoreView) → OnlyReads old mid → IsBehind Leaves first last mid new
    → IsBehind Leaves first last old new
behind_after Leaves first last old mid new reads left = record {
  mid = left.mid;
  tells = left.tells ∙ reads.tells;
  before = written_after first old mid left.mid reads left.before;
  behind = left.behind;
}

-- the writing of two lists stopped behind reads
pub all_stopped_after : (first last : List Output) (old mid new : StoreView) → OnlyReads old mid
    → HaveStopped first last mid new → HaveStopped first last old new
all_stopped_after first last old mid new reads (inl stopped) =
    inl (stopped_after first old mid new reads stopped)
all_stopped_after first last old mid new reads (inr (inl whole)) =
    inr (inl (written_after first old mid new reads whole))
all_stopped_after first last old mid new reads (inr (inr left)) =
    inr (inr (behind_after HasStopped first last old mid new reads left))
