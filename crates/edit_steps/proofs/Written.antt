-- Files that are read before outputs are written to them.
use Rattle.std.proofs.Common.{◌∙◌, ◌++◌, List, [], ap, append-nil, arith, map, sym}
use Rattle.edit_steps.proofs.ApplyLemmas.{stopped_since}
use Rattle.edit_report.specs.Applied.{AreWritten, HasStopped, path_of}
use Rattle.edit_report.specs.declared.output.Output.{Output}
use Rattle.edit_store.specs.Store.{OnlyReads, StoreView}

-- what is written behind reads is written
pub written_after : (outputs : List Output) (old mid new : StoreView) → OnlyReads old mid
    → AreWritten outputs mid new → AreWritten outputs old new
written_after outputs old mid new reads written = record {
  whole = λ t. written.whole (reads.tells ∙ t);
  once = written.once ∙ ap (λ ws. ws ++ map path_of outputs) reads.writes;
  others = λ path none. written.others path none ∙ reads.files path;
}

-- nothing is written by reads
pub nothing_written : (old new : StoreView) → OnlyReads old new → AreWritten [] old new
nothing_written old new reads = record {
  whole = λ _ k d within. absurd (omega (arith, within));
  once = reads.writes ∙ sym (append-nil old.writes);
  others = λ path none. reads.files path;
}

-- writing that stops behind reads stops
pub stopped_after : (outputs : List Output) (old mid new : StoreView) → OnlyReads old mid
    → HasStopped outputs mid new → HasStopped outputs old new
stopped_after outputs old mid new reads =
    stopped_since outputs old mid new reads.tells reads.writes reads.files
