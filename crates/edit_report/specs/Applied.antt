-- The files after outputs are written to them.
use Rattle.std.specs.Prelude.{◌≡◌, ◌≢◌, ℕ, ◌+◌, ◌<◌, ◌≤◌, List, ◌++◌, Some, true, length, map, take, drop, string_bytes}
use Rattle.std.specs.List.{All, AllPairs}
use Rattle.edit_report.specs.declared.output.Output.{Output}
use Rattle.edit_store.specs.Store.{AreStepsTaken, Files, SameFiles, StepView, StoreView}
use Rattle.edit_store.specs.declared.store.StepKind.{StepKind}
use Rattle.edit_store.specs.declared.store.StepKind.TheVariants as step

-- the path of an output
abbrev pub path_of : Output → List ℕ
path_of o = string_bytes o.path

-- no two outputs have the same path (own)
abbrev pub HaveDistinctPaths : List Output → Type 0
HaveDistinctPaths outputs = AllPairs (λ a b. path_of a ≢ path_of b) outputs

-- the file of an output has exactly the output's bytes (own)
abbrev pub IsWhole : Files → Output → Type 0
IsWhole files o = files (path_of o) ≡ Some o.bytes.items

-- the file of an output is unchanged (own)
abbrev pub IsUntouched : Files → Files → Output → Type 0
IsUntouched old new o = new (path_of o) ≡ old (path_of o)

-- each file that is not the file of an output is unchanged (own)
abbrev pub KeepsOthers : List Output → Files → Files → Type 0
KeepsOthers outputs old new = (path : List ℕ) → All (λ o. path ≢ path_of o) outputs → new path ≡ old path

-- each output is written exactly once, in order, and no other file is written (own)
abbrev pub AreWrittenOnce : List Output → StoreView → StoreView → Type 0
AreWrittenOnce outputs old new = new.writes ≡ old.writes ++ map path_of outputs

-- outputs are written, each once: each file whole, where the store tells its files, and no other file
-- changed (own)
pub record AreWritten (outputs : List Output) (old new : StoreView) : Type 0 where
  pub whole : old.tells ≡ true → All (IsWhole new.file_at) outputs
  pub once : AreWrittenOnce outputs old new
  pub others : KeepsOthers outputs old.file_at new.file_at

-- writing stopped at an output: those before it are written, each once, and their files are whole; those
-- behind it are untouched; and no other file is written but perhaps its own, once (own)
pub record HasStopped (outputs : List Output) (old new : StoreView) : Type 0 where
  pub at : ℕ
  pub within : at < length outputs
  pub begun : ℕ
  pub begun_before : at ≤ begun
  pub begun_last : begun ≤ at + 1
  pub once : AreWrittenOnce (take begun outputs) old new
  pub whole : old.tells ≡ true → All (IsWhole new.file_at) (take at outputs)
  pub untouched : All (IsUntouched old.file_at new.file_at) (drop (at + 1) outputs)
  pub others : KeepsOthers (take (at + 1) outputs) old.file_at new.file_at

-- one step of this kind for each output, in order (own)
abbrev pub steps_at : StepKind → List Output → List StepView
steps_at kind outputs = map (λ o. record { kind = kind; path = path_of o }) outputs

-- the steps that make outputs ready: all are staged, and then all are flushed to the disk (own)
abbrev pub steps_to_prepare : List Output → List StepView
steps_to_prepare outputs = steps_at step.Stage outputs ++ steps_at step.Flush outputs

-- the steps that write outputs: all are made ready, then all are compared with what was read, and only then
-- the first one is written (own)
abbrev pub steps_to_write : List Output → List StepView
steps_to_write outputs =
    steps_to_prepare outputs ++ (steps_at step.Verify outputs ++ steps_at step.Write outputs)

-- outputs were taken through a step that prepares their writes: no file is changed, and no call has failed
-- (own)
pub record ArePrepared (kind : StepKind) (outputs : List Output) (old new : StoreView) : Type 0 where
  pub tells : new.tells ≡ old.tells
  pub files : SameFiles old.file_at new.file_at
  pub writes : new.writes ≡ old.writes
  pub later : old.faults ≤ new.faults
  pub ready : new.stage_errors ≡ old.stage_errors
  pub steps : AreStepsTaken (steps_at kind outputs) old new
