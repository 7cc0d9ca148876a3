-- The model of the store in memory (own).
use Rattle.std.specs.Prelude.{◌≡◌, ℕ, ◌++◌, List, ◌∷◌, true, IsSome, map, option_map, string_bytes}
use Rattle.std.specs.BTreeMap.{get_by_text}
use Rattle.edit_store.specs.Store.{Files, StepView, StoreView}
use Rattle.edit_store.specs.declared.memory_store.MemoryStore.{MemoryStore}
use Rattle.edit_store.specs.declared.memory_store.Step.{Step}

-- the bytes at each path that has a file (own)
abbrev pub files_in : MemoryStore → Files
files_in store path = option_map (λ v. v.items) (get_by_text store.files path)

-- the paths written so far, one for each write in order (own)
abbrev pub writes_in : MemoryStore → List (List ℕ)
writes_in store = map string_bytes store.writes.items

-- a step as the model has it (own)
abbrev pub step_view : Step → StepView
step_view step = record {
  kind = step.kind;
  path = string_bytes step.path;
}

-- the steps of writes since what is staged was last discarded, in order (own)
abbrev pub steps_in : MemoryStore → List StepView
steps_in store = map step_view store.steps.items

-- how often a step could not be taken for lack of memory (own)
abbrev pub stage_errors_in : MemoryStore → ℕ
stage_errors_in store = store.stage_errors

-- the contents of the files are modelled, and no call fails but for lack of memory (own)
abbrev pub memory_view : MemoryStore → StoreView
memory_view store = record {
  tells = true;
  file_at = files_in store;
  writes = writes_in store;
  steps = steps_in store;
  faults = 0;
  stage_errors = stage_errors_in store;
}

-- the path followed by `/` is a proper prefix of the path of a file (own)
abbrev pub IsFolderOfStore : MemoryStore → List ℕ → Type 0
IsFolderOfStore store path = (rest : List ℕ) × IsSome (files_in store (path ++ 47 ∷ rest))

-- the name is the path followed by `/` and more (own)
abbrev pub IsBelow : List ℕ → List ℕ → Type 0
IsBelow name path = (rest : List ℕ) × (name ≡ path ++ 47 ∷ rest)
