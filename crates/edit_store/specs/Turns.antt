-- The model of the store in which one call fails (own).
use Rattle.std.specs.Prelude.{◌≡◌, ℕ, zero, suc, List, true, take, Option, Some, None, Result, IfErr, IsErrAnd, ◌⊎◌}
use Rattle.edit_base.specs.declared.errors.DeviceCall.{DeviceCall}
use Rattle.edit_base.specs.declared.errors.DeviceCall.TheVariants.{Kind, Read, Write}
use Rattle.edit_base.specs.declared.errors.Error.{Error}
use Rattle.edit_base.specs.declared.errors.Error.TheVariants.{Device}
use Rattle.edit_base.specs.Errors.{IsMemory}
use Rattle.edit_store.specs.Memory.{files_in, stage_errors_in, steps_in, writes_in}
use Rattle.edit_store.specs.Store.{StoreView, IsRaisedCount}
use Rattle.edit_store.specs.declared.fault_store.FaultStore.{FaultStore}

-- how many calls come before the failing one; none once it has failed (own)
abbrev pub calls_left : FaultStore → Option ℕ
calls_left store = store.left

-- how many bytes the failing write leaves in its file (own)
abbrev pub bytes_left : FaultStore → ℕ
bytes_left store = store.cut

-- how often a call has failed (own)
abbrev pub faults_of : FaultStore → ℕ
faults_of store = store.failed

-- the number of calls before the failing one, after one more call (own)
abbrev pub one_less : Option ℕ → Option ℕ
one_less None = None
one_less (Some zero) = None
one_less (Some (suc n)) = Some n

-- the contents of the files are modelled, and the single fault is counted (own)
abbrev pub fault_view : FaultStore → StoreView
fault_view store = record {
  tells = true;
  file_at = files_in store.inner;
  writes = writes_in store.inner;
  steps = steps_in store.inner;
  faults = faults_of store;
  stage_errors = stage_errors_in store.inner;
}

-- the failing write leaves a prefix of its bytes, unless memory runs out (own)
abbrev pub LeavesPrefix : FaultStore → FaultStore → List ℕ → List ℕ → Error → Type 0
LeavesPrefix old new path bytes e =
    IsMemory e ⊎ (files_in new.inner path ≡ Some (take (bytes_left old) bytes))

-- the error is a fault of the device in this call, and it is counted (own)
abbrev pub IsCounted : DeviceCall → FaultStore → FaultStore → Error → Type 0
IsCounted call old new e = (e ≡ Device call) × IsRaisedCount (faults_of old) (faults_of new)

-- the error of the failing call: a fault of the device, which is counted; a write may run out of memory
-- first, while it stores the prefix, which is not counted (own)
abbrev pub IsDueError : DeviceCall → FaultStore → FaultStore → Error → Type 0
IsDueError Kind old new e = IsCounted Kind old new e
IsDueError Read old new e = IsCounted Read old new e
IsDueError Write old new e = (IsMemory e × (faults_of new ≡ faults_of old)) ⊎ IsCounted Write old new e

-- a call: the failing one fails with the device, and any other only for lack of memory (own)
pub record TakesTurn {T : Type 0} (call : DeviceCall) (old new : FaultStore) (result : Result T Error)
    : Type 0 where
  pub turn : calls_left new ≡ one_less (calls_left old)
  pub cut : bytes_left new ≡ bytes_left old
  pub due : calls_left old ≡ Some 0 → IsErrAnd result (IsDueError call old new)
  pub other : (calls_left old ≡ Some 0 → ⊥) → IfErr result IsMemory × (faults_of new ≡ faults_of old)
