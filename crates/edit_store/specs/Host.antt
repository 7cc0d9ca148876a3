-- The model of the store of the machine's files (own).
use Rattle.std.specs.Prelude.{◌≡◌, ◌⊎◌, ℕ, List, [], None, false, map, string_bytes}
use Rattle.edit_base.specs.declared.errors.DeviceCall.{DeviceCall}
use Rattle.edit_base.specs.declared.errors.Error.{Error}
use Rattle.edit_base.specs.declared.errors.Error.TheVariants.{Device}
use Rattle.edit_base.specs.Errors.{IsMemory}
use Rattle.edit_store.specs.Store.{StoreView, IsRaisedCount}
use Rattle.edit_store.specs.declared.host_store.HostStore.{HostStore}

-- how often the device has failed (own)
abbrev pub host_faults : {R : Type 0} → HostStore R → ℕ
host_faults store = store.failed

-- how often a write could not be staged, flushed or verified (own)
abbrev pub host_stage_errors : {R : Type 0} → HostStore R → ℕ
host_stage_errors store = store.stage_errors

-- the paths written so far, one for each write in order (own)
abbrev pub host_writes : {R : Type 0} → HostStore R → List (List ℕ)
host_writes store = map string_bytes store.writes.items

-- the contents of the machine's files are not modelled, only which of them were written (own)
abbrev pub host_view : {R : Type 0} → HostStore R → StoreView
host_view store = record {
  tells = false;
  file_at = λ _. None;
  writes = host_writes store;
  steps = [];
  faults = host_faults store;
  stage_errors = host_stage_errors store;
}

-- the error of a call: lack of memory, which is not counted, or a fault of the device, which is (own)
abbrev pub IsHostError : DeviceCall → ℕ → ℕ → Error → Type 0
IsHostError call before now e = (IsMemory e × (now ≡ before)) ⊎ ((e ≡ Device call) × IsRaisedCount before now)
