-- Changes of the files of a store.
use Rattle.std.specs.Prelude.{◌≡◌, ◌≢◌, ◌⊎◌, ◌≤◌, ℕ, List, Some, Result, IfOk, IfErr, OnErr, true}
use Rattle.edit_base.specs.declared.errors.DeviceCall.{DeviceCall}
use Rattle.edit_base.specs.declared.errors.Error.{Error}
use Rattle.edit_base.specs.declared.errors.Error.TheVariants.{Device}
use Rattle.edit_base.specs.Errors.{IsMemory}
use Rattle.edit_store.specs.Store.{Files, StoreView, IsRaisedCount}

-- the path has the same bytes as before, or new bytes that are allowed there
abbrev pub IsAllowedAt : (List ℕ → List ℕ → Type 0) → Files → Files → List ℕ → Type 0
IsAllowedAt P old new path = (new path ≡ old path)
    ⊎ ((bytes : List ℕ) × (new path ≡ Some bytes) × P path bytes)

-- every path has the same bytes as before, or new bytes that are allowed there
abbrev pub AllowsChanges : (List ℕ → List ℕ → Type 0) → Files → Files → Type 0
AllowsChanges P old new = (path : List ℕ) → IsAllowedAt P old new path

-- every path except one, whose write failed, has the same bytes as before, or new bytes that are allowed
-- there
abbrev pub AllowsChangesBut : (List ℕ → List ℕ → Type 0) → Files → Files → Type 0
AllowsChangesBut P old new = (torn : List ℕ) × ((path : List ℕ) → path ≢ torn → IsAllowedAt P old new path)

-- a call fails for lack of memory, or with the device, which was counted
abbrev pub Fails : ℕ → ℕ → Error → Type 0
Fails before now e = IsMemory e ⊎ ((call : DeviceCall) × (e ≡ Device call) × IsRaisedCount before now)

-- the effect of a call on a store: its result determines which bytes are allowed in which files; on an error
-- one file may hold anything, and every other one is unchanged or has bytes that are allowed there
pub record Changes {T : Type 0} (P : T → List ℕ → List ℕ → Type 0) (Q : List ℕ → List ℕ → Type 0)
    (old new : StoreView) (result : Result T Error) : Type 0 where
  pub tells : new.tells ≡ old.tells
  pub later : old.faults ≤ new.faults
  pub done : IfOk result (λ v. old.tells ≡ true → AllowsChanges (P v) old.file_at new.file_at)
  pub torn : OnErr result (old.tells ≡ true → AllowsChangesBut Q old.file_at new.file_at)
  pub error : IfErr result (Fails old.faults new.faults)
