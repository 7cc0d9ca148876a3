-- The model of a store: files as a map from paths to bytes, the writes made, and a count of faults (own).
use Rattle.std.specs.Prelude.{◌≡◌, ◌≢◌, ℕ, ◌-◌, ◌^◌, ◌<◌, ◌≤◌, ◌⊎◌, ◌++◌, List, [], ◌∷◌, Option, Bool, true, IsSome, IsNone, Result, IfErr, codes}
use Rattle.edit_base.specs.declared.errors.DeviceCall.{DeviceCall}
use Rattle.edit_base.specs.declared.errors.Error.{Error}
use Rattle.edit_base.specs.declared.errors.Error.TheVariants.{Device}
use Rattle.edit_base.specs.Errors.{IsMemory}
use Rattle.edit_store.specs.declared.store.Kind.{Kind}
use Rattle.edit_store.specs.declared.store.StepKind.{StepKind}
use Rattle.edit_store.specs.declared.store.Kind.TheVariants.{File, Folder, Absent}

-- the contents of files: the bytes at each path that has a file (own)
abbrev pub Files : Type 0
Files = List ℕ → Option (List ℕ)

-- a step of the write of the file at a path (own)
pub record StepView : Type 0 where
  pub kind : StepKind
  pub path : List ℕ

-- the model of a store: whether the contents of its files are known, these contents, the paths written so
-- far, one for each write in order, the steps of writes since what is staged was last discarded, how often
-- its device has failed, and how often a write could not be staged (own)
pub record StoreView : Type 0 where
  pub tells : Bool
  pub file_at : Files
  pub writes : List (List ℕ)
  pub steps : List StepView
  pub faults : ℕ
  pub stage_errors : ℕ

-- a count of 64 bits rose, or is at its maximum and stays there (own)
abbrev pub IsRaisedCount : ℕ → ℕ → Type 0
IsRaisedCount before now = (before < now) ⊎ ((before ≡ 2 ^ 64 - 1) × (now ≡ 2 ^ 64 - 1))

-- a call fails for lack of memory, or with its device, which was counted (own)
abbrev pub IsCallError : DeviceCall → StoreView → StoreView → Error → Type 0
IsCallError call old new e = IsMemory e ⊎ ((e ≡ Device call) × IsRaisedCount old.faults new.faults)

-- the count of faults never falls, and a call fails only for lack of memory or with its device (own)
pub record HasCause {T : Type 0} (call : DeviceCall) (old new : StoreView) (result : Result T Error)
    : Type 0 where
  pub later : old.faults ≤ new.faults
  pub refused : IfErr result (IsCallError call old new)

-- every path has the same bytes in both (own)
abbrev pub SameFiles : Files → Files → Type 0
SameFiles old new = (path : List ℕ) → new path ≡ old path

-- the files are only read: no write is made, not even one of the same bytes (own)
pub record OnlyReads (old new : StoreView) : Type 0 where
  pub tells : new.tells ≡ old.tells
  pub files : SameFiles old.file_at new.file_at
  pub writes : new.writes ≡ old.writes
  pub later : old.faults ≤ new.faults

-- these steps were taken, in order, by a store whose contents are known (own)
abbrev pub AreStepsTaken : List StepView → StoreView → StoreView → Type 0
AreStepsTaken steps old new = old.tells ≡ true → new.steps ≡ old.steps ++ steps

-- one more step was taken, at this path (own)
abbrev pub IsStepTaken : StepKind → List ℕ → StoreView → StoreView → Type 0
IsStepTaken kind path old new = AreStepsTaken (record { kind = kind; path = path } ∷ []) old new

-- one more write was made, to this path (own)
abbrev pub IsWrittenOnce : List ℕ → StoreView → StoreView → Type 0
IsWrittenOnce path old new = new.writes ≡ old.writes ++ path ∷ []

-- at most one more write was made, and only to this path (own)
abbrev pub IsWrittenAtMostOnce : List ℕ → StoreView → StoreView → Type 0
IsWrittenAtMostOnce path old new = (new.writes ≡ old.writes) ⊎ IsWrittenOnce path old new

-- every path except this one has the same bytes in both (own)
abbrev pub SameBut : List ℕ → Files → Files → Type 0
SameBut at old new = (path : List ℕ) → path ≢ at → new path ≡ old path

-- a path that is a folder: `/`, and each prefix of a file's path that ends before a `/` (own)
abbrev pub IsFolderPrefix : Files → List ℕ → Type 0
IsFolderPrefix files path = (path ≡ codes "/") ⊎ ((rest : List ℕ) × IsSome (files (path ++ 47 ∷ rest)))

-- the kind of file at a path: a file, else a folder, else nothing (own)
abbrev pub HasKindAt : Files → List ℕ → Kind → Type 0
HasKindAt files path File = IsSome (files path)
HasKindAt files path Folder = IsNone (files path) × IsFolderPrefix files path
HasKindAt files path Absent = IsNone (files path) × (IsFolderPrefix files path → ⊥)
