-- Caches that know the age of their files (own).
use Rattle.std.specs.Prelude.{◌≡◌, ◌≤◌, ℕ, ◌-◌, List, [], ◌++◌, Bool, true, false, ◌&&◌, ◌⊎◌, Result, IfErr, IfOk, OnErr, OnOk, codes, filter, length, map, nat_eq, nat_lt, not, string_bytes, take, if◌then◌else◌}
use Rattle.std.specs.List.{ends_with, list_any}
use Rattle.std.specs.Str.{bytes_eq}
use Rattle.std.specs.declared.alloc.Global.{Global}
use Rattle.std.specs.Prelude.{Vec}
use Rattle.edit_base.specs.declared.errors.DeviceCall.{DeviceCall}
use Rattle.edit_base.specs.declared.errors.Error.{Error}
use Rattle.edit_base.specs.declared.errors.Error.TheVariants.{Device}
use Rattle.edit_base.specs.Errors.{IsMemory}
use Rattle.edit_store.specs.Store.{IsRaisedCount}
use Rattle.edit_answers.specs.Changes.{Fails}
use Rattle.edit_answers.specs.declared.aging_store.AgedFile.{AgedFile}
use Rattle.edit_answers.specs.declared.aging_store.MemoryCache.{MemoryCache}
use Rattle.edit_answers.specs.declared.cache_folder.CacheFolder.{CacheFolder}

-- a file of a cache, or the working folder of a run, and the number of whole days since it was last modified
pub record AgedText : Type 0 where
  pub path : List ℕ
  pub is_run : Bool
  pub days : ℕ

-- the model of a file of a cache
abbrev pub aged_text : AgedFile → AgedText
aged_text a = record { path = string_bytes a.path; is_run = a.is_run; days = a.days }

-- the model of a cache: whether its files are known, these files, and how often the device has failed
pub record AgingView : Type 0 where
  pub tells : Bool
  pub files : List AgedText
  pub faults : ℕ

-- two files are the same, by path and kind
abbrev pub is_same : AgedText → AgedText → Bool
is_same a b = bytes_eq a.path b.path && (if a.is_run then b.is_run else not b.is_run)

-- the files of the cache are listed, and nothing changes
pub record Lists (old new : AgingView) (result : Result (Vec AgedFile Global) Error) : Type 0 where
  pub tells : new.tells ≡ old.tells
  pub later : old.faults ≤ new.faults
  pub files : old.tells ≡ true → new.files ≡ old.files
  pub listed : IfOk result (λ v. old.tells ≡ true → map aged_text v.items ≡ old.files)
  pub error : IfErr result (Fails old.faults new.faults)

-- the file is removed, and no other one changes; on an error nothing changes
pub record Removes (a : AgedText) (old new : AgingView) (result : Result Unit Error) : Type 0 where
  pub tells : new.tells ≡ old.tells
  pub later : old.faults ≤ new.faults
  pub removed : OnOk result (old.tells ≡ true → new.files ≡ filter (λ b. not (is_same a b)) old.files)
  pub left : OnErr result (old.tells ≡ true → new.files ≡ old.files)
  pub error : IfErr result (Fails old.faults new.faults)

-- the path of an entry, given its own path or that of the `.etag` file beside it, which older versions of
-- this program wrote
abbrev pub entry_of : List ℕ → List ℕ
entry_of path =
    if ends_with nat_eq path (codes ".etag") then take (length path - 5) path else path

-- the path of what a file belongs to: its entry, or the working folder of a run
abbrev pub owner_of : AgedText → List ℕ
owner_of a = if a.is_run then a.path ++ codes "/" else entry_of a.path

-- the number of days after which an unmodified file is removed
abbrev pub retention_days : Bool → ℕ
retention_days is_run = if is_run then 1 else 90

-- a file was modified recently enough to stay
abbrev pub is_recent : AgedText → Bool
is_recent a = nat_lt a.days (retention_days a.is_run)

-- an owner has a file that was modified recently
abbrev pub is_used : List AgedText → List ℕ → Bool
is_used files owner = list_any (λ a. is_recent a && bytes_eq (owner_of a) owner) files

-- the files that stay: an entry and the `.etag` file beside it if one of them was modified within 90 days,
-- and the working folders of runs that were modified within a day
abbrev pub remaining_files : List AgedText → List AgedText → List AgedText
remaining_files all files = filter (λ a. is_used all (owner_of a)) files

-- the file is removed unless it is used; where the device fails, it may stay
pub record RemovesUnused (is_used : Bool) (a : AgedText) (old new : AgingView) (result : Result Unit Error)
    : Type 0 where
  pub tells : new.tells ≡ old.tells
  pub later : old.faults ≤ new.faults
  pub unchanged : is_used ≡ true → old.tells ≡ true → new.files ≡ old.files
  pub changed : old.tells ≡ true
      → (new.files ≡ old.files) ⊎ (new.files ≡ filter (λ b. not (is_same a b)) old.files)
  pub gone : is_used ≡ false → OnOk result (old.tells ≡ true → (IsRaisedCount old.faults new.faults → ⊥)
      → new.files ≡ filter (λ b. not (is_same a b)) old.files)
  pub error : IfErr result IsMemory

-- the errors of pruning: lack of memory, or the files cannot be listed, and then none is removed
abbrev pub FailsToPrune : AgingView → AgingView → Error → Type 0
FailsToPrune old new e =
    IsMemory e ⊎ ((call : DeviceCall) × (e ≡ Device call) × IsRaisedCount old.faults new.faults
    × (old.tells ≡ true → new.files ≡ old.files))

-- pruning a cache: even on an error, no file is removed that has to stay; if the device does not fail, no
-- other file is left
pub record Prunes (old new : AgingView) (result : Result Unit Error) : Type 0 where
  pub tells : new.tells ≡ old.tells
  pub later : old.faults ≤ new.faults
  pub stays : old.tells ≡ true → remaining_files old.files new.files ≡ remaining_files old.files old.files
  pub gone : OnOk result (old.tells ≡ true → (IsRaisedCount old.faults new.faults → ⊥)
      → new.files ≡ remaining_files old.files old.files)
  pub error : IfErr result (FailsToPrune old new)

-- the model of a cache in memory
abbrev pub memory_aging : MemoryCache → AgingView
memory_aging cache = record { tells = true; files = map aged_text cache.files.items; faults = 0 }

-- how often the device of a cache on this machine has failed
abbrev pub folder_faults : {R : Type 0} → CacheFolder R → ℕ
folder_faults cache = cache.failed

-- the model of a cache on this machine: its files are not modelled
abbrev pub folder_aging : {R : Type 0} → CacheFolder R → AgingView
folder_aging cache = record { tells = false; files = []; faults = folder_faults cache }
