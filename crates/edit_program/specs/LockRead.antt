-- The given lock file, and the errors of reading it.
use Rattle.std.specs.Prelude.{◌≡◌, ℕ, List, [], Bool, Option, Some, None, false, true, ⊤}
use Rattle.edit_base.specs.declared.errors.Error.{Error}
use Rattle.edit_base.specs.declared.errors.Error.TheVariants.{Metadata, NoPath}
use Rattle.edit_lock.specs.LockFile.{IsNoLock, LocksPackages, Package}
use Rattle.edit_steps.specs.Absolute.{IsAbsoluteOf}
use Rattle.edit_store.specs.Store.{Files}

-- the packages of a lock file, from its bytes; none where there is no such file and none is required
abbrev pub AreLocked : Bool → Option (List ℕ) → List Package → Type 0
AreLocked required None packages = (required ≡ false) × (packages ≡ [])
AreLocked required (Some bytes) packages = LocksPackages bytes packages

-- the lock file at the given path was read
pub record IsLockAt (required : Bool) (files : Files) (current named : List ℕ) (packages : List Package)
    : Type 0 where
  pub path : List ℕ
  pub at : IsAbsoluteOf current named path
  pub are : AreLocked required (files path) packages

-- the lock file was read, where one is given
abbrev pub IsLockRead : Bool → Files → List ℕ → Option (List ℕ) → Option (List Package) → Type 0
IsLockRead required files current None None = ⊤
IsLockRead required files current (Some named) (Some packages) =
    IsLockAt required files current named packages
IsLockRead required files current _ _ = ⊥

-- the error of a lock file, by its bytes: there is no such file and one is required, or the bytes cannot be
-- parsed
abbrev pub IsLockError : Bool → Option (List ℕ) → Error → Type 0
IsLockError required None e = (required ≡ true) × (e ≡ NoPath)
IsLockError required (Some bytes) e = (e ≡ Metadata) × IsNoLock bytes

-- a lock file is given that cannot be used
pub record HasNoLock (required : Bool) (files : Files) (current : List ℕ) (lock : Option (List ℕ)) (e : Error)
    : Type 0 where
  pub named : List ℕ
  pub is : lock ≡ Some named
  pub path : List ℕ
  pub at : IsAbsoluteOf current named path
  pub cause : IsLockError required (files path) e
