-- Reading a lock file, and the files that are read after it.
use Rattle.std.proofs.Common.{◌≡◌, ℕ, Bool, List, Option, Some, inl, inr, refl, subst, sym, true, ◌∙◌}
use Rattle.std.specs.Prelude.{◌⊎◌}
use Rattle.edit_base.specs.Errors.{IsMemory}
use Rattle.edit_base.specs.declared.errors.DeviceCall.TheVariants as call
use Rattle.edit_base.specs.declared.errors.Error.{Error}
use Rattle.edit_base.specs.declared.errors.Error.TheVariants.{Metadata}
use Rattle.edit_lock.specs.LockFile.{IsNoLock}
use Rattle.edit_steps.proofs.ReadLemmas.{before, refused_on}
use Rattle.edit_steps.specs.Absolute.{IsAbsoluteOf}
use Rattle.edit_steps.specs.RequestView.{RequestView}
use Rattle.edit_steps.specs.Causes.{IsReadCause, HasBadSources}
use Rattle.edit_store.specs.Store.{Files, OnlyReads, IsCallError, StoreView}
use Rattle.edit_program.specs.LockRead.{HasNoLock, IsLockError}

-- the bytes of a lock file are none
pub bad_lock : (required : Bool) (old new : StoreView) (current named path bytes : List ℕ) (e refused : Error)
    → IsAbsoluteOf current named path → (old.tells ≡ true → old.file_at path ≡ Some bytes)
    → IsMemory e ⊎ ((e ≡ Metadata) × IsNoLock bytes) → refused ≡ e
    → IsCallError call.Read old new refused
    ⊎ (old.tells ≡ true → HasNoLock required old.file_at current (Some named) refused)
bad_lock required old new current named path bytes e refused at stands (inl memory) same =
    inl (inl (subst IsMemory (sym same) memory))
bad_lock required old new current named path bytes e refused at stands (inr bad) same = inr (λ t. record {
  named = named;
  is = refl;
  path = path;
  at = at;
  cause = subst (λ (o : Option (List ℕ)). IsLockError required o refused) (sym (stands t)) (same ∙ bad.0, bad.1);
})

-- a lock file that is named is not read
pub lock_refused : (required : Bool) (old new : StoreView) (current : List ℕ) (home lock : Option (List ℕ))
    (a : RequestView) (e : Error)
    → IsCallError call.Read old new e ⊎ (old.tells ≡ true → HasNoLock required old.file_at current lock e)
    → IsReadCause current home a old new e ⊎ (old.tells ≡ true → HasNoLock required old.file_at current lock e)
lock_refused required old new current home lock a e (inl refused) = inl (inl (inr refused))
lock_refused required old new current home lock a e (inr none) = inr none

-- what is read behind reads is not
pub cause_after : (old mid new : StoreView) (current : List ℕ) (home : Option (List ℕ)) (a : RequestView) (e : Error)
    → OnlyReads old mid → IsReadCause current home a mid new e → IsReadCause current home a old new e
cause_after old mid new current home a e reads (inl (inl kind)) =
    inl (inl (refused_on call.Kind old mid new e reads kind))
cause_after old mid new current home a e reads (inl (inr refused)) =
    inl (inr (refused_on call.Read old mid new e reads refused))
cause_after old mid new current home a e reads (inr wrong) =
    inr (before (λ (files : Files). HasBadSources files current home a e) old mid reads wrong)
