-- The errors that an upgrade may return over any store, from its steps.
use Rattle.std.proofs.Common.{◌≡◌, ◌∙◌, ℕ, Bool, List, None, Option, Some, false, inl, inr, refl, subst, sym, true}
use Rattle.std.specs.Prelude.{◌⊎◌}
use Rattle.edit_base.specs.Errors.{IsMemory}
use Rattle.edit_base.specs.declared.errors.DeviceCall.TheVariants as call
use Rattle.edit_base.specs.declared.errors.Error.{Error}
use Rattle.edit_base.specs.declared.errors.Error.TheVariants.{Metadata, Policy as BadPolicy}
use Rattle.edit_lock.specs.LockFile.{IsNoLock}
use Rattle.edit_metadata.specs.declared.input.Input.{Input}
use Rattle.edit_policy.specs.Errors.{error_of}
use Rattle.edit_policy.specs.Manifests.{IsManifestFault}
use Rattle.edit_policy.specs.declared.error.PolicyError.{PolicyError}
use Rattle.edit_policy.specs.declared.error.PolicyError.TheVariants.{Failed, Unexpected}
use Rattle.edit_policy.specs.declared.policy.Policy.{Policy}
use Rattle.edit_sources.specs.Configured.{given}
use Rattle.edit_sources.specs.declared.published.PublishedBefore.{PublishedBefore}
use Rattle.edit_steps.proofs.ReadLemmas.{refused_on}
use Rattle.edit_steps.specs.Causes.{IsFailure}
use Rattle.edit_steps.specs.Errors.{IsIndexError, IsSourceError}
use Rattle.edit_steps.specs.declared.upgrade_read.target.Target.{Target}
use Rattle.edit_store.specs.Store.{IsCallError, OnlyReads, StoreView}
use Rattle.edit_program.specs.Followed.{HasFaultIn, HasPolicyFault, IsFollowed, IsUnfollowed}
use Rattle.edit_program.specs.Merging.{LacksTime}
use Rattle.edit_program.specs.Planned.{to_request}
use Rattle.edit_program.specs.UpgradeErrors.{IsFileError, IsLockFileError, IsPolicyError, IsReadingError}
use Rattle.edit_program.specs.declared.upgrade_run.upgrade_args.UpgradeArgs.{UpgradeArgs}

-- ---- the lock file and the files that are read after it

-- the bytes of a lock file are none
pub malformed_lock : (required : Bool) (old new : StoreView) (named bytes : List ℕ) (e shown : Error)
    → IsMemory e ⊎ ((e ≡ Metadata) × IsNoLock bytes) → shown ≡ e
    → IsCallError call.Read old new shown ⊎ IsLockFileError required (Some named) shown
malformed_lock required old new named bytes e shown (inl memory) same =
    inl (inl (subst IsMemory (sym same) memory))
malformed_lock required old new named bytes e shown (inr bad) same = inr (inr (same ∙ bad.0))

-- a device error behind reads
failed_on : (old mid new : StoreView) (e : Error) → OnlyReads old mid → IsFailure mid new e
    → IsFailure old new e
failed_on old mid new e reads (inl kind) = inl (refused_on call.Kind old mid new e reads kind)
failed_on old mid new e reads (inr refused) = inr (refused_on call.Read old mid new e reads refused)

-- the lock file is not read
pub lock_error : (args : UpgradeArgs) (current : List ℕ) (old new : StoreView) (e : Error)
    → IsCallError call.Read old new e ⊎ IsLockFileError args.to_lockfile (given args.lock_file) e
    → IsFailure old new e ⊎ IsFileError args current e
lock_error args current old new e (inl refused) = inl (inr refused)
lock_error args current old new e (inr wrong) = inr (inl wrong)

-- the files after it are not read
pub source_error : (args : UpgradeArgs) (current : List ℕ) (old mid new : StoreView) (e : Error)
    → OnlyReads old mid → IsFailure mid new e ⊎ IsSourceError current (to_request args) e
    → IsFailure old new e ⊎ IsFileError args current e
source_error args current old mid new e reads (inl failed) = inl (failed_on old mid new e reads failed)
source_error args current old mid new e reads (inr wrong) = inr (inr wrong)

-- ---- the policy

-- where no age is set, none lacks a time
no_age : (bound : Option PublishedBefore) (time : Option (List ℕ)) (age : Option ℕ) → age ≡ None
    → LacksTime bound time age → ⊥
no_age (Some first) time age none lacks = lacks
no_age None time None none lacks = lacks
no_age None time (Some days) none lacks = cc none

-- the error of a manifest whose policy is invalid
manifest_error : (bytes : List ℕ) (own : PolicyError) (e : Error) → IsManifestFault bytes own
    → e ≡ error_of own → IsMemory e ⊎ IsPolicyError false e
manifest_error bytes (Unexpected place expected) e fault is = inr (refl, is)
manifest_error bytes (Failed cause) e fault is = inl (subst IsMemory (sym is) fault)

-- the same where there is a manifest
root_error : (root : Option Input) (e : Error) → HasFaultIn root e → IsMemory e ⊎ IsPolicyError false e
root_error None e fault = absurd fault
root_error (Some root) e (own, is, same) = manifest_error root.bytes.items own e is same

-- the error of a policy that is invalid
fault_error : (ignored : Bool) (target : Target) (e : Error) → HasPolicyFault ignored target e
    → IsMemory e ⊎ IsPolicyError ignored e
fault_error true target e fault = absurd fault
fault_error false target e (root, is, fault) = root_error root e fault

-- the error of one whose age has no time from which it counts back
age_error : (ignored : Bool) (target : Target) (policy : Policy) (bound : Option PublishedBefore)
    (time : Option (List ℕ)) (e : Error) → IsFollowed ignored target policy
    → LacksTime bound time policy.min_age → e ≡ BadPolicy → IsPolicyError ignored e
age_error true target policy bound time e empty lacks is =
    absurd (no_age bound time policy.min_age empty.min_age lacks)
age_error false target policy bound time e followed lacks is = (refl, is)

-- the error of a policy that cannot be followed
unfollowed_error : (args : UpgradeArgs) (target : Target) (e : Error) → IsUnfollowed args target e
    → IsMemory e ⊎ IsPolicyError args.no_policy e
unfollowed_error args target e (inl fault) = fault_error args.no_policy target e fault
unfollowed_error args target e (inr untimed) =
    inr (age_error args.no_policy target untimed.policy args.published_before (given args.time) e untimed.is
    untimed.lacks untimed.cause)

-- ---- all that is read

-- an error of the files is one of all that is read
pub file_error : (args : UpgradeArgs) (current : List ℕ) (old new : StoreView) (e : Error)
    → IsFailure old new e ⊎ IsFileError args current e → IsFailure old new e ⊎ IsReadingError args current e
file_error args current old new e (inl failed) = inl failed
file_error args current old new e (inr wrong) = inr (inl wrong)

-- and so is one of the policy
pub policy_error : (args : UpgradeArgs) (current : List ℕ) (old new : StoreView) (target : Target) (e : Error)
    → IsMemory e ⊎ IsUnfollowed args target e → IsFailure old new e ⊎ IsReadingError args current e
policy_error args current old new target e (inl memory) = inl (inl (inl memory))
policy_error args current old new target e (inr bad) = either (unfollowed_error args target e bad)
  where
    either : IsMemory e ⊎ IsPolicyError args.no_policy e
        → IsFailure old new e ⊎ IsReadingError args current e
    either (inl memory) = inl (inl (inl memory))
    either (inr wrong) = inr (inr (inl wrong))

-- and one of the index
pub index_error : (args : UpgradeArgs) (current : List ℕ) (old mid new : StoreView) (e : Error)
    → OnlyReads old mid → IsCallError call.Read mid new e ⊎ IsIndexError (given args.index_file) e
    → IsFailure old new e ⊎ IsReadingError args current e
index_error args current old mid new e reads (inl refused) =
    inl (inr (refused_on call.Read old mid new e reads refused))
index_error args current old mid new e reads (inr wrong) = inr (inr (inr wrong))
