-- The policy that an upgrade follows, and what it changes.
use Rattle.std.specs.Prelude.{◌≡◌, ◌⊎◌, ℕ, List, Bool, true, false, Option, Some, None, option_map, ⊤}
use Rattle.std.specs.Global.{Vec}
use Rattle.edit_base.specs.declared.errors.Error.{Error}
use Rattle.edit_base.specs.declared.errors.Error.TheVariants as error
use Rattle.edit_lock.specs.Views.{lock_view}
use Rattle.edit_metadata.specs.Roots.{IsRoot}
use Rattle.edit_metadata.specs.RustInputs.{all_for_rust}
use Rattle.edit_metadata.specs.Workspaces.{workspace_view}
use Rattle.edit_metadata.specs.declared.input.Input.{Input}
use Rattle.edit_policy.specs.Errors.{error_of}
use Rattle.edit_policy.specs.Manifests.{IsManifestFault, IsManifestPolicy}
use Rattle.edit_policy.specs.Policies.{IsEmpty}
use Rattle.edit_policy.specs.declared.error.PolicyError.{PolicyError}
use Rattle.edit_policy.specs.declared.policy.Policy.{Policy}
use Rattle.edit_sources.specs.Configured.{given}
use Rattle.edit_steps.specs.Causes.{HasNoIndex}
use Rattle.edit_steps.specs.Sources.{IsIndexOf}
use Rattle.edit_steps.specs.declared.upgrade_read.source_request.RustChoice.{RustChoice}
use Rattle.edit_steps.specs.declared.upgrade_read.source_request.RustChoice.TheVariants as choice
use Rattle.edit_steps.specs.declared.upgrade_read.sources.Sources.{Sources}
use Rattle.edit_steps.specs.declared.upgrade_read.target.Target.{Target}
use Rattle.edit_store.specs.Store.{Files}
use Rattle.edit_tree.specs.DocumentViews.{DocumentViews}
use Rattle.edit_version.specs.declared.rust_version.RustVersion.{RustVersion}
use Rattle.edit_program.specs.LockRead.{IsLockRead}
use Rattle.edit_program.specs.Merging.{IsBoundBy, IsMerged, LacksTime}
use Rattle.edit_program.specs.Reading.{IsRead}
use Rattle.edit_program.specs.declared.upgrade_run.following.Readings.{Readings}
use Rattle.edit_program.specs.declared.upgrade_run.reading.ReadFiles.{ReadFiles}
use Rattle.edit_program.specs.declared.upgrade_run.upgrade_args.UpgradeArgs.{UpgradeArgs}

-- the manifest in the root of the workspace, or the only one, where there is one
abbrev pub HasRoot : Target → Option Input → Type 0
HasRoot target root = IsRoot (option_map workspace_view target.workspace) target.inputs.items root

-- the policy in a manifest; one that says nothing where there is none
abbrev pub IsPolicyIn : Option Input → Policy → Type 0
IsPolicyIn None p = IsEmpty p
IsPolicyIn (Some root) p = IsManifestPolicy root.bytes.items p

-- the document is that of the manifest, where there are both
abbrev pub IsParsedFrom : Option Input → Option DocumentViews → Type 0
IsParsedFrom None d = ⊤
IsParsedFrom (Some root) None = ⊤
IsParsedFrom (Some root) (Some d) = d.bytes ≡ root.bytes.items

-- the policy of the manifest in the root
abbrev pub IsRootPolicy : Target → Policy → Type 0
IsRootPolicy target p = (root : Option Input) × HasRoot target root × IsPolicyIn root p

-- the policy to follow: that of the manifest in the root, and one that says nothing with `--no-policy`
abbrev pub IsFollowed : Bool → Target → Policy → Type 0
IsFollowed true target p = IsEmpty p
IsFollowed false target p = IsRootPolicy target p

-- the policy in a manifest is invalid, or memory runs out
abbrev pub HasFaultIn : Option Input → Error → Type 0
HasFaultIn None e = ⊥
HasFaultIn (Some root) e =
    (own : PolicyError) × IsManifestFault root.bytes.items own × (e ≡ error_of own)

-- the policy of the manifest in the root is invalid, or memory runs out
abbrev pub HasRootFault : Target → Error → Type 0
HasRootFault target e = (root : Option Input) × HasRoot target root × HasFaultIn root e

-- the policy to follow is invalid, or memory runs out
abbrev pub HasPolicyFault : Bool → Target → Error → Type 0
HasPolicyFault true target e = ⊥
HasPolicyFault false target e = HasRootFault target e

-- the policy to follow sets an age, which has no time from which it counts back
pub record HasUntimedAge (args : UpgradeArgs) (target : Target) (e : Error) : Type 0 where
  pub policy : Policy
  pub is : IsFollowed args.no_policy target policy
  pub lacks : LacksTime args.published_before (given args.time) policy.min_age
  pub cause : e ≡ error.Policy

-- the policy cannot be followed: it is invalid, or sets an age without a time from which that counts back; or
-- memory runs out
abbrev pub IsUnfollowed : UpgradeArgs → Target → Error → Type 0
IsUnfollowed args target e = HasPolicyFault args.no_policy target e ⊎ HasUntimedAge args target e

-- inputs for the Rust version of a policy, where it has one and arguments do not say for which; else the
-- same
abbrev pub AreForPolicy : RustChoice → Option RustVersion → Vec Input → Vec Input → Type 0
AreForPolicy choice.Own (Some version) own inputs = inputs.items ≡ all_for_rust version own.items
AreForPolicy choice.Own None own inputs = inputs ≡ own
AreForPolicy choice.Ignored version own inputs = inputs ≡ own
AreForPolicy (choice.Given _) version own inputs = inputs ≡ own

-- what an upgrade with these arguments makes of the manifests and configurations that were read: it follows
-- the policy `p` of the manifest in the root, by which it has the arguments `chosen` and the inputs in `s`
pub record IsFollowing (args : UpgradeArgs) (own s : Sources) (p : Policy) (chosen : UpgradeArgs)
    : Type 0 where
  pub policy : IsFollowed args.no_policy own.target p
  pub bound : IsBoundBy args.published_before (given args.time) p.min_age chosen.published_before
  pub merged : IsMerged args p chosen
  pub inputs : AreForPolicy args.rust p.rust_version own.target.inputs s.target.inputs
  pub others : s ≡ record own { target = record own.target { inputs = s.target.inputs } }

-- what an upgrade with these arguments may depend on over any store: the policy in some files is followed,
-- over any index
pub record AreByPolicy (args : UpgradeArgs) (r : Readings) : Type 0 where
  pub own : Sources
  pub follows : IsFollowing args own r.sources r.policy r.args

-- the given files and the lock file were read, the policy is followed, and the index was read with the bound
pub record IsReady (args : UpgradeArgs) (current : List ℕ) (home : Option (List ℕ)) (files : Files)
    (r : Readings) : Type 0 where
  pub own : ReadFiles
  pub read : IsRead args current home files own.sources
  pub locked : IsLockRead args.to_lockfile files current (given args.lock_file)
      (option_map lock_view own.lock)
  pub follows : IsFollowing args own.sources r.sources r.policy r.args
  pub lock : r.lock ≡ own.lock
  pub index : IsIndexOf r.args.published_before files current (given args.index_file) (given args.index_dir)
      r.index

-- the given files and the lock file were read, and the policy of the manifest in the root cannot be followed
pub record HasBadPolicy (args : UpgradeArgs) (current : List ℕ) (home : Option (List ℕ)) (files : Files)
    (e : Error) : Type 0 where
  pub own : ReadFiles
  pub read : IsRead args current home files own.sources
  pub locked : IsLockRead args.to_lockfile files current (given args.lock_file)
      (option_map lock_view own.lock)
  pub fault : IsUnfollowed args own.sources.target e

-- the given files and the lock file were read, the policy is followed, and the given index file cannot be
-- read
pub record HasNoUpgradeIndex (args : UpgradeArgs) (current : List ℕ) (home : Option (List ℕ)) (files : Files)
    (e : Error) : Type 0 where
  pub own : ReadFiles
  pub read : IsRead args current home files own.sources
  pub locked : IsLockRead args.to_lockfile files current (given args.lock_file)
      (option_map lock_view own.lock)
  pub sources : Sources
  pub policy : Policy
  pub chosen : UpgradeArgs
  pub follows : IsFollowing args own.sources sources policy chosen
  pub cause : HasNoIndex files current (given args.index_file) e
