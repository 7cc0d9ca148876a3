-- The policy that an upgrade follows, from its steps.
use Rattle.std.proofs.Common.{◌≡◌, ◌∙◌, ℕ, Bor, List, [], ◌∷◌, None, Option, ap, get_or, inl, inr, length, map, subst, sym, true}
use Rattle.std.specs.Prelude.{◌⊎◌, option_copied, option_map, slice_get}
use Rattle.std.specs.Global.{Vec}
use Rattle.std.proofs.lemmas.List.{length-map}
use Rattle.edit_base.specs.Errors.{IsMemory, number_of}
use Rattle.edit_base.specs.declared.errors.DeviceCall.TheVariants as call
use Rattle.edit_base.specs.declared.errors.Error.{Error}
use Rattle.edit_base.specs.declared.errors.Error.TheVariants as error
use Rattle.edit_lock.specs.Views.{lock_view}
use Rattle.edit_metadata.specs.Inputs.{HaveOwnPaths}
use Rattle.edit_metadata.specs.Metadata.{WorkspaceModel}
use Rattle.edit_metadata.specs.Roots.{IsRoot}
use Rattle.edit_metadata.specs.Workspaces.{workspace_view}
use Rattle.edit_metadata.specs.declared.input.Input.{Input}
use Rattle.edit_metadata.specs.declared.workspace.Workspace.{Workspace}
use Rattle.edit_policy.specs.Errors.{error_of}
use Rattle.edit_policy.specs.Manifests.{IsManifestFault}
use Rattle.edit_policy.specs.declared.error.PolicyError.{PolicyError}
use Rattle.edit_policy.specs.declared.error.PolicyError.TheVariants.{Failed, Unexpected}
use Rattle.edit_policy.specs.declared.policy.Policy.{Policy}
use Rattle.edit_sources.specs.Configured.{given}
use Rattle.edit_steps.proofs.ReadLemmas.{before, refused_on}
use Rattle.edit_steps.specs.Causes.{HasNoIndex, IsReadCause}
use Rattle.edit_steps.specs.Sources.{AreDocuments, MayBePlanned}
use Rattle.edit_steps.specs.declared.upgrade_read.sources.Sources.{Sources}
use Rattle.edit_steps.specs.declared.upgrade_read.target.Target.{Target}
use Rattle.edit_store.specs.Store.{IsCallError, OnlyReads, StoreView}
use Rattle.edit_tree.specs.DocumentViews.{DocumentViews}
use Rattle.edit_program.proofs.CountLemmas.{error_counts, memory_counts}
use Rattle.edit_program.proofs.UpgradeLemmas.{same_workspace}
use Rattle.edit_program.specs.Followed.{HasBadPolicy, HasNoUpgradeIndex, HasPolicyFault, HasRoot, IsFollowing, IsParsedFrom, IsUnfollowed}
use Rattle.edit_program.specs.LockRead.{HasNoLock, IsLockRead}
use Rattle.edit_program.specs.Planned.{to_request}
use Rattle.edit_program.specs.Reading.{IsRead}
use Rattle.edit_program.specs.declared.upgrade_run.reading.ReadFiles.{ReadFiles}
use Rattle.edit_program.specs.declared.upgrade_run.upgrade_args.UpgradeArgs.{UpgradeArgs}

-- the manifest in the root, where the workspace and the inputs are borrowed
pub root_of : (target : Target) (lent : Option (Bor Workspace)) (inputs : List Input) (root : Option Input)
    → option_copied lent ≡ target.workspace → inputs ≡ target.inputs.items
    → IsRoot (option_map (λ w. workspace_view w.now) lent) inputs root → HasRoot target root
root_of target lent inputs root is same found =
    subst (λ (xs : List Input). IsRoot (option_map workspace_view target.workspace) xs root) same
    (subst (λ (w : Option WorkspaceModel). IsRoot w inputs root) (same_workspace lent target.workspace is)
    found)

-- the first document is that of the first manifest, where all documents are those of manifests
first_parsed : (documents : List DocumentViews) (inputs : List Input) → AreDocuments documents inputs
    → IsParsedFrom (slice_get inputs 0) (slice_get documents 0)
first_parsed [] [] are = tt
first_parsed [] (input ∷ inputs) are = tt
first_parsed (document ∷ documents) [] are = tt
first_parsed (document ∷ documents) (input ∷ inputs) (inl none) = cc none
first_parsed (document ∷ documents) (input ∷ inputs) (inr same) = ap (λ bytes. get_or bytes 0 []) same

-- without metadata, the first document is that of the manifest in the root
pub root_parsed : (target : Target) (documents : List DocumentViews) (first : Option DocumentViews)
    (root : Option Input) → target.workspace ≡ None → documents ≡ target.documents.items
    → first ≡ slice_get documents 0 → AreDocuments target.documents.items target.inputs.items
    → HasRoot target root → IsParsedFrom root first
root_parsed target documents first root single all head are is =
    let found : root ≡ slice_get target.inputs.items 0
    = subst (λ w. IsRoot (option_map workspace_view w) target.inputs.items root) single is in
    let begins : first ≡ slice_get target.documents.items 0 = head ∙ ap (λ ds. slice_get ds 0) all in
    subst (λ document. IsParsedFrom root document) (sym begins)
    (subst (λ input. IsParsedFrom input (slice_get target.documents.items 0)) (sym found)
    (first_parsed target.documents.items target.inputs.items are))

-- an error of a policy is not the device's
pub fault_counts : {P : Type 0} (bytes : List ℕ) (own : PolicyError) (e : Error) → IsManifestFault bytes own
    → e ≡ error_of own → number_of e ≡ 3 → P
fault_counts bytes (Unexpected place expected) e h is = error_counts e error.Policy is (λ n. cc n)
fault_counts bytes (Failed cause) e h is = memory_counts e (subst IsMemory (sym is) h)

-- documents of inputs are those of others with the same bytes
documents_for : (ds : List DocumentViews) (old new : List Input)
    → map (λ (i : Input). i.bytes.items) new ≡ map (λ (i : Input). i.bytes.items) old → AreDocuments ds old
    → AreDocuments ds new
documents_for ds old new same (inl none) = inl none
documents_for ds old new same (inr are) = inr (are ∙ sym same)

-- what was read may be planned with other inputs that have the same bytes
pub may_be_planned : (own : Sources) (inputs : Vec Input)
    → (HaveOwnPaths own.target.inputs.items → HaveOwnPaths inputs.items)
    → map (λ (i : Input). i.bytes.items) inputs.items
    ≡ map (λ (i : Input). i.bytes.items) own.target.inputs.items
    → MayBePlanned own → MayBePlanned (record own { target = record own.target { inputs = inputs } })
may_be_planned own inputs paths bytes may =
    let old = own.target.inputs.items in
    let contents = λ (i : Input). i.bytes.items in
    let count : length old ≡ length inputs.items
    = sym (sym (length-map inputs.items contents) ∙ ap (λ (all : List (List ℕ)). length all) bytes
    ∙ length-map old contents) in
    record {
      paths = paths may.paths;
      each = may.each ∙ count;
      lists = may.lists;
      documents = documents_for own.target.documents.items old inputs.items bytes may.documents;
    }

-- an invalid policy cannot be followed
pub unfollowed : (args : UpgradeArgs) (target : Target) (e : Error)
    → IsMemory e ⊎ HasPolicyFault args.no_policy target e → IsMemory e ⊎ IsUnfollowed args target e
unfollowed args target e (inl memory) = inl memory
unfollowed args target e (inr fault) = inr (inl fault)

-- the policy cannot be followed, or memory ran out
pub policy_refused : (args : UpgradeArgs) (current : List ℕ) (home : Option (List ℕ)) (old new : StoreView)
    (own : ReadFiles) (e : Error) → (old.tells ≡ true → IsRead args current home old.file_at own.sources)
    → (old.tells ≡ true → IsLockRead args.to_lockfile old.file_at current (given args.lock_file)
    (option_map lock_view own.lock))
    → IsMemory e ⊎ IsUnfollowed args own.sources.target e
    → (IsReadCause current home (to_request args) old new e
    ⊎ (old.tells ≡ true → HasNoLock args.to_lockfile old.file_at current (given args.lock_file) e))
    ⊎ (old.tells ≡ true → HasBadPolicy args current home old.file_at e
    ⊎ HasNoUpgradeIndex args current home old.file_at e)
policy_refused args current home old new own e read locked (inl memory) =
    inl (inl (inl (inl (inl memory))))
policy_refused args current home old new own e read locked (inr fault) =
    inr (λ t. inl (record { own = own; read = read t; locked = locked t; fault = fault }))

-- the index cannot be read
pub index_refused : (args : UpgradeArgs) (current : List ℕ) (home : Option (List ℕ))
    (old mid new : StoreView) (own : ReadFiles) (sources : Sources) (policy : Policy) (chosen : UpgradeArgs)
    (e : Error) → OnlyReads old mid
    → (old.tells ≡ true → IsRead args current home old.file_at own.sources)
    → (old.tells ≡ true → IsLockRead args.to_lockfile old.file_at current (given args.lock_file)
    (option_map lock_view own.lock))
    → IsFollowing args own.sources sources policy chosen
    → IsCallError call.Read mid new e
    ⊎ (mid.tells ≡ true → HasNoIndex mid.file_at current (given args.index_file) e)
    → (IsReadCause current home (to_request args) old new e
    ⊎ (old.tells ≡ true → HasNoLock args.to_lockfile old.file_at current (given args.lock_file) e))
    ⊎ (old.tells ≡ true → HasBadPolicy args current home old.file_at e
    ⊎ HasNoUpgradeIndex args current home old.file_at e)
index_refused args current home old mid new own sources policy chosen e reads read locked follows
    (inl refused) =
    inl (inl (inl (inr (refused_on call.Read old mid new e reads refused))))
index_refused args current home old mid new own sources policy chosen e reads read locked follows
    (inr wrong) =
    inr (λ t. inr (record {
      own = own;
      read = read t;
      locked = locked t;
      sources = sources;
      policy = policy;
      chosen = chosen;
      follows = follows;
      cause = before (λ files. HasNoIndex files current (given args.index_file) e) old mid reads wrong t;
    }))
