-- Which errors are device errors, and that these are counted.
use Rattle.std.proofs.Common.{List, Option, [], ap, arith, inl, inr, length, subst, sym, ℕ, ◌∙◌, ◌≡◌, ◌≤◌}
use Rattle.std.proofs.Math.Nat.{eq-or-lt_of_le}
use Rattle.std.specs.Global.{Vec}
use Rattle.std.specs.Prelude.{◌⊎◌}
use Rattle.edit_base.specs.Errors.{IsMemory, number_of}
use Rattle.edit_base.specs.declared.errors.DeviceCall.{DeviceCall}
use Rattle.edit_base.specs.declared.errors.DeviceCall.TheVariants as call
use Rattle.edit_base.specs.declared.errors.Error.{Error}
use Rattle.edit_base.specs.declared.errors.Error.TheVariants as error
use Rattle.edit_cache.specs.IndexCache.{index_of}
use Rattle.edit_cache.specs.declared.cache.IndexCache.{IndexCache}
use Rattle.edit_manifest.specs.Loaded.{IsBadManifest}
use Rattle.edit_metadata.specs.Metadata.{WorkspaceModel}
use Rattle.edit_metadata.specs.declared.input.Input.{Input}
use Rattle.edit_set_version.specs.BumpCauses.{IsUnbumped}
use Rattle.edit_set_version.specs.Bumps.{Bumped, Target}
use Rattle.edit_set_version.specs.Chosen.{SelectionView, Member}
use Rattle.edit_set_version.specs.PlanCauses.{IsExcludeError, IsManifestError, IsMissing, IsVersionError}
use Rattle.edit_set_version.specs.PlanCauses.IsManifestError.{literal as no_literal, requirement as no_rise}
use Rattle.edit_set_version.specs.PlanCauses.IsVersionError.{excluded as is_excluded, version as is_unbumped}
use Rattle.edit_set_version.specs.PlanRefused.{IsCauseOf, IsFailureOf}
use Rattle.edit_set_version.specs.PlanRefused.IsFailureOf.{manifest as of_input, memory as of_memory, no_manifest as of_manifest, no_package as of_package, project as of_project}
use Rattle.edit_set_version.specs.SetVersioned.{Bump, Project, bumps}
use Rattle.edit_set_version.specs.declared.failure.VersionFailure.{VersionFailure}
use Rattle.edit_sources.specs.Configured.{HasNoUrl}
use Rattle.edit_sources.specs.Configured.HasNoUrl.{breaks, no_address, no_head, no_url}
use Rattle.edit_sources.specs.Index.{IndexView, Outcomes}
use Rattle.edit_sources.specs.declared.config.Config.{Config}
use Rattle.edit_steps.specs.Faults.{CountsFault}
use Rattle.edit_steps.specs.Sources.{AreDocuments}
use Rattle.edit_tree.specs.DocumentViews.{DocumentViews}
use Rattle.std.proofs.lemmas.List.{length-map}
use Rattle.edit_store.specs.Store.{IsCallError, StoreView, IsRaisedCount}
use Rattle.edit_upgrade.specs.Caches.{StopsDocuments, StopsInputs, cache_view}
use Rattle.edit_upgrade.specs.Causes.{HasBadEntry, StopsAt}
use Rattle.edit_upgrade.specs.Causes.StopsAt.{no_address as lacks_address, no_answer as lacks_answer}
use Rattle.edit_upgrade.specs.Failures.{FailsOnDocuments, FailsOnInputs, IsPlanFailure}
use Rattle.edit_upgrade.specs.Lookups.{CachedAnswers}
use Rattle.edit_upgrade.specs.Records.{RowEntry}
use Rattle.edit_upgrade.specs.OptionCauses.{IsOptionCause, IsPlanError}
use Rattle.edit_upgrade.specs.declared.decision.options.Options.{Options}
use Rattle.edit_upgrade.specs.declared.failure.PlanFailure.{PlanFailure}
use Rattle.edit_upgrade.proofs.CauseLemmas.{documents-error, inputs-error}
use Rattle.edit_version.specs.CrateSpecs.{IsInvalidSpec}
use Rattle.edit_version.specs.RequirementErrors.{IsUpgradeError}
use Rattle.edit_version.specs.Requirement.{UpgradeResult}
use Rattle.semver.specs.Parse.{Parts}
use Rattle.edit_program.specs.Counted.{CountsIndexFault, HasFailedBelow}
use Rattle.edit_program.specs.Delivery.{Delivery}
use Rattle.edit_program.specs.DeliveryCauses.{AreListedIn, IsDeliveryCause, IsStopped}

-- ---- errors that are not the device's

-- an error of another number
pub other_counts : {P : Type 0} (e : Error) (n : ℕ) → number_of e ≡ n → (n ≡ 3 → ⊥) → number_of e ≡ 3 → P
other_counts e n is differs device = absurd (differs (sym is ∙ device))

pub memory_counts : {P : Type 0} (e : Error) → IsMemory e → number_of e ≡ 3 → P
memory_counts e memory = other_counts e 46 memory (λ same. omega (arith, same))

pub error_counts : {P : Type 0} (e is : Error) → e ≡ is → (number_of is ≡ 3 → ⊥) → number_of e ≡ 3 → P
error_counts e is same differs = other_counts e (number_of is) (ap number_of same) differs

arg_counts : {P : Type 0} (arg : List ℕ) (e : Error) → IsInvalidSpec arg e → number_of e ≡ 3 → P
arg_counts arg (error.Device _) h device = absurd h
arg_counts arg other h device = cc device

manifest_counts : {P : Type 0} (bytes : List ℕ) (e : Error) → IsBadManifest bytes e → number_of e ≡ 3 → P
manifest_counts bytes e (inl encoding) = other_counts e 2 encoding.0 (λ same. omega (arith, same))
manifest_counts bytes e (inr (inl form)) =
    error_counts e (error.NotToml form.0.0) form.0.1 (λ h. cc h)
manifest_counts bytes e (inr (inr memory)) = memory_counts e memory.0

url_counts : {P : Type 0} (configs : List Config) (named : Option (List ℕ)) (e : Error)
    → HasNoUrl configs named e → number_of e ≡ 3 → P
url_counts configs named _ (no_head key h) device = cc device
url_counts configs named _ (breaks key h) device = cc device
url_counts configs named _ (no_address h) device = cc device
url_counts configs named _ (no_url text parsed h g) device = cc device

-- ---- a plan of an upgrade

options_count : {P : Type 0} (o : Options) (e : Error) → IsOptionCause o e → number_of e ≡ 3 → P
options_count o e (inl arg) = arg_counts arg.arg e arg.refused
options_count o e (inr memory) = memory_counts e memory.0

entry_counts : (configs : List Config) (gives : Outcomes) (old : CachedAnswers) (before now : ℕ) (entry : RowEntry)
    (e : Error) → StopsAt configs gives old before now entry e → number_of e ≡ 3 → IsRaisedCount before now
entry_counts configs gives old before now entry e (lacks_address named at none) device =
    url_counts configs named e none device
entry_counts configs gives old before now entry e (lacks_answer address name needs none (inl given)) device =
    absurd (omega (arith, given.0.0, given.0.1, device))
entry_counts configs gives old before now entry e (lacks_answer address name needs none (inr failed)) device =
    failed.1

documents_count : {I : Type 0} (view : I → IndexView) (o : Options) (inputs : List Input)
    (configs : List (Vec Config)) (old new : IndexCache I) (e : Error)
    → IsPlanError o (StopsDocuments inputs configs (cache_view view old) (cache_view view new)) e
    → number_of e ≡ 3 → IsRaisedCount (view (index_of old)).faults (view (index_of new)).faults
documents_count view o inputs configs old new e (inl options) = options_count o e options
documents_count view o inputs configs old new e (inr (args, inl memory)) = memory_counts e memory
documents_count view o inputs configs old new e (inr (args, inr first)) =
    entry_counts first.own.items _ _ _ _ first.stops.stops.entry e first.stops.stops.stops

inputs_count : {I : Type 0} (view : I → IndexView) (o : Options) (inputs : List Input)
    (configs : List (Vec Config)) (old new : IndexCache I) (e : Error)
    → IsPlanError o (StopsInputs inputs configs (cache_view view old) (cache_view view new)) e
    → number_of e ≡ 3 → IsRaisedCount (view (index_of old)).faults (view (index_of new)).faults
inputs_count view o inputs configs old new e (inl options) = options_count o e options
inputs_count {I} view o inputs configs old new e (inr (args, first)) = by first.stops
  where
    by : IsBadManifest first.input.bytes.items e
        ⊎ HasBadEntry first.own.items (cache_view view old).gives (cache_view view old).cached
        (cache_view view new).cached (view (index_of old)).faults (view (index_of new)).faults
        first.input.bytes.items e
        → number_of e ≡ 3 → IsRaisedCount (view (index_of old)).faults (view (index_of new)).faults
    by (inl bad) = manifest_counts first.input.bytes.items e bad
    by (inr entry) = entry_counts first.own.items _ _ _ _ entry.stops.entry e entry.stops.stops

below_counts : {I : Type 0} (view : I → IndexView) (index : I) (old new : IndexCache I) (e : Error)
    → index_of old ≡ index
    → (number_of e ≡ 3 → IsRaisedCount (view (index_of old)).faults (view (index_of new)).faults)
    → CountsIndexFault view index e
below_counts {I} view index old new e is counts device =
    subst (λ (i : I). HasFailedBelow view i) is (index_of new, counts device)

-- a plan over a new cache
pub bytes_count : {I : Type 0} (view : I → IndexView) (index : I) (o : Options) (inputs : List Input)
    (configs : List (Vec Config)) (old new : IndexCache I) (e : Error) → index_of old ≡ index
    → IsPlanError o (StopsInputs inputs configs (cache_view view old) (cache_view view new)) e
    → CountsIndexFault view index e
bytes_count view index o inputs configs old new e is h =
    below_counts view index old new e is (inputs_count view o inputs configs old new e h)

pub documents_counted : {I : Type 0} (view : I → IndexView) (index : I) (o : Options) (inputs : List Input)
    (configs : List (Vec Config)) (old new : IndexCache I) (e : Error) → index_of old ≡ index
    → IsPlanError o (StopsDocuments inputs configs (cache_view view old) (cache_view view new)) e
    → CountsIndexFault view index e
documents_counted view index o inputs configs old new e is h =
    below_counts view index old new e is (documents_count view o inputs configs old new e h)

-- a plan of inputs, of their documents where those are given, else of their bytes
pub shared_count : {I : Type 0} (view : I → IndexView) (index : I) (o : Options) (inputs : List Input)
    (configs : List (Vec Config)) (documents : List DocumentViews) (old new : IndexCache I) (f : PlanFailure)
    → index_of old ≡ index → AreDocuments documents inputs
    → (length documents ≡ length inputs
    → IsPlanFailure o (FailsOnDocuments inputs configs (cache_view view old) (cache_view view new)) f)
    → (documents ≡ []
    → IsPlanFailure o (FailsOnInputs inputs configs (cache_view view old) (cache_view view new)) f)
    → CountsIndexFault view index f.error
shared_count view index o inputs configs documents old new f is (inl none) given read =
    bytes_count view index o inputs configs old new f.error is
    (inputs-error o inputs configs (cache_view view old) (cache_view view new) f (read none))
shared_count view index o inputs configs documents old new f is (inr same) given read =
    documents_counted view index o inputs configs old new f.error is
    (documents-error o inputs configs (cache_view view old) (cache_view view new) f
    (given (sym (length-map documents (λ (d : DocumentViews). d.bytes)) ∙ ap length same
    ∙ length-map inputs (λ (input : Input). input.bytes.items))))

-- ---- a plan of versions

unbumped_counts : {P : Type 0} (b : Bumped) (current : Parts) (e : Error) → IsUnbumped b current e
    → number_of e ≡ 3 → P
unbumped_counts b current (error.Device _) h device = absurd h
unbumped_counts b current other h device = cc device

raise_counts : {P : Type 0} (r : UpgradeResult) (text : List ℕ) (e : Error) → IsUpgradeError r text e
    → number_of e ≡ 3 → P
raise_counts r text (error.Device _) h device = absurd h
raise_counts r text other h device = cc device

missing_counts : {P : Type 0} (names : List (List ℕ)) (e : Error) → IsMissing names e
    → number_of e ≡ 3 → P
missing_counts names (error.Device _) h device = absurd h
missing_counts names other h device = cc device

held_counts : {P : Type 0} (held others : List Member) (e : Error) → IsExcludeError held others e
    → number_of e ≡ 3 → P
held_counts held others (error.Device _) h device = absurd h
held_counts held others other h device = cc device

project_counts : {P : Type 0} (t : Target) (a : SelectionView) (p : Project) (f : VersionFailure)
    → IsVersionError t a p f → number_of f.error ≡ 3 → P
project_counts t a p f (is_excluded held at) = held_counts _ _ f.error held
project_counts t a p f (is_unbumped none unbumped) =
    unbumped_counts _ unbumped.first.version f.error unbumped.cause.0

manifests_count : {P : Type 0} (bs : List Bump) (inputs : List Input) (p : Project) (f : VersionFailure)
    → IsManifestError bs inputs p f → number_of f.error ≡ 3 → P
manifests_count bs inputs p f (no_literal is lacking) =
    error_counts f.error error.NoVersionPlace is (λ h. cc h)
manifests_count bs inputs p f (no_rise literals unraised) =
    raise_counts _ unraised.cause.first.text f.error unraised.cause.cause.0

failure_counts : {P : Type 0} (t : Target) (a : SelectionView) (w : WorkspaceModel) (inputs : List Input)
    (f : VersionFailure) → IsFailureOf t a w inputs f → number_of f.error ≡ 3 → P
failure_counts t a w inputs f (of_memory memory) = memory_counts f.error memory
failure_counts t a w inputs f (of_package none) = missing_counts _ f.error none
failure_counts t a w inputs f (of_manifest known malformed) =
    manifest_counts malformed.first.bytes.items f.error malformed.cause.0
failure_counts t a w inputs f (of_project known p is against) = project_counts t a p f against
failure_counts t a w inputs f (of_input known p is versions fault) =
    manifests_count (bumps t a p) inputs p f fault

-- the error of a plan of new versions is no error of the device
pub versions_count : {P : Type 0} (t : Target) (a : SelectionView) (w : WorkspaceModel) (inputs : List Input)
    (e : Error) → IsCauseOf t a w inputs e → number_of e ≡ 3 → P
versions_count t a w inputs e cause device =
    failure_counts t a w inputs cause.0 cause.2 (ap number_of cause.1 ∙ device)

-- ---- files

pub call_counts : (of : DeviceCall) (old new : StoreView) (e : Error) → IsCallError of old new e
    → CountsFault old new e
call_counts of old new e (inl memory) = memory_counts e memory
call_counts of old new e (inr failed) = λ device. failed.1

-- a count that rose from a later one rose from an earlier one
raised_later : (a b c : ℕ) → a ≤ b → IsRaisedCount b c → IsRaisedCount a c
raised_later a b c le (inl rose) = inl (omega (arith, le, rose))
raised_later a b c le (inr ends) = elim (eq-or-lt_of_le le) [
  | inl same ↦ inr (same ∙ ends.0, ends.1)
  | inr less ↦ inl (omega (arith, less, ends.0, ends.1))
]

pub fault_before : (old mid new : StoreView) (e : Error) → old.faults ≤ mid.faults → CountsFault mid new e
    → CountsFault old new e
fault_before old mid new e later counts device =
    raised_later old.faults mid.faults new.faults later (counts device)

-- ---- what is delivered

listed_counts : {P : Type 0} (missing : List (List ℕ)) (e : Error) → AreListedIn missing e → number_of e ≡ 3 → P
listed_counts missing (error.Device _) h device = absurd h
listed_counts missing other h device = cc device

stopped_counts : {P : Type 0} (HasFields : List ℕ → Type 0) (d : Delivery) (old new : StoreView) (e : Error)
    → IsStopped HasFields d old new e → number_of e ≡ 3 → P
stopped_counts HasFields d old new e (inl (same, inl locked)) =
    error_counts e error.Locked locked.0 (λ h. cc h)
stopped_counts HasFields d old new e (inl (same, inr arg)) = arg_counts arg.1.arg e arg.1.refused
stopped_counts HasFields d old new e (inr (printed, lacks)) = listed_counts _ e lacks.1

pub delivery_counts : (HasFields : List ℕ → Type 0) (d : Delivery) (old new : StoreView) (e : Error)
    → IsDeliveryCause HasFields d old new e → CountsFault old new e
delivery_counts HasFields d old new e (inl refused) = call_counts call.Write old new e refused
delivery_counts HasFields d old new e (inr (inl unwritten)) =
    error_counts e error.Output unwritten (λ h. cc h)
delivery_counts HasFields d old new e (inr (inr stopped)) = stopped_counts HasFields d old new e stopped
