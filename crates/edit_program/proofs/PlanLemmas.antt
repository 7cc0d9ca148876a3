-- A plan over an empty cache.
use Rattle.std.proofs.Common.{◌≡◌, ◌∙◌, [], ℕ, List, None, Result, Ok, Err, ap, inl, inr, length, option_map, subst, sym}
use Rattle.std.proofs.Math.Path.{fun_ext}
use Rattle.std.specs.Global.{Vec}
use Rattle.std.proofs.lemmas.List.{length-map}
use Rattle.std.specs.Prelude.{◌⊎◌, IfErr}
use Rattle.edit_base.specs.Errors.{IsMemory}
use Rattle.edit_base.specs.declared.errors.Error.{Error}
use Rattle.edit_metadata.specs.declared.input.Input.{Input}
use Rattle.edit_sources.specs.Index.{IndexView, answer_of}
use Rattle.edit_tree.specs.DocumentViews.{DocumentViews}
use Rattle.edit_steps.specs.Sources.{AreDocuments}
use Rattle.edit_cache.specs.IndexCache.{index_of, cached_answer_at}
use Rattle.edit_cache.specs.declared.cache.IndexCache.{IndexCache}
use Rattle.edit_sources.specs.declared.config.Config.{Config}
use Rattle.edit_upgrade.specs.Caches.{CacheView, LeavesCache, StopsDocuments, StopsInputs, cache_view}
use Rattle.edit_upgrade.specs.Causes.{IsCause}
use Rattle.edit_upgrade.specs.Failures.{FailsOnDocuments, FailsOnInputs, IsPlanFailure}
use Rattle.edit_upgrade.specs.Lookups.{AddsNeeded, CachedAnswers, cached_by}
use Rattle.edit_upgrade.specs.Plans.{IsPlan}
use Rattle.edit_upgrade.specs.Upgraded.{IsNeeded}
use Rattle.edit_upgrade.specs.OptionCauses.{IsPlanError}
use Rattle.edit_upgrade.specs.declared.decision.options.Options.{Options}
use Rattle.edit_upgrade.specs.declared.failure.PlanFailure.{PlanFailure}
use Rattle.edit_upgrade.specs.declared.upgrade.UpgradePlan.{UpgradePlan}
use Rattle.edit_upgrade.proofs.CauseLemmas.{documents-error, inputs-error}
use Rattle.edit_program.specs.Planned.{IsPlanCause, IsPlanStopped, IsPlanned, empty_answers, cache_over}

-- a new cache is empty
nothing : {I : Type 0} (cache : IndexCache I)
    → ((address name : List ℕ) → cached_answer_at cache address name ≡ None)
    → cached_by cache ≡ empty_answers
nothing cache empty =
    fun_ext (λ address. fun_ext (λ name. ap (option_map answer_of) (empty address name)))

-- of the cache after a plan only its cached answers count
answers_count : (o : Options) (inputs : List Input) (configs : List (Vec Config)) (old now : CacheView)
    (view : IndexView) (p : UpgradePlan) → IsPlan o inputs configs old now p
    → IsPlan o inputs configs old (cache_over view now.cached) p
answers_count o inputs configs old now view p h = record {
  rows = h.rows;
  rows_in_order = h.rows_in_order;
  outputs = h.outputs;
  outputs_in_order = h.outputs_in_order;
  warnings = h.warnings;
  warnings_in_order = h.warnings_in_order;
  narrowing = h.narrowing;
  reach = h.reach;
  latest = h.latest;
  never_lower = h.never_lower;
  level = h.level;
  fixed_point = h.fixed_point;
  needs = h.needs;
  missing = h.missing;
  lookups = h.lookups;
  lookups_in_order = h.lookups_in_order;
  lists = h.lists;
}

-- a plan over a new cache
pub planned : {I : Type 0} (view : I → IndexView) (index : I) (o : Options) (inputs : List Input)
    (configs : List (Vec Config)) (old new : IndexCache I) (p : UpgradePlan) → index_of old ≡ index
    → ((address name : List ℕ) → cached_answer_at old address name ≡ None)
    → IsPlan o inputs configs (cache_view view old) (cache_view view new) p
    → IsPlanned o inputs configs (view index) p
planned {I} view index o inputs configs old new p is empty h =
    let now : CacheView = cache_over (view index) (cached_by new) in
    record {
      cached = cached_by new;
      is = subst (λ (i : I). IsPlan o inputs configs (cache_over (view i) empty_answers) now p) is
          (subst (λ (k : CachedAnswers). IsPlan o inputs configs (cache_over (view (index_of old)) k) now p)
          (nothing old empty)
          (answers_count o inputs configs (cache_view view old) (cache_view view new) (view index) p h));
    }

-- an input that stops a plan over a new cache
input_stops : {I : Type 0} (view : I → IndexView) (index : I) (inputs : List Input)
    (configs : List (Vec Config)) (old new : IndexCache I) (e : Error) → index_of old ≡ index
    → ((address name : List ℕ) → cached_answer_at old address name ≡ None)
    → LeavesCache (IsNeeded inputs configs) (cache_view view old) (cache_view view new)
    → StopsInputs inputs configs (cache_view view old) (cache_view view new) e
    → IsPlanStopped inputs configs (view index) e
input_stops {I} view index inputs configs old new e is empty left h = record {
  cached = cached_by new;
  adds = subst (λ (i : I). AddsNeeded (IsNeeded inputs configs) (view i).gives empty_answers (cached_by new)) is
      (subst (λ (k : CachedAnswers). AddsNeeded (IsNeeded inputs configs) (view (index_of old)).gives k (cached_by new))
      (nothing old empty) left.adds);
  faults = (view (index_of new)).faults;
  cause = subst (λ (i : I). IsCause inputs configs (view i).gives empty_answers (cached_by new) (view i).faults
      (view (index_of new)).faults e) is
      (subst (λ (k : CachedAnswers). IsCause inputs configs (view (index_of old)).gives k (cached_by new)
      (view (index_of old)).faults (view (index_of new)).faults e) (nothing old empty) h);
}

-- a plan of bytes that is refused
bytes_refused : {I : Type 0} (view : I → IndexView) (index : I) (o : Options) (inputs : List Input)
    (configs : List (Vec Config)) (old new : IndexCache I) (e : Error) → index_of old ≡ index
    → ((address name : List ℕ) → cached_answer_at old address name ≡ None)
    → LeavesCache (IsNeeded inputs configs) (cache_view view old) (cache_view view new)
    → IsPlanError o (StopsInputs inputs configs (cache_view view old) (cache_view view new)) e
    → IsMemory e ⊎ IsPlanCause o inputs configs (view index) e
bytes_refused view index o inputs configs old new e is empty left (inl arg) = inr (inl arg)
bytes_refused view index o inputs configs old new e is empty left (inr (args, cause)) =
    inr (inr (args, input_stops view index inputs configs old new e is empty left cause))

-- and one of documents
documents_refused : {I : Type 0} (view : I → IndexView) (index : I) (o : Options) (inputs : List Input)
    (configs : List (Vec Config)) (old new : IndexCache I) (e : Error) → index_of old ≡ index
    → ((address name : List ℕ) → cached_answer_at old address name ≡ None)
    → LeavesCache (IsNeeded inputs configs) (cache_view view old) (cache_view view new)
    → IsPlanError o (StopsDocuments inputs configs (cache_view view old) (cache_view view new)) e
    → IsMemory e ⊎ IsPlanCause o inputs configs (view index) e
documents_refused view index o inputs configs old new e is empty left (inl arg) = inr (inl arg)
documents_refused view index o inputs configs old new e is empty left (inr (args, inl memory)) = inl memory
documents_refused view index o inputs configs old new e is empty left (inr (args, inr first)) =
    let stops : StopsInputs inputs configs (cache_view view old) (cache_view view new) e = record {
      i = first.i;
      input = first.input;
      own = first.own;
      at = first.at;
      configured = first.configured;
      passed = first.passed;
      stops = inr first.stops;
    } in
    inr (inr (args, input_stops view index inputs configs old new e is empty left stops))

-- a cause that follows from two that an error has
pub both_causes : {T E : Type 0} (r : Result T E) (P Q R : E → Type 0) → ((e : E) → P e → Q e → R e)
    → IfErr r P → IfErr r Q → IfErr r R
both_causes (Ok x) P Q R both p q = tt
both_causes (Err e) P Q R both p q = both e p q

-- a plan of inputs that is refused: of their documents where those are given, else of their bytes
pub shared_refused : {I : Type 0} (view : I → IndexView) (index : I) (o : Options) (inputs : List Input)
    (configs : List (Vec Config)) (documents : List DocumentViews) (old new : IndexCache I) (f : PlanFailure)
    → index_of old ≡ index → ((address name : List ℕ) → cached_answer_at old address name ≡ None)
    → LeavesCache (IsNeeded inputs configs) (cache_view view old) (cache_view view new)
    → AreDocuments documents inputs
    → (length documents ≡ length inputs
    → IsPlanFailure o (FailsOnDocuments inputs configs (cache_view view old) (cache_view view new)) f)
    → (documents ≡ []
    → IsPlanFailure o (FailsOnInputs inputs configs (cache_view view old) (cache_view view new)) f)
    → IsMemory f.error ⊎ IsPlanCause o inputs configs (view index) f.error
shared_refused view index o inputs configs documents old new f is empty left (inl none) given read =
    bytes_refused view index o inputs configs old new f.error is empty left
    (inputs-error o inputs configs (cache_view view old) (cache_view view new) f (read none))
shared_refused view index o inputs configs documents old new f is empty left (inr same) given read =
    documents_refused view index o inputs configs old new f.error is empty left
    (documents-error o inputs configs (cache_view view old) (cache_view view new) f
    (given (sym (length-map documents (λ (d : DocumentViews). d.bytes)) ∙ ap length same
    ∙ length-map inputs (λ (input : Input). input.bytes.items))))
