-- The errors of a plan of inputs.
use Rattle.std.proofs.Common.{◌≡◌, ◌∷◌, [], List, ℕ, refl, subst, inl, inr, ◌⊎◌, ◌<◌, arith, length, map, take}
use Rattle.std.specs.Prelude.{All, IfSome, slice_get, IsUtf8}
use Rattle.std.specs.Global.{Vec}
use Rattle.edit_base.specs.Errors.{IsMemory}
use Rattle.edit_base.specs.declared.errors.Error.{Error}
use Rattle.edit_manifest.specs.Loaded.{IsBadManifest}
use Rattle.edit_metadata.specs.declared.input.Input.{Input}
use Rattle.edit_sources.specs.declared.config.Config.{Config}
use Rattle.edit_upgrade.specs.Caches.{CacheView, LeavesCache, StopsDocuments, StopsInputs, StopsManifest}
use Rattle.edit_upgrade.specs.Causes.{FirstInput, InputPasses}
use Rattle.edit_upgrade.specs.Failures.{FailsAtBytes, FailsAtEntry, FailsOnDocuments, FailsOnInputs, IsPlanFailure}
use Rattle.edit_upgrade.specs.LookupSteps.{Stays}
use Rattle.edit_upgrade.specs.OptionCauses.{IsPlanError}
use Rattle.edit_upgrade.specs.Lookups.{CachedAnswers}
use Rattle.edit_report.specs.declared.row.Row.{Row}
use Rattle.edit_upgrade.specs.Drafts.{ArePlanned}
use Rattle.edit_upgrade.specs.Lines.{line_of}
use Rattle.edit_upgrade.specs.Lists.{WarningView}
use Rattle.edit_upgrade.specs.Records.{row_entries}
use Rattle.edit_upgrade.specs.Rows.{Line}
use Rattle.edit_upgrade.specs.Upgraded.{IsNeeded}
use Rattle.edit_upgrade.specs.declared.decision.options.Options.{Options}
use Rattle.edit_upgrade.specs.declared.failure.PlanFailure.{PlanFailure}
use Rattle.edit_tree.specs.Tree.{view_at}
use Rattle.edit_report.specs.declared.output.Output.{Output}
use Rattle.std.proofs.lemmas.List.Elements.{All-head}
use Rattle.edit_upgrade.proofs.EndLemmas.{each-some, get-at, get-taken}
use Rattle.edit_upgrade.proofs.FurtherInputs.{IsInputAt}
use Rattle.edit_upgrade.proofs.WalkLemmas.{passed-stays, stops-from}

-- why an entry stops a plan of an input, from the state where the plan of all began
bad-from : (Needed : List ℕ → List ℕ → Type 0) (own : List Config) (bytes : List ℕ)
    (was now next : CacheView) (e : Error) → LeavesCache Needed was now → StopsManifest own bytes now next e
    → StopsManifest own bytes was next e
bad-from Needed own bytes was now next e left h = record {
  form = h.form;
  manifest = h.manifest;
  stops = record {
    front = h.stops.front;
    entry = h.stops.entry;
    rest = h.stops.rest;
    split = h.stops.split;
    passed = h.stops.passed;
    stops = stops-from own was.gives now.gives was.cached now.cached was.faults now.faults next.faults
        h.stops.entry e left.same left.adds.stays left.later h.stops.stops;
  };
}

-- the failure at an entry, from the state where the plan of all began
fails-from : (Needed : List ℕ → List ℕ → Type 0) (i : ℕ) (own : List Config) (bytes : List ℕ)
    (was now next : CacheView) (f : PlanFailure) → LeavesCache Needed was now
    → FailsAtEntry i own bytes now next f → FailsAtEntry i own bytes was next f
unfolding bad-from
fails-from Needed i own bytes was now next f left (bad, from) =
    (bad-from Needed own bytes was now next f.error left bad, from)

-- a plan of inputs at one of them, before which others were planned
module _ {o : Options} {inputs : List Input} {configs : List (Vec Config)} {k : ℕ} {x : Input}
    {own : Vec Config} {here : List Config} {ls : List Line} {os : List Output} {ts : List WarningView}
    (was now next : CacheView) (f : PlanFailure) (at : IsInputAt inputs configs k x own here)
    (p : ArePlanned o now.cached (take k inputs) (take k configs) ls os ts)
    (left : LeavesCache (IsNeeded inputs configs) was now) (stays : Stays now.cached next.cached) where
  -- the inputs before it are passed
  passed-front : (j : ℕ) → j < k → IfSome (slice_get inputs j)
      (λ y. IfSome (slice_get configs j) (λ d. InputPasses d.items next.cached y))
  passed-front j low = each-some (slice_get inputs j) (slice_get configs j)
      (λ y d. InputPasses d.items next.cached y) (λ y d f g.
      let q = p.each j y d (get-taken inputs k j y low f) (get-taken configs k j d low g) in
      record {
        form = q.form;
        manifest = q.manifest;
        passed = passed-stays d.items now.cached next.cached (row_entries (view_at q.form)) stays q.passed;
      })

  stops-here : (Stops : ℕ → List Config → List ℕ → Type 0) → Stops k own.items x.bytes.items
      → FirstInput inputs configs next.cached Stops
  stops-here Stops h = record {
    i = k;
    input = x;
    own = own;
    at = get-at inputs k x at.low at.is;
    configured = get-at configs k own at.own_low at.own_is;
    passed = passed-front;
    stops = h;
  }

  -- one of its entries stops it
  entry-here : FailsAtEntry k here x.bytes.items now next f
      → FailsAtEntry k own.items x.bytes.items was next f
  entry-here fails = fails-from (IsNeeded inputs configs) k own.items x.bytes.items was now next f left
      (subst (λ (cs : List Config). FailsAtEntry k cs x.bytes.items now next f) at.here_is fails)

  pub given-fails : IsMemory f.error ⊎ FailsAtEntry k here x.bytes.items now next f
      → FailsOnDocuments inputs configs was next f
  given-fails (inl memory) = inl memory
  given-fails (inr fails) = inr (stops-here
      (λ i cs bytes. FailsAtEntry i cs bytes was next f) (entry-here fails))

  pub read-fails : FailsAtBytes k x.bytes.items f ⊎ FailsAtEntry k here x.bytes.items now next f
      → FailsOnInputs inputs configs was next f
  read-fails (inl none) = stops-here
      (λ i cs bytes. FailsAtBytes i bytes f ⊎ FailsAtEntry i cs bytes was next f) (inl none)
  read-fails (inr fails) = stops-here
      (λ i cs bytes. FailsAtBytes i bytes f ⊎ FailsAtEntry i cs bytes was next f) (inr (entry-here fails))

-- memory ran out after all inputs were planned
pub finish-fails : {o : Options} {cached : CachedAnswers} {ls : List Line} {os : List Output} {ts : List WarningView}
    (inputs : List Input) (configs : List (Vec Config)) (was next : CacheView) (f : PlanFailure)
    → ArePlanned o cached inputs configs ls os ts → length configs ≡ length inputs → (ls ≡ [] → ⊥)
    → All (λ (x : Input). IsUtf8 x.bytes.items) inputs → IsMemory f.error
    → FailsOnInputs inputs configs was next f
finish-fails [] configs was next f p long some utf8 memory = absurd (some p.rows_in_order)
finish-fails (x ∷ xs) [] was next f p long some utf8 memory = absurd (omega (arith, long))
finish-fails (x ∷ xs) (own ∷ cs) was next f p long some utf8 memory = record {
  i = 0;
  input = x;
  own = own;
  at = refl;
  configured = refl;
  passed = λ j low. absurd (omega (arith, low));
  stops = inl (
    inr (inr (memory, All-head (λ (y : Input). IsUtf8 y.bytes.items) x xs utf8)),
    inl memory,
  );
}

-- the cause of a failure is the cause of its error
documents-cause : (inputs : List Input) (configs : List (Vec Config)) (was next : CacheView)
    (f : PlanFailure) → FailsOnDocuments inputs configs was next f
    → StopsDocuments inputs configs was next f.error
documents-cause inputs configs was next f (inl memory) = inl memory
documents-cause inputs configs was next f (inr first) = inr (record {
  i = first.i;
  input = first.input;
  own = first.own;
  at = first.at;
  configured = first.configured;
  passed = first.passed;
  stops = first.stops.0;
})

inputs-cause : (inputs : List Input) (configs : List (Vec Config)) (was next : CacheView)
    (f : PlanFailure) → FailsOnInputs inputs configs was next f
    → StopsInputs inputs configs was next f.error
inputs-cause inputs configs was next f first = record {
  i = first.i;
  input = first.input;
  own = first.own;
  at = first.at;
  configured = first.configured;
  passed = first.passed;
  stops = by first.stops;
}
  where
    by : FailsAtBytes first.i first.input.bytes.items f
        ⊎ FailsAtEntry first.i first.own.items first.input.bytes.items was next f
        → IsBadManifest first.input.bytes.items f.error
        ⊎ StopsManifest first.own.items first.input.bytes.items was next f.error
    by (inl bytes) = inl bytes.0
    by (inr entry) = inr entry.0

-- the same, where the error may be one of the options
pub documents-error : (o : Options) (inputs : List Input) (configs : List (Vec Config)) (was next : CacheView)
    (f : PlanFailure) → IsPlanFailure o (FailsOnDocuments inputs configs was next) f
    → IsPlanError o (StopsDocuments inputs configs was next) f.error
documents-error o inputs configs was next f (inl options) = inl options
documents-error o inputs configs was next f (inr (args, fails)) =
    inr (args, documents-cause inputs configs was next f fails)

pub inputs-error : (o : Options) (inputs : List Input) (configs : List (Vec Config)) (was next : CacheView)
    (f : PlanFailure) → IsPlanFailure o (FailsOnInputs inputs configs was next) f
    → IsPlanError o (StopsInputs inputs configs was next) f.error
inputs-error o inputs configs was next f (inl options) = inl options
inputs-error o inputs configs was next f (inr (args, fails)) =
    inr (args, inputs-cause inputs configs was next f fails)

-- rows that are there tell something
pub rows-some : (rows : List Row) → (rows ≡ [] → ⊥) → map line_of rows ≡ [] → ⊥
rows-some [] h e = h refl
rows-some (r ∷ rows) h e = cc e
