-- The properties of a plan of inputs, from those of the plan of each input.
use Rattle.std.proofs.Common.{◌≡◌, List, ℕ, Some, ◌<◌, ◌∙◌, ap, refl, sym, subst, length, map, arith}
use Rattle.std.specs.Prelude.{All, option_map, slice_get}
use Rattle.std.specs.Global.{Vec}
use Rattle.edit_tree.specs.Tree.{view_at}
use Rattle.edit_metadata.specs.declared.input.Input.{Input}
use Rattle.edit_report.specs.declared.output.Output.{Output}
use Rattle.edit_report.specs.declared.row.Row.{Row}
use Rattle.edit_sources.specs.declared.config.Config.{Config}
use Rattle.edit_version.specs.RustVersions.{numbers_of}
use Rattle.edit_upgrade.specs.Caches.{CacheView}
use Rattle.edit_upgrade.specs.Drafts.{ArePlanned, IsDraft, lines_on}
use Rattle.edit_upgrade.specs.Headline.{IsSettled, KeepsFloor, LatestIsNotLess, Narrows, NeedsAsBefore, Reaches, StaysInLevel}
use Rattle.edit_metadata.specs.Inputs.{path_of}
use Rattle.edit_upgrade.specs.Inputs.{EachInput, Setting, below, outputs_at, rows_of, setting_of}
use Rattle.edit_upgrade.specs.Lines.{line_of}
use Rattle.edit_upgrade.specs.Lists.{HasRowLists, warning_view}
use Rattle.edit_upgrade.specs.LookupOrder.{AreInOrder}
use Rattle.edit_upgrade.specs.Lookups.{AreLookups}
use Rattle.edit_upgrade.specs.Missing.{ListsMissing}
use Rattle.edit_upgrade.specs.Plans.{HasLookups, IsPlan, AreLookupsInOrder}
use Rattle.edit_upgrade.specs.Records.{row_entries}
use Rattle.edit_upgrade.specs.Rows.{Line}
use Rattle.edit_upgrade.specs.Upgraded.{HasItsOutputs, HasItsRows, HasItsWarnings, HasRows, IsNeeded}
use Rattle.edit_upgrade.specs.declared.draft.Draft.{Draft}
use Rattle.edit_upgrade.specs.declared.upgrade.Look.{Look}
use Rattle.edit_upgrade.specs.declared.upgrade.Warning.{Warning}
use Rattle.edit_upgrade.specs.declared.decision.options.Options.{Options}
use Rattle.edit_upgrade.specs.declared.upgrade.UpgradePlan.{UpgradePlan}
use Rattle.edit_upgrade.proofs.EndLemmas.{all-below, all-flat, each-some, get-some}
use Rattle.edit_upgrade.proofs.HeadlineRows.{rows-floor, rows-latest, rows-level, rows-narrow, rows-reach}
use Rattle.edit_upgrade.proofs.PlannedAgain.{need-same, pending_defined}
use Rattle.edit_upgrade.proofs.WalkLemmas.{rows-from}

-- a plan that has all that was planned of the inputs, and the lookups that they need in their order, from a
-- cache to another
pub record IsFinished (o : Options) (inputs : List Input) (configs : List (Vec Config)) (old new : CacheView)
    (plan : UpgradePlan) : Type 0 where
  pub planned : ArePlanned o new.cached inputs configs (map line_of plan.rows.items) plan.outputs.items
      (map warning_view plan.warnings.items)
  pub lookups : HasLookups inputs configs old new plan
  pub in_order : AreLookupsInOrder inputs configs plan

-- the plan that a draft has
pub finish_plan-draft : (o : Options) (inputs : List Input) (configs : List (Vec Config)) (old new : CacheView)
    (d : Draft) (plan : UpgradePlan) → IsDraft o inputs configs old.gives old.cached new.cached d
    → (plan.rows ≡ d.rows) × (plan.looks ≡ d.books.looks)
    → (plan.outputs ≡ d.outputs) × (plan.warnings ≡ d.warnings)
    → IsFinished o inputs configs old new plan
finish_plan-draft o inputs configs old new d plan h a b = record {
  planned = subst (λ (rows : Vec Row). ArePlanned o new.cached inputs configs (map line_of rows.items)
      plan.outputs.items (map warning_view plan.warnings.items)) (sym a.0)
      (subst (λ (outputs : Vec Output). ArePlanned o new.cached inputs configs (map line_of d.rows.items)
      outputs.items (map warning_view plan.warnings.items)) (sym b.0)
      (subst (λ (warnings : Vec Warning). ArePlanned o new.cached inputs configs (map line_of d.rows.items)
      d.outputs.items (map warning_view warnings.items)) (sym b.1) h.planned));
  lookups = subst (λ (lookups : Vec Look). AreLookups (IsNeeded inputs configs) old.gives old.cached new.cached
      lookups.items) (sym a.1) h.so_far.lookups;
  in_order = subst (λ (lookups : Vec Look). AreInOrder inputs configs lookups.items) (sym a.1) h.ordered.lookups;
}

module _ (o : Options) (inputs : List Input) (configs : List (Vec Config)) (old new : CacheView)
    (plan : UpgradePlan) (h : IsFinished o inputs configs old new plan) where
  p : ArePlanned o new.cached inputs configs (map line_of plan.rows.items) plan.outputs.items
      (map warning_view plan.warnings.items)
  p = h.planned

  rows-at : (i : ℕ) (x : Input) (own : Vec Config) → slice_get inputs i ≡ Some x → slice_get configs i
      ≡ Some own
      → HasRows (setting_of i o x own.items plan.looks.items) x.bytes.items (rows_of i plan)
  rows-at i x own e f =
      let q = p.each i x own e f in
      record {
        form = q.form;
        manifest = q.manifest;
        decided = rows-from (IsNeeded inputs configs) i o (option_map numbers_of x.rust_version) own.items
            old.gives old.cached new.cached plan.looks.items (row_entries (view_at q.form))
            (lines_on i (map line_of plan.rows.items))
            (λ a n need. record {
              i = i;
              input = x;
              own = own;
              at = e;
              configured = f;
              needed = record
                  { form = q.form; manifest = q.manifest; needed = need };
            })
            h.lookups q.decided;
      }

  each-of : (P : Setting → Input → UpgradePlan → Type 0)
      → ((i : ℕ) (x : Input) (own : Vec Config) → slice_get inputs i ≡ Some x → slice_get configs i
      ≡ Some own
      → P (setting_of i o x own.items plan.looks.items) x plan) → EachInput o inputs configs P plan
  each-of P each i = each-some (slice_get inputs i) (slice_get configs i)
      (λ x own. P (setting_of i o x own.items plan.looks.items) x plan) (λ x own e f. each i x own e f)

  all-rows_each : EachInput o inputs configs HasItsRows plan
  all-rows_each = each-of HasItsRows rows-at

  all-outputs : EachInput o inputs configs HasItsOutputs plan
  all-outputs = each-of HasItsOutputs (λ i x own e f. (p.each i x own e f).writes)

  all-warnings : EachInput o inputs configs HasItsWarnings plan
  all-warnings = each-of HasItsWarnings (λ i x own e f. (p.each i x own e f).warned)

  all-pending_defined : EachInput o inputs configs IsSettled plan
  all-pending_defined = each-of IsSettled (λ i x own e f. pending_defined (setting_of i o x own.items plan.looks.items)
      (path_of x) x.bytes.items (rows_of i plan)
      (outputs_at (path_of x) plan) (rows-at i x own e f) (p.each i x own e f).writes)

  all-needs : EachInput o inputs configs NeedsAsBefore plan
  all-needs = each-of NeedsAsBefore (λ i x own e f. need-same (setting_of i o x own.items plan.looks.items)
      (path_of x) x.bytes.items (rows_of i plan)
      (outputs_at (path_of x) plan) (rows-at i x own e f) (p.each i x own e f).writes)

  -- what holds of the rows of each input under these options holds of all rows
  all-lines : (P : Line → Type 0) → length configs ≡ length inputs
      → ((s : Setting) (bytes : List ℕ) (lines : List Line) → s.options ≡ o → HasRows s bytes lines
      → All P lines) → All P (map line_of plan.rows.items)
  all-lines P long each =
      subst (λ (l : List Line). All P l) (sym p.rows_in_order)
      (all-flat P (λ i. rows_of i plan) (below (length inputs))
      (all-below (λ i. All P (rows_of i plan)) (length inputs) (λ i low.
      let x = get-some inputs i low in
      let same : i < length configs = omega (arith, low, long) in
      let own = get-some configs i same in
      each (setting_of i o x.0 own.0.items plan.looks.items) x.0.bytes.items (rows_of i plan) refl
      (rows-at i x.0 own.0 x.1 own.1))))

  -- the plan has each promise, where its lists and its missing names are given
  pub plan-of : length configs ≡ length inputs → HasRowLists plan → ListsMissing o inputs plan
      → IsPlan o inputs configs old new plan
  plan-of long lists missing = record {
    rows = all-rows_each;
    rows_in_order = p.rows_in_order;
    outputs = all-outputs;
    outputs_in_order = p.outputs_in_order;
    warnings = all-warnings;
    warnings_in_order = p.warnings_in_order;
    narrowing = all-lines Narrows long (λ s bytes lines same k. rows-narrow s bytes lines k);
    reach = all-lines Reaches long (λ s bytes lines same k. rows-reach s bytes lines k);
    latest = all-lines LatestIsNotLess long (λ s bytes lines same k. rows-latest s bytes lines k);
    never_lower = λ on. all-lines KeepsFloor long
        (λ s bytes lines same k. rows-floor s bytes lines (ap (λ (x : Options). x.never_lower) same ∙ on) k);
    level = all-lines (StaysInLevel o) long (λ s bytes lines same k.
        subst (λ (x : Options). All (StaysInLevel x) lines) same (rows-level s bytes lines k));
    fixed_point = all-pending_defined;
    needs = all-needs;
    missing = missing;
    lookups = h.lookups;
    lookups_in_order = h.in_order;
    lists = lists;
  }
