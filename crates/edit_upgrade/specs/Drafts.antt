-- The plan so far of the first inputs, over the program's type.
use Rattle.std.specs.Prelude.{◌≡◌, ◌<◌, ◌==◌, ◌⊎◌, ℕ, List, [], ◌++◌, Some, All, filter, length, map, not, option_map, slice_get}
use Rattle.std.specs.Global.{Vec}
use Rattle.std.specs.List.{flat_map}
use Rattle.std.specs.Str.{bytes_eq}
use Rattle.edit_syntax.specs.Grammar.{Text}
use Rattle.edit_tree.specs.Assertions.{IsDocument}
use Rattle.edit_tree.specs.DocumentViews.{DocumentViews}
use Rattle.edit_tree.specs.Tree.{view_at}
use Rattle.edit_metadata.specs.declared.input.Input.{Input}
use Rattle.edit_report.specs.declared.output.Output.{Output}
use Rattle.edit_sources.specs.Index.{Outcomes}
use Rattle.edit_sources.specs.declared.config.Config.{Config}
use Rattle.edit_version.specs.RustVersions.{numbers_of}
use Rattle.edit_upgrade.specs.Causes.{IsPassed}
use Rattle.edit_metadata.specs.Inputs.{path_of}
use Rattle.edit_upgrade.specs.Inputs.{below, output_path}
use Rattle.edit_upgrade.specs.Lines.{line_of}
use Rattle.edit_upgrade.specs.Lists.{WarningView, warning_view}
use Rattle.edit_upgrade.specs.LookupOrder.{AreInOrderSoFar}
use Rattle.edit_upgrade.specs.LookupSteps.{AreAllCached, IsWalkState}
use Rattle.edit_upgrade.specs.Lookups.{CachedAnswers, cached_basis}
use Rattle.edit_upgrade.specs.Outputs.{HasOutputs}
use Rattle.edit_upgrade.specs.PairSets.{holds_pair}
use Rattle.edit_upgrade.specs.PlannedView.{IsWalked}
use Rattle.edit_upgrade.specs.Records.{row_entries}
use Rattle.edit_upgrade.specs.Rows.{AreDecided, Line}
use Rattle.edit_upgrade.specs.Upgraded.{HasWarnings, IsNeeded}
use Rattle.edit_upgrade.specs.declared.draft.Draft.{Draft}
use Rattle.edit_upgrade.specs.declared.decision.options.Options.{Options}

-- those of these rows that belong to an input
abbrev pub lines_on : ℕ → List Line → List Line
lines_on i lines = filter (λ line. line.input == i) lines

-- those of these warnings that belong to an input
abbrev pub warnings_among : ℕ → List WarningView → List WarningView
warnings_among i warnings = filter (λ t. t.input == i) warnings

-- those of these outputs that are at a path
abbrev pub outputs_on : List ℕ → List Output → List Output
outputs_on path outputs = filter (λ output. bytes_eq (output_path output) path) outputs

-- the plan of one input over the cached answers: the answer that each of its entries needs is cached, and
-- these are its rows, outputs and warnings (own)
pub record IsPlanned (i : ℕ) (o : Options) (input : Input) (configs : List Config) (cached : CachedAnswers)
    (lines : List Line) (outputs : List Output) (warnings : List WarningView) : Type 0 where
  pub form : Text
  pub manifest : IsDocument input.bytes.items form
  pub passed : All (IsPassed configs cached) (row_entries (view_at form))
  pub decided : AreDecided (cached_basis i o (option_map numbers_of input.rust_version) configs cached)
      (row_entries (view_at form)) lines
  pub writes : HasOutputs (path_of input) input.bytes.items lines outputs
  pub warned : HasWarnings o i input.bytes.items warnings

-- the path is that of one of the inputs (own)
pub record IsPathAmong (inputs : List Input) (path : List ℕ) : Type 0 where
  pub i : ℕ
  pub input : Input
  pub at : slice_get inputs i ≡ Some input
  pub path_is : path ≡ path_of input

-- the plan of these inputs over the cached answers: the rows, outputs and warnings of each input, in the
-- order of the inputs, and no others (own)
pub record ArePlanned (o : Options) (cached : CachedAnswers) (inputs : List Input)
    (configs : List (Vec Config))
    (lines : List Line) (outputs : List Output) (warnings : List WarningView) : Type 0 where
  pub each : (i : ℕ) (input : Input) (own : Vec Config) → slice_get inputs i ≡ Some input
      → slice_get configs i ≡ Some own
      → IsPlanned i o input own.items cached (lines_on i lines) (outputs_on (path_of input) outputs)
      (warnings_among i warnings)
  pub rows_in_order : lines ≡ flat_map (λ i. lines_on i lines) (below (length inputs))
  pub outputs_in_order : map output_path outputs
      ≡ filter (λ path. not (length (outputs_on path outputs) == 0)) (map path_of inputs)
  pub warnings_in_order : warnings ≡ flat_map (λ i. warnings_among i warnings) (below (length inputs))
  pub rows_below : All (λ line. line.input < length inputs) lines
  pub warnings_below : All (λ t. t.input < length inputs) warnings
  pub paths_among : All (λ output. IsPathAmong inputs (output_path output)) outputs

-- the draft has the lookups that these inputs need, in order, and their plan (own)
pub record IsDraft (o : Options) (inputs : List Input) (configs : List (Vec Config)) (gives : Outcomes)
    (old now : CachedAnswers) (draft : Draft) : Type 0 where
  pub cached : AreAllCached (holds_pair draft.books.pairs) now
  pub so_far : IsWalkState (IsNeeded inputs configs) gives old now draft.books.looks.items
      (holds_pair draft.books.pairs)
  pub ordered : AreInOrderSoFar inputs configs draft.books.looks.items (holds_pair draft.books.pairs)
  pub planned : ArePlanned o now inputs configs (map line_of draft.rows.items) draft.outputs.items
      (map warning_view draft.warnings.items)

-- how the next input extends a draft: by a walk over its entries, and by its rows, outputs and warnings at
-- the end (own)
pub record AddsInput (i : ℕ) (o : Options) (input : Input) (configs : List Config) (gives : Outcomes)
    (old new : CachedAnswers) (before after : Draft) : Type 0 where
  pub lines : List Line
  pub outputs : List Output
  pub warnings : List WarningView
  pub walked : IsWalked i o input configs gives old new before.books after.books lines
  pub writes : HasOutputs (path_of input) input.bytes.items lines outputs
  pub warned : HasWarnings o i input.bytes.items warnings
  pub rows_are : map line_of after.rows.items ≡ map line_of before.rows.items ++ lines
  pub outputs_are : after.outputs.items ≡ before.outputs.items ++ outputs
  pub warnings_are : map warning_view after.warnings.items
      ≡ map warning_view before.warnings.items ++ warnings

-- a document is given for each input, with its bytes, or none is given (own)
abbrev pub AreGiven : List Input → List DocumentViews → Type 0
AreGiven inputs documents =
    (documents ≡ []) ⊎ (map (λ d. d.bytes) documents ≡ map (λ input. input.bytes.items) inputs)
