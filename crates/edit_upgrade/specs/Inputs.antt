-- Properties of a plan stated for each of its inputs.
use Rattle.std.specs.Prelude.{◌≡◌, ◌==◌, ℕ, zero, suc, List, [], ◌∷◌, ◌++◌, IfSome, Option, filter, length, map, not, option_map, slice_get, string_bytes}
use Rattle.std.specs.Global.{Vec}
use Rattle.std.specs.List.{flat_map}
use Rattle.std.specs.Str.{bytes_eq}
use Rattle.edit_version.specs.RustVersions.{Numbers, numbers_of}
use Rattle.edit_sources.specs.declared.config.Config.{Config}
use Rattle.edit_upgrade.specs.Lines.{line_of}
use Rattle.edit_upgrade.specs.Lists.{WarningView, warning_view}
use Rattle.edit_upgrade.specs.Rows.{Line}
use Rattle.edit_metadata.specs.Inputs.{path_of}
use Rattle.edit_metadata.specs.declared.input.Input.{Input}
use Rattle.edit_upgrade.specs.declared.upgrade.Look.{Look}
use Rattle.edit_upgrade.specs.declared.decision.options.Options.{Options}
use Rattle.edit_report.specs.declared.output.Output.{Output}
use Rattle.edit_upgrade.specs.declared.upgrade.UpgradePlan.{UpgradePlan}

-- what the rows of an input depend on beside its bytes: its index, the options, its Rust version, its
-- configurations, and the lookups made
pub record Setting : Type 0 where
  pub input : ℕ
  pub options : Options
  pub rust : Option Numbers
  pub configs : List Config
  pub lookups : List Look

-- the setting of an input
abbrev pub setting_of : ℕ → Options → Input → List Config → List Look → Setting
setting_of i o input configs lookups = record {
  input = i;
  options = o;
  rust = option_map numbers_of input.rust_version;
  configs = configs;
  lookups = lookups;
}

-- the property holds of the plan for each input, in its setting (own)
abbrev pub EachInput : Options → List Input → List (Vec Config) → (Setting → Input → UpgradePlan → Type 0)
    → UpgradePlan → Type 0
EachInput o inputs configs P p =
    (i : ℕ) → IfSome (slice_get inputs i) (λ input. IfSome (slice_get configs i)
    (λ own. P (setting_of i o input own.items p.looks.items) input p))

-- the rows of the input at an index
abbrev pub rows_of : ℕ → UpgradePlan → List Line
rows_of i p = filter (λ line. line.input == i) (map line_of p.rows.items)

-- the numbers below this one, in order
abbrev pub below : ℕ → List ℕ
below zero = []
below (suc n) = below n ++ n ∷ []

-- the rows are those of the inputs, in the order of the inputs (own)
abbrev pub RowsInOrder : List Input → UpgradePlan → Type 0
RowsInOrder inputs p = map line_of p.rows.items ≡ flat_map (λ i. rows_of i p) (below (length inputs))

-- the warnings about the input at an index
abbrev pub warnings_of : ℕ → UpgradePlan → List WarningView
warnings_of i p = filter (λ warning. warning.input == i) (map warning_view p.warnings.items)

-- the warnings are those about the inputs, in the order of the inputs (own)
abbrev pub WarningsInOrder : List Input → UpgradePlan → Type 0
WarningsInOrder inputs p =
    map warning_view p.warnings.items ≡ flat_map (λ i. warnings_of i p) (below (length inputs))

-- the path of an output
abbrev pub output_path : Output → List ℕ
output_path output = string_bytes output.path

-- the outputs at a path
abbrev pub outputs_at : List ℕ → UpgradePlan → List Output
outputs_at path p = filter (λ output. bytes_eq (output_path output) path) p.outputs.items

-- the outputs are in the order of their inputs, and there is no other (own)
abbrev pub OutputsInOrder : List Input → UpgradePlan → Type 0
OutputsInOrder inputs p =
    map output_path p.outputs.items
    ≡ filter (λ path. not (length (outputs_at path p) == 0)) (map path_of inputs)
