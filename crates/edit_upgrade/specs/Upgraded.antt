-- The plan of a manifest: its rows, and the lookups that they need.
use Rattle.std.specs.Prelude.{◌≡◌, ℕ, List, [], Some, Contains, slice_get}
use Rattle.std.specs.Global.{Vec}
use Rattle.std.specs.List.{AllZip}
use Rattle.edit_syntax.specs.Grammar.{Text}
use Rattle.edit_tree.specs.Assertions.{IsDocument}
use Rattle.edit_tree.specs.Tree.{view_at}
use Rattle.edit_manifest.specs.Entries.{entries}
use Rattle.edit_sources.specs.declared.config.Config.{Config}
use Rattle.url.specs.Parts as url
use Rattle.url.specs.Parts.{serialize}
use Rattle.edit_metadata.specs.Inputs.{path_of}
use Rattle.edit_upgrade.specs.Inputs.{Setting, outputs_at, rows_of, warnings_of}
use Rattle.edit_upgrade.specs.Lists.{AreWarnings, WarningView}
use Rattle.edit_upgrade.specs.Lookups.{lookup_versions}
use Rattle.edit_upgrade.specs.Outputs.{HasOutputs}
use Rattle.edit_upgrade.specs.Records.{RowEntry, row_entries}
use Rattle.edit_upgrade.specs.Rows.{Basis, IsRowBy, Line, Needs}
use Rattle.edit_metadata.specs.declared.input.Input.{Input}
use Rattle.edit_upgrade.specs.declared.decision.options.Options.{Options}
use Rattle.edit_upgrade.specs.declared.upgrade.UpgradePlan.{UpgradePlan}

-- what the rows of an input depend on, with versions from the lookups made
abbrev pub basis_of : Setting → Basis
basis_of s = record {
  input = s.input;
  options = s.options;
  configs = s.configs;
  versions = lookup_versions s.rust s.lookups;
}

-- the row of an entry, over the versions in the lookups made
abbrev pub IsRow : Setting → RowEntry → Line → Type 0
IsRow s e line = IsRowBy (basis_of s) e line

-- the bytes are a manifest, and these are its rows
pub record HasRows (s : Setting) (bytes : List ℕ) (lines : List Line) : Type 0 where
  pub form : Text
  pub manifest : IsDocument bytes form
  pub decided : AllZip (IsRow s) (row_entries (view_at form)) lines

-- the entry needs this lookup
pub record IsNeededFor (configs : List Config) (e : RowEntry) (address name : List ℕ) : Type 0 where
  pub registry : url.Parts
  pub needs : Needs configs e registry name
  pub at : address ≡ serialize registry

-- one of the entries needs this lookup
pub record IsNeededIn (configs : List Config) (es : List RowEntry) (address name : List ℕ) : Type 0 where
  pub entry : RowEntry
  pub among : Contains es entry
  pub needs : IsNeededFor configs entry address name

-- an entry of the manifest that gets a row needs this lookup
pub record IsNeededBy (configs : List Config) (bytes address name : List ℕ) : Type 0 where
  pub form : Text
  pub manifest : IsDocument bytes form
  pub needed : IsNeededIn configs (row_entries (view_at form)) address name

-- one of the inputs needs this lookup
pub record IsNeeded (inputs : List Input) (configs : List (Vec Config))
    (address name : List ℕ) : Type 0 where
  pub i : ℕ
  pub input : Input
  pub own : Vec Config
  pub at : slice_get inputs i ≡ Some input
  pub configured : slice_get configs i ≡ Some own
  pub needed : IsNeededBy own.items input.bytes.items address name

-- the rows of an input are those of its manifest
abbrev pub HasItsRows : Setting → Input → UpgradePlan → Type 0
HasItsRows s input p = HasRows s input.bytes.items (rows_of s.input p)

-- the outputs of an input are the edits of its rows
abbrev pub HasItsOutputs : Setting → Input → UpgradePlan → Type 0
HasItsOutputs s input p =
    HasOutputs (path_of input) input.bytes.items (rows_of s.input p) (outputs_at (path_of input) p)

-- the bytes are a manifest, and these are the warnings about its entries
pub record HasWarnings (o : Options) (input : ℕ) (bytes : List ℕ) (warnings : List WarningView) : Type 0 where
  pub form : Text
  pub manifest : IsDocument bytes form
  pub are : AreWarnings o input (entries (view_at form) []) warnings

-- the warnings about an input are those about the entries of its manifest
abbrev pub HasItsWarnings : Setting → Input → UpgradePlan → Type 0
HasItsWarnings s input p = HasWarnings s.options s.input input.bytes.items (warnings_of s.input p)
