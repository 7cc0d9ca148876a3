-- Plans whose rows are revised after the decisions for single entries.
use Rattle.std.specs.Prelude.{◌≡◌, ◌≤◌, ◌+◌, ℕ, List, [], ◌∷◌, ◌++◌, All, IsUtf8, Option, Some, None, length, map, take}
use Rattle.std.specs.Global.{Vec}
use Rattle.std.specs.List.{AllZip}
use Rattle.edit_syntax.specs.Grammar.{Text}
use Rattle.edit_tree.specs.Assertions.{IsDocument}
use Rattle.edit_tree.specs.DocumentViews.{DocumentViews, ShowsTree}
use Rattle.edit_tree.specs.Tree.{view_at}
use Rattle.edit_metadata.specs.Inputs.{path_of}
use Rattle.edit_metadata.specs.declared.input.Input.{Input}
use Rattle.edit_report.specs.declared.output.Output.{Output}
use Rattle.edit_report.specs.declared.row.Row.{Row}
use Rattle.edit_sources.specs.Configured.{HasAddress}
use Rattle.edit_sources.specs.declared.config.Config.{Config}
use Rattle.url.specs.Parts as url
use Rattle.url.specs.Parts.{serialize}
use Rattle.edit_upgrade.specs.Drafts.{lines_on}
use Rattle.edit_upgrade.specs.Lines.{line_of}
use Rattle.edit_upgrade.specs.Outputs.{HasOutputs}
use Rattle.edit_upgrade.specs.Records.{RowEntry, at_folder, at_registry, at_repository, row_entries}
use Rattle.edit_upgrade.specs.Rows.{Line}

-- the document has these entries, each of which gets a row (own)
pub record HasRowEach (d : DocumentViews) (es : List RowEntry) : Type 0 where
  pub form : Text
  pub manifest : IsDocument d.bytes form
  pub tree : ShowsTree d form
  pub are : es ≡ row_entries (view_at form)

-- the address of an entry's registry; none for a git or path dependency
pub data IsAddressOf (configs : List Config) (e : RowEntry) : Option (List ℕ) → Type 0 where
  at : (named : Option (List ℕ)) (address : url.Parts) → e.source ≡ at_registry named
      → HasAddress configs named address → IsAddressOf configs e (Some (serialize address))
  repository : e.source ≡ at_repository → IsAddressOf configs e None
  folder : e.source ≡ at_folder → IsAddressOf configs e None

-- a registry, by its name where one is given, has an address (own)
abbrev pub IsResolved : List Config → Option (List ℕ) → Type 0
IsResolved configs named = (address : url.Parts) × HasAddress configs named address

-- the text is the address of a registry (own)
pub record IsAddressText (configs : List Config) (named : Option (List ℕ)) (text : List ℕ) : Type 0 where
  pub address : url.Parts
  pub has : HasAddress configs named address
  pub is : text ≡ serialize address

-- the registry of an entry has an address
abbrev pub HasItsAddress : List Config → RowEntry → Type 0
HasItsAddress configs e = (address : Option (List ℕ)) × IsAddressOf configs e address

-- the addresses of more entries are added (own)
abbrev pub AddsAddresses : List Config → List RowEntry → List (Option (List ℕ)) → List (Option (List ℕ))
    → Type 0
AddsAddresses configs es old new =
    (more : List (Option (List ℕ))) × (new ≡ old ++ more) × AllZip (IsAddressOf configs) es more

-- where no documents are given, the bytes of each input are UTF-8 (own)
abbrev pub AreUtf8 : List Input → List DocumentViews → Type 0
AreUtf8 inputs documents = documents ≡ [] → All (λ x. IsUtf8 x.bytes.items) inputs

-- the bytes are a manifest
abbrev pub IsManifest : List ℕ → Type 0
IsManifest bytes = (form : Text) × IsDocument bytes form

-- the bytes are a manifest, and these are the addresses of its entries
pub record AreAddressesOf (configs : List Config) (bytes : List ℕ) (addresses : List (Option (List ℕ)))
    : Type 0 where
  pub form : Text
  pub manifest : IsDocument bytes form
  pub each : AllZip (IsAddressOf configs) (row_entries (view_at form)) addresses

-- the addresses of the entries of each input, in the order of the inputs
abbrev pub HasRowAddresses : List Input → List (Vec Config) → List (Option (List ℕ)) → Type 0
HasRowAddresses [] configs addresses = addresses ≡ []
HasRowAddresses (input ∷ inputs) [] addresses = ⊥
HasRowAddresses (input ∷ inputs) (own ∷ configs) addresses =
    (first : List (Option (List ℕ))) × (last : List (Option (List ℕ)))
    × (addresses ≡ first ++ last) × AreAddressesOf own.items input.bytes.items first
    × HasRowAddresses inputs configs last

-- the registry of each entry of the inputs has an address
abbrev pub HaveAddresses : List Input → List (Vec Config) → Type 0
HaveAddresses inputs configs =
    (addresses : List (Option (List ℕ))) × HasRowAddresses inputs configs addresses

-- the bytes are a manifest, and there is a row for each of its entries that gets one
pub record IsLongEnough (bytes : List ℕ) (count : ℕ) : Type 0 where
  pub form : Text
  pub manifest : IsDocument bytes form
  pub long : count ≡ length (row_entries (view_at form))

-- the rows of these inputs, of which the first has this number: in their order, for each input a row for each
-- of its entries (own)
abbrev pub AreRowsFrom : ℕ → List Input → List Row → Type 0
AreRowsFrom i [] rows = rows ≡ []
AreRowsFrom i (input ∷ inputs) rows =
    (own : List Row) × (later : List Row) × (rows ≡ own ++ later) × All (λ row. row.input ≡ i) own
    × IsLongEnough input.bytes.items (length own) × AreRowsFrom (i + 1) inputs later

-- there is a row for each entry of the inputs, in their order
abbrev pub AreRowsOf : List Input → List Row → Type 0
AreRowsOf inputs rows = AreRowsFrom 0 inputs rows

-- the outputs of these inputs, of which the first has this number: in their order, for each input those of
-- its rows among these (own)
abbrev pub AreOutputsFrom : ℕ → List Input → List Line → List Output → Type 0
AreOutputsFrom i [] lines outputs = outputs ≡ []
AreOutputsFrom i (input ∷ inputs) lines outputs =
    (own : List Output) × (later : List Output) × (outputs ≡ own ++ later)
    × HasOutputs (path_of input) input.bytes.items (lines_on i lines) own
    × AreOutputsFrom (i + 1) inputs lines later

-- the outputs of inputs with these rows: those of the rows of each input, in the order of the inputs
abbrev pub HasRevisedOutputs : List Input → List Row → List Output → Type 0
HasRevisedOutputs inputs rows outputs = AreOutputsFrom 0 inputs (map line_of rows) outputs

-- there are rows for the entries of a manifest, and perhaps more (own)
abbrev pub HasEnoughRows : List ℕ → List Row → Type 0
HasEnoughRows bytes rows = (count : ℕ) × IsLongEnough bytes count × (count ≤ length rows)

-- the first rows, as many as this number, are those of the entries of an input, and these are its outputs
-- (own)
pub record AreFirstOutputs (input : Input) (rows : List Row) (outputs : List Output) (count : ℕ)
    : Type 0 where
  pub long : IsLongEnough input.bytes.items count
  pub within : count ≤ length rows
  pub are : HasOutputs (path_of input) input.bytes.items (map line_of (take count rows)) outputs
