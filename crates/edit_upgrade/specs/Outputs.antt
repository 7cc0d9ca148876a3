-- What a plan writes: the new bytes of the manifests whose rows have a change.
use Rattle.std.specs.Prelude.{◌≡◌, ◌≢◌, ℕ, List, [], ◌∷◌, string_bytes}
use Rattle.edit_tree.specs.Assertions.{IsDocument, Place}
use Rattle.edit_syntax.specs.Grammar.{Text}
use Rattle.edit_tree.specs.Replaces.{Edits, Replaces, tree_with_strings}
use Rattle.edit_tree.specs.DocumentViews.{DocumentViews, tree_of}
use Rattle.edit_tree.specs.Tree.{view_at}
use Rattle.edit_upgrade.specs.Records.{row_entries}
use Rattle.edit_upgrade.specs.Rows.{Line, writes}
use Rattle.edit_report.specs.declared.output.Output.{Output}

-- something is written, and the new bytes are those of the document with these literals, and read back as
-- its tree with these strings (own)
pub record IsRewritten (d : DocumentViews) (edits : Edits) (new : List ℕ) : Type 0 where
  pub some : edits ≢ []
  pub replaced : Replaces edits d.bytes new
  pub read_back : (form : Text) → IsDocument new form → (place : Place) → view_at form place
      ≡ tree_with_strings edits (tree_of d) place

-- an input of which nothing is written has no output; else its one output has its path and the new bytes
-- (own)
pub data AreOutputs (path bytes : List ℕ) (edits : Edits) : List Output → Type 0 where
  unchanged : edits ≡ [] → AreOutputs path bytes edits []
  changed : (output : Output) → edits ≢ [] → string_bytes output.path ≡ path
      → Replaces edits bytes output.bytes.items
      → AreOutputs path bytes edits (output ∷ [])

-- the outputs of an input: what its rows write, each at the version literal of its entry (own)
pub record HasOutputs (path bytes : List ℕ) (lines : List Line) (outputs : List Output) : Type 0 where
  pub form : Text
  pub manifest : IsDocument bytes form
  pub are : AreOutputs path bytes (writes (row_entries (view_at form)) lines) outputs

-- the one output, with this path and these bytes (own)
abbrev pub IsOnlyOutput : List ℕ → List ℕ → List Output → Type 0
IsOnlyOutput path bytes outputs =
    (output : Output) × (outputs ≡ output ∷ []) × (string_bytes output.path ≡ path)
    × (output.bytes.items ≡ bytes)
