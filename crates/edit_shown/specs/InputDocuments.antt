-- The documents of inputs, as an upgrade's annotations read them again (own).
use Rattle.std.specs.Prelude.{◌≡◌, ℕ, List, MatchOption, None, Option}
use Rattle.edit_metadata.specs.declared.input.Input.{Input}
use Rattle.edit_shown.specs.Annotations.{bytes_at}
use Rattle.edit_shown.specs.RequirementLines.{document_form, line_number}
use Rattle.edit_shown.specs.declared.annotations.documents.InputDocument.{InputDocument}
use Rattle.edit_shown.specs.declared.annotations.lines.LineAt.{LineAt}
use Rattle.edit_tree.specs.DocumentViews.{DocumentViews}

-- the document with these bytes; none where they are no document
abbrev pub IsDocumentFor : List ℕ → Option DocumentViews → Type 0
IsDocumentFor bytes document = MatchOption document (document_form bytes ≡ None) (λ d. d.bytes ≡ bytes)

-- the line of the byte at an offset
abbrev pub IsLineAt : List ℕ → LineAt → Type 0
IsLineAt bytes place = place.line ≡ line_number bytes place.at

-- the document with these bytes, and a line of them
pub record IsRead (bytes : List ℕ) (d : InputDocument) : Type 0 where
  pub document : IsDocumentFor bytes d.document
  pub last : IsLineAt bytes d.last

-- the document of the input at its index, and a line of it
abbrev pub IsDocumentOf : List Input → InputDocument → Type 0
IsDocumentOf inputs d = IsRead (bytes_at inputs d.input) d
