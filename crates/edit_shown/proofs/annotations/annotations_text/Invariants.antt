use Rattle.std.proofs.Common.{◌≡◌, take}
use Rattle.std.specs.Prelude.{string_bytes}
use Rattle.edit_shown.specs.Annotations.{annotations}
use Rattle.edit_shown.specs.InputDocuments.{IsDocumentOf}
use Rattle.edit_shown.proofs.annotations.annotations_text.Given as goal

-- the annotations so far
abbrev pub invariant-loop-row : goal.invariant-loop-row
invariant-loop-row l = record {
  document : IsDocumentOf l.inputs l.last;
  text : string_bytes l.text ≡ annotations l.root l.inputs (take l.row-index l.rows);
}
