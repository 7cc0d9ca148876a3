use Rattle.std.proofs.Common.{take, map}
use Rattle.edit_syntax.specs.Grammar.{Text}
use Rattle.edit_document.specs.Ranges.{edit_views}
use Rattle.edit_document.specs.Splices.{range_of, AreRanges}
use Rattle.edit_tree.specs.Assertions.{IsDocument}
use Rattle.edit_document.proofs.document.Document.with_literals.Given as goal

abbrev pub invariant-loop-edit : goal.invariant-loop-edit
invariant-loop-edit l = (form : Text) → IsDocument l.self.bytes form
    → AreRanges form (take l.edit-index (edit_views l.edits)) (map range_of l.rewrites.items)
