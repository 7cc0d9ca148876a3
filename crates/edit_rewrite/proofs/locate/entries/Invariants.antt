use Rattle.edit_syntax.specs.Grammar.{Text}
use Rattle.edit_tree.specs.Assertions.{IsDocument}
use Rattle.edit_document.specs.Items.{place_view}
use Rattle.edit_rewrite.proofs.StatedLines.{AtLine}
use Rattle.edit_rewrite.proofs.locate.entries.Given as goal

-- the entries of the statements so far were found
abbrev pub invariant-lines : goal.invariant-lines
invariant-lines l = (form : Text) → IsDocument l.text form
    → AtLine l.text (place_view l.place) form l.standing l.found.items l.rest
