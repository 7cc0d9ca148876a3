use Rattle.std.proofs.Common.{drop}
use Rattle.std.specs.Prelude.{string_bytes}
use Rattle.edit_syntax.specs.Grammar.{Text, lines, byte_order_mark}
use Rattle.edit_document.specs.Items.{place_view}
use Rattle.edit_tree.specs.Assertions.{IsDocument}
use Rattle.edit_tree.specs.RemovedBytes.{lines_left}
use Rattle.edit_tree.specs.Statements.{placed_statements}
use Rattle.edit_rewrite.proofs.LeftLines.{AtStatement}
use Rattle.edit_rewrite.proofs.remove_text.without_lines.Given as goal

-- what is left of the statements so far is written
abbrev pub invariant-entries : goal.invariant-entries
invariant-entries l =
    let gone = place_view l.place in
    (form : Text) → IsDocument l.text form → AtStatement l.text gone
    (byte_order_mark form.has_byte_order_mark (lines_left gone (lines form.lines) (placed_statements form)))
    (string_bytes l.out) l.from (drop l.entry-index l.found)
