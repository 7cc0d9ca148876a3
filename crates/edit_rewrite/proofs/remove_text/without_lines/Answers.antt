use Rattle.std.proofs.Common.{◌≡◌, Bool, if◌then◌else◌, List, ℕ, ◌+◌, ◌++◌, drop, get_or, length, sym, ap, subst, ◌∙◌}
use Rattle.std.specs.Prelude.{string_bytes}
use Rattle.std.proofs.lemmas.List.{drop_more, drop_all}
use Rattle.edit_syntax.specs.Grammar.{lines, byte_order_mark}
use Rattle.edit_syntax.specs.Reading.{skip_byte_order_mark}
use Rattle.edit_syntax.proofs.TextLaws.{lines_only}
use Rattle.edit_document.specs.Items.{place_view}
use Rattle.edit_tree.specs.RemovedBytes.{lines_left}
use Rattle.edit_tree.specs.Statements.{placed_statements}
use Rattle.edit_rewrite.proofs.EntryChoices.{no_entry}
use Rattle.edit_rewrite.proofs.LeftLines.{AtStatement, at_first, past_one, past_last}
use Rattle.edit_rewrite.proofs.remove_text.without_lines.Goals.{then-entry, else-entry}
use Rattle.edit_rewrite.proofs.remove_text.without_lines.Goals as goal

pub entries-init : goal.entries-init
entries-init c form m =
    let text = c.args.text.now in
    at_first text form (place_view c.args.place.now) _ _ _ m c.utf8.text
    (ap length (c.skip_byte_order_mark-from.ensures ∙ ap skip_byte_order_mark c.as_bytes.ensures.value
    ∙ lines_only text form m.grammar))
    ((c.in_ok-out.ensures {u = tt}).ok ∙ c.between.ensures)
    (c.as_slice-found.ensures.value ∙ (c.in_ok-all.ensures {u = tt}).found form m)

pub entries-preserved : goal.entries-preserved
entries-preserved c form m =
    let text = c.args.text.now in
    let gone = place_view c.args.place.now in
    let xs = c.as_slice-found.result.now in
    let i = c.entries.entry-index in
    let e = get_or xs i no_entry in
    let whole = byte_order_mark form.has_byte_order_mark (lines_left gone (lines form.lines) (placed_statements form)) in
    let done = string_bytes c.entries.out in
    let at = subst (AtStatement text gone whole done c.entries.from)
    (drop_more xs i no_entry c.entries-test.true)
    (c.entries.invariant form m) in
    let to : c.if-entry.to ≡ (if e.is_within then c.entries.from else e.next) =
    elim c.if-entry.branch [
      | then-entry w ↦
          w.to-is ∙ ap (λ (b : Bool). if b then c.entries.from else e.next) (sym w.if-entry.true)
      | else-entry w ↦
          w.to-is ∙ ap (λ (b : Bool). if b then c.entries.from else e.next) (sym w.if-entry.false)
    ] in
    past_one text gone whole done _ c.entries.from c.if-entry.to e (drop (i + 1) xs) at to
    ((c.in_ok-push_str.ensures {u = tt}).bytes ∙ ap (λ (l : List ℕ). done ++ l) c.between-in-entries.ensures)

pub returns-clause-text : goal.returns-clause-text
returns-clause-text c form m =
    let text = c.args.text.now in
    let gone = place_view c.args.place.now in
    let xs = c.as_slice-found.result.now in
    let whole = byte_order_mark form.has_byte_order_mark (lines_left gone (lines form.lines) (placed_statements form)) in
    let done = string_bytes c.entries.out in
    past_last text gone whole done _ c.entries.from
    (subst (AtStatement text gone whole done c.entries.from)
    (drop_all c.entries.entry-index xs c.entries-test.false)
    (c.entries.invariant form m))
    ((c.in_ok-push_str-2.ensures {u = tt}).bytes ∙ ap (λ (l : List ℕ). done ++ l) c.between-2.ensures)
