use Rattle.std.proofs.Common.{◌<◌, ◌∙◌, ◌++◌, List, ap, arith, length, map, w8, ℤ}
use Rattle.std.specs.Prelude.{string_bytes}
use Rattle.std.proofs.lemmas.Grind.{common_steps}
use Rattle.std.proofs.lemmas.Int.{to_z-of_z}
use Rattle.edit_shown.specs.Markdown.{heading, line_view, shown_lines, table_of, table_rows}
use Rattle.edit_shown.specs.declared.markdown.lines.MarkdownLine.{MarkdownLine}
use Rattle.edit_shown.proofs.MarkdownLemmas.{table_some}
use Rattle.edit_shown.proofs.markdown.markdown_text.Goals as goal

pub returns-clause-text : goal.returns-clause-text
returns-clause-text c =
    let inputs = c.args.inputs.now in
    let lines = c.in_ok-lines.lines.items in
    let some : 0 < length lines = grind (arith, common_steps) in
    let rows = table_rows inputs (map line_view c.as_slice-2.result.now) in
    c.in_ok-push_groups.ensures
    ∙ ap (λ t. t ++ rows) c.in_ok-text.ensures.ok
    ∙ ap (λ (ls : List MarkdownLine). heading ++ table_rows inputs (map line_view ls))
    c.as_slice-2.ensures.value
    ∙ table_some inputs lines some
    ∙ ap (table_of inputs) c.in_ok-lines.ensures.ok
    ∙ ap (λ (v : ℤ). table_of inputs (shown_lines v c.args.rows.now))
    (to_z-of_z w8 c.args.verbosity c.ranges.verbosity)
