use Rattle.std.proofs.Common.{◌∙◌, ◌++◌, [], ap, append-nil, refl, sym}
use Rattle.std.specs.Prelude.{string_bytes}
use Rattle.std.specs.BTreeMap.{get_by_text}
use Rattle.std.specs.Option.{option_map_or}
use Rattle.edit_shown.specs.Markdown.{table_row}
use Rattle.edit_shown.proofs.MarkdownLemmas.{rows_all, rows_next, left_more}
use Rattle.edit_shown.proofs.markdown.groups.push_groups.Goals as goal

pub loop-line-init : goal.loop-line-init
loop-line-init c = record { left = λ q. refl; rows = sym (append-nil (string_bytes c.args.text.now)) }

pub loop-line-preserved : goal.loop-line-preserved
loop-line-preserved c =
    let i = c.loop-line.line-index in
    let lines = c.args.lines.now in
    let line = c.line-item.result in
    let found = get_by_text c.loop-line.groups in
    record {
      left = λ q. left_more lines i line (get_by_text c.args.groups) found
          (get_by_text c.push_first.new.groups) c.as_str.result.now q
          c.loop-line-test.true c.line-item.is c.as_str.ensures.value
          (c.loop-line.invariant.left q) (c.in_ok-push_first.ensures.removed q);
      rows = rows_next c.args.inputs.now lines i line (get_by_text c.args.groups (string_bytes line.cells))
          (found (string_bytes line.cells)) (string_bytes c.args.text.now) (string_bytes c.loop-line.text)
          (string_bytes c.push_first.new.text)
          c.loop-line-test.true c.line-item.is (c.loop-line.invariant.left (string_bytes line.cells))
          (c.requires (string_bytes line.cells)) c.loop-line.invariant.rows
          (c.in_ok-push_first.ensures.text
          ∙ ap (λ cells. string_bytes c.loop-line.text
          ++ option_map_or (λ m. table_row c.args.inputs.now cells m.items) (found cells) [])
          c.as_str.ensures.value);
    }

-- the text has all rows
pub returns : goal.returns
returns c =
    c.loop-line.invariant.rows
    ∙ ap (λ rows. string_bytes c.args.text.now ++ rows)
    (rows_all c.args.inputs.now c.args.lines.now c.loop-line.line-index c.loop-line-test.false)
