use Rattle.std.proofs.Common.{◌∙◌, List, ap, arith, map}
use Rattle.std.specs.Prelude.{string_bytes}
use Rattle.std.specs.List.{filter}
use Rattle.std.specs.Str.{bytes_eq}
use Rattle.std.proofs.lemmas.Grind.{text_groups}
use Rattle.std.proofs.lemmas.List.{take_all}
use Rattle.edit_shown.specs.declared.markdown.lines.MarkdownLine.{MarkdownLine}
use Rattle.edit_shown.proofs.MarkdownLemmas.{inputs_from}
use Rattle.edit_shown.proofs.markdown.groups.group_inputs.Goals as goal

pub loop-line-preserved : goal.loop-line-preserved
loop-line-preserved c = grind (arith, text_groups)

-- all lines were added
pub returns : goal.returns
returns c = λ cells.
    c.loop-line.invariant cells
    ∙ ap (λ (lines : List MarkdownLine). map (λ line. line.input)
    (filter (λ line. bytes_eq cells (string_bytes line.cells)) lines))
    (take_all c.loop-line.line-index c.args.lines.now c.loop-line-test.false)
    ∙ inputs_from c.args.lines.now cells
