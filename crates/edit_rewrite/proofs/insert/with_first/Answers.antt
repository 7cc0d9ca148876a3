use Rattle.std.proofs.Common.{ℕ, List, ◌++◌, length, ap, ◌∙◌}
use Rattle.std.specs.Prelude.{codes}
use Rattle.std.proofs.lemmas.Result.{IfOk-weaker}
use Rattle.edit_syntax.specs.Grammar.{lines}
use Rattle.edit_syntax.specs.Reading.{skip_byte_order_mark}
use Rattle.edit_syntax.proofs.TextLaws.{lines_only}
use Rattle.edit_tree.specs.EditBytes.{put_before, with_splice}
use Rattle.edit_rewrite.proofs.StatementSuffixes.{start_suffix}
use Rattle.edit_rewrite.proofs.insert.with_first.Goals as goal

pub returns-clause-text : goal.returns-clause-text
returns-clause-text c form m =
    let text = c.args.text.now in
    let rest = c.skip_byte_order_mark.ensures ∙ ap skip_byte_order_mark c.as_bytes.ensures.value ∙
    lines_only text form m.grammar in
    let line = c.as_str.ensures.value ∙ (c.in_ok-push_str.ensures {u = tt}).bytes
    ∙ ap (λ (l : List ℕ). l ++ codes "\n") (c.in_ok-line.ensures {u = tt}).ok in
    IfOk-weaker c.with_text.result _ _
    (λ t is. is ∙ ap (λ (l : List ℕ). with_splice text (put_before (lines form.lines) l)) line)
    (c.with_text.ensures.text (lines form.lines) (start_suffix text form m c.utf8.text) (ap length rest))
