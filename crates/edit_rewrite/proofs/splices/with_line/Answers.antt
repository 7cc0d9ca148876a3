use Rattle.std.proofs.Common.{List, ℕ, ◌++◌, ap, ◌∙◌}
use Rattle.std.proofs.lemmas.Result.{IfOk-weaker}
use Rattle.edit_syntax.specs.Strings.{line_end}
use Rattle.edit_tree.specs.EditBytes.{put_before, with_splice, end_like}
use Rattle.edit_rewrite.proofs.SuffixTexts.{cut_rest}
use Rattle.edit_rewrite.proofs.splices.with_line.Goals as goal

pub returns-clause-text : goal.returns-clause-text
returns-clause-text c rest at is =
    let line = c.args.line.now in
    let seen = c.between.ensures ∙ cut_rest c.args.text.now rest c.args.after at is in
    let now = c.as_str.ensures.value ∙ (c.in_ok-push_str.ensures {u = tt}).bytes
    ∙ ap (λ (l : List ℕ). l ++ line) (c.in_ok-now.ensures {u = tt}).ok
    ∙ c.newline_like.ensures line
    ∙ ap (λ (l : List ℕ). line_end (end_like l) line) seen in
    IfOk-weaker c.with_text.result _ _
    (λ s e. e ∙ ap (λ (l : List ℕ). with_splice c.args.text.now (put_before rest l)) now)
    (c.with_text.ensures.text rest at is)
