use Rattle.std.proofs.Common.{ℕ, List, ◌++◌, ap, ◌∙◌, append_assoc}
use Rattle.std.specs.Prelude.{codes}
use Rattle.std.proofs.lemmas.Result.{IfOk-weaker}
use Rattle.edit_rewrite.specs.declared.locate.Entry.{Entry}
use Rattle.edit_tree.specs.EditBytes.{new_line, with_splice}
use Rattle.edit_rewrite.specs.StatementOffsets.{key_to}
use Rattle.edit_rewrite.proofs.insert.with_dotted.Goals as goal

pub returns-clause-text : goal.returns-clause-text
returns-clause-text c place s suffix h e f =
    let pair = c.args.pair.now in
    let line = c.as_str.ensures.value ∙ (c.in_ok-push_str-2.ensures {u = tt}).bytes
    ∙ ap (λ (l : List ℕ). l ++ pair) ((c.in_ok-push_str.ensures {u = tt}).bytes
    ∙ ap (λ (l : List ℕ). l ++ codes ".") ((c.in_ok-line.ensures {u = tt}).ok ∙
    c.name_of.ensures place s suffix h e f))
    ∙ append_assoc (key_to s suffix) (codes ".") pair in
    IfOk-weaker c.with_line.result _ _
    (λ t is. is ∙ ap (λ (l : List ℕ). with_splice c.args.text.now (new_line s.after l)) line)
    (c.with_line.ensures.text s.after h.after (ap (λ (x : Entry). x.after) e))
