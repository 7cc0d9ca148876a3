use Rattle.std.proofs.Common.{◌≡◌, ℕ, List, ◌∷◌, ◌++◌, ap, ◌∙◌, append_assoc}
use Rattle.std.specs.Prelude.{codes}
use Rattle.std.proofs.lemmas.Result.{IfOk-weaker}
use Rattle.edit_tree.specs.EditBytes.{put_before, with_splice}
use Rattle.edit_rewrite.specs.StatementOffsets.{section_text}
use Rattle.edit_rewrite.proofs.splices.with_section.Goals as goal

-- a header and a line, piece by piece
joined : (name line : List ℕ) → (((codes "[" ++ name) ++ codes "]\n") ++ line) ++ codes "\n"
    ≡ section_text name line
joined name line =
    ap (λ (l : List ℕ). 91 ∷ l)
    (append_assoc (name ++ codes "]\n") line (codes "\n") ∙
    append_assoc name (codes "]\n") (line ++ codes "\n"))

pub returns-clause-text : goal.returns-clause-text
returns-clause-text c rest at is =
    let name = c.args.name.now in
    let line = c.args.line.now in
    let now = c.as_str.ensures.value ∙ (c.in_ok-push_str-4.ensures {u = tt}).bytes
    ∙ ap (λ (l : List ℕ). l ++ codes "\n") ((c.in_ok-push_str-3.ensures {u = tt}).bytes
    ∙ ap (λ (l : List ℕ). l ++ line) ((c.in_ok-push_str-2.ensures {u = tt}).bytes
    ∙ ap (λ (l : List ℕ). l ++ codes "]\n") ((c.in_ok-push_str.ensures {u = tt}).bytes
    ∙ ap (λ (l : List ℕ). l ++ name) (c.in_ok-now.ensures {u = tt}).ok)))
    ∙ joined name line in
    IfOk-weaker c.with_text.result _ _
    (λ s e. e ∙ ap (λ (l : List ℕ). with_splice c.args.text.now (put_before rest l)) now)
    (c.with_text.ensures.text rest at is)
