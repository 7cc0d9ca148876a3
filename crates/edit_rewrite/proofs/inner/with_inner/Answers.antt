use Rattle.std.proofs.Common.{ℕ, List, ◌++◌, ap, ◌∙◌, append_assoc}
use Rattle.std.specs.Prelude.{codes}
use Rattle.std.proofs.lemmas.Result.{IfOk-weaker}
use Rattle.edit_rewrite.specs.declared.inner.Inner.{Inner}
use Rattle.edit_tree.specs.EditBytes.{before, put_before, with_splice}
use Rattle.edit_rewrite.proofs.InnerRows.{inner_is}
use Rattle.edit_rewrite.proofs.SuffixTexts.{cut_suffixes}
use Rattle.edit_rewrite.proofs.inner.with_inner.Goals as goal

pub returns-clause-text : goal.returns-clause-text
returns-clause-text c place p suffix h f e =
    let text = c.args.text.now in
    let pair = c.args.pair.now in
    let is = inner_is place p suffix c.args.inner f e in
    let name = c.between.ensures
    ∙ cut_suffixes text p.from suffix c.args.inner.from c.args.inner.front h.from h.front.cut
    (h.front.head, h.front.ends)
    (ap (λ (x : Inner). x.from) is) (ap (λ (x : Inner). x.front) is) in
    let member = c.as_str.ensures.value ∙ (c.in_ok-push_str-2.ensures {u = tt}).bytes
    ∙ ap (λ (l : List ℕ). l ++ pair) ((c.in_ok-push_str.ensures {u = tt}).bytes
    ∙ ap (λ (l : List ℕ). l ++ codes ".") ((c.in_ok-member.ensures {u = tt}).ok ∙ name))
    ∙ append_assoc (before p.from suffix) (codes ".") pair in
    IfOk-weaker c.with_lead.result _ _
    (λ t k. k ∙ ap (λ (l : List ℕ). with_splice text (put_before p.behind (codes ", " ++ l))) member)
    (c.with_lead.ensures.text p.behind h.behind (ap (λ (x : Inner). x.behind) is))
