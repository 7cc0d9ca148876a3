use Rattle.std.proofs.Common.{◌≡◌, ℕ, eqb, List, ◌∷◌, length, sym, subst, ap, ◌∙◌}
use Rattle.std.specs.Prelude.{string_bytes}
use Rattle.std.proofs.lemmas.Result.{err_from_is_err_and, MatchResult-from_both, IfOk-weaker}
use Rattle.edit_syntax.specs.Characters.{right_brace}
use Rattle.edit_syntax.specs.Grammar.{Members, inline}
use Rattle.edit_syntax.specs.Reading.{first, past_gap}
use Rattle.edit_tree.specs.EditBytes.{Splice, with_splice, behind_last, inline_grown}
use Rattle.edit_tree.specs.SlotTexts.{TableAt}
use Rattle.edit_rewrite.proofs.GrownInline.{none_there, full_row}
use Rattle.edit_rewrite.proofs.InlineSuffixes.{inline_suffixes}
use Rattle.edit_rewrite.proofs.SlotSteps.{keeps_memory}
use Rattle.edit_rewrite.proofs.inline.with_member_in.Goals as goal

pub returns-then-begins : goal.returns-then-begins
returns-then-begins c g ms after s h is =
    let text = c.args.text.now in
    let table = c.args.table.now in
    let at = c.past_gap.ensures ∙ ap past_gap c.behind_one.ensures in
    let none = none_there text table g ms after h
    (ap (λ (x : List ℕ). eqb (first x) right_brace) (sym at) ∙ sym c.begins.ensures ∙ c.if-begins.true) in
    MatchResult-from_both c.with_first_member.result _ _
    (c.with_first_member.ensures.text g after s (subst (λ (x : Members). TableAt text table g x after) none h)
    (ap (λ (x : Members). inline_grown c.args.member.now (inline g x) after) (sym none) ∙ is))
    c.with_first_member.ensures.error

pub returns-in_err-last : goal.returns-in_err-last
returns-in_err-last c g ms after s h is =
    let p = err_from_is_err_and c.from_residual.result c.from_residual.ensures.1 in
    keeps_memory c.from_residual.result c.in_err-last.field-0.0 p.0
    (λ t. string_bytes t ≡ with_splice c.args.text.now s) p.1 p.2
    (c.in_err-last.ensures {u = tt} g ms after h)

pub returns : goal.returns
returns c g ms after s h is =
    let text = c.args.text.now in
    let table = c.args.table.now in
    let at = c.past_gap.ensures ∙ ap past_gap c.behind_one.ensures in
    let row = full_row c.args.member.now text table g ms after s h
    (ap (λ (x : List ℕ). eqb (first x) right_brace) (sym at) ∙ sym c.begins.ensures ∙ c.if-begins.false) is in
    let last = c.in_ok-last.ensures {u = tt} g ms after h in
    MatchResult-from_both c.with_lead.result _ _
    (IfOk-weaker c.with_lead.result _ _ (λ t e. e ∙ ap (λ (x : Splice). with_splice text x) (sym row))
    (c.with_lead.ensures.text (behind_last ms (right_brace ∷ after))
    (inline_suffixes text table g ms after c.utf8.text h).last (ap length last)))
    c.with_lead.ensures.error
