use Rattle.std.proofs.Common.{◌≡◌, Bool, ◌&&◌, length, map, ◌-◌, take, drop, sym, ap, ◌∙◌, arith}
use Rattle.std.proofs.lemmas.Result.{err_from_is_err_and, MatchResult-weaker}
use Rattle.edit_tree.specs.Assertions.{key}
use Rattle.edit_tree.specs.EditBytes.{is_within}
use Rattle.edit_document.specs.Items.{place_view}
use Rattle.edit_rewrite.proofs.SlotSteps.{first_said, within_turn, keeps_memory}
use Rattle.edit_rewrite.proofs.inside.+is_named.Goals as goal

pub returns-in_err-is_step : goal.returns-in_err-is_step
returns-in_err-is_step t c ns h =
    let p = err_from_is_err_and c.from_residual.result c.from_residual.ensures.1 in
    let f = first_said c.args.text.now c.args.tokens.now ns
    (omega (arith, c.in-len1-up-tokens.len_at_least)) h in
    keeps_memory c.from_residual.result c.in_err-is_step.field-0.0 p.0
    (λ b. b ≡ is_within (place_view c.args.steps.now) (map key ns)) p.1 p.2
    (c.in_err-is_step.ensures {u = tt} f.name (f.said _))

pub returns-then-branch : goal.returns-then-branch
returns-then-branch t c ns h =
    let f = first_said c.args.text.now c.args.tokens.now ns
    (omega (arith, c.in-len1-up-tokens.len_at_least)) h in
    let turned = within_turn c.args.steps.now c.step-item.result f.name f.others ns
    (omega (arith, c.in-len1-up.len_at_least)) c.step-item.is f.is in
    let here = c.in_ok-is_step.ensures {u = tt} f.name (f.said _) in
    MatchResult-weaker c.is_named.result (c.is_named.ensures f.others f.others_said)
    (λ b k. k ∙ ap (λ (x : Bool). x && is_within
    (place_view (take (length c.args.steps.now - 1) (drop 1 c.args.steps.now))) (map key f.others))
    (sym c.if-branch.true ∙ here) ∙ sym turned) (λ d k. k)

pub returns-else-branch : goal.returns-else-branch
returns-else-branch t c ns h =
    let f = first_said c.args.text.now c.args.tokens.now ns
    (omega (arith, c.in-len1-up-tokens.len_at_least)) h in
    let turned = within_turn c.args.steps.now c.step-item.result f.name f.others ns
    (omega (arith, c.in-len1-up.len_at_least)) c.step-item.is f.is in
    let here = c.in_ok-is_step.ensures {u = tt} f.name (f.said _) in
    ap (λ (x : Bool). x && is_within
    (place_view (take (length c.args.steps.now - 1) (drop 1 c.args.steps.now))) (map key f.others))
    (sym c.if-branch.false ∙ here) ∙ sym turned
