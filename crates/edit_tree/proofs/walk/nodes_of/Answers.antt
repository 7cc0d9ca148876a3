use Rattle.std.proofs.Common.{List, ap, sym, subst}
use Rattle.std.proofs.lemmas.List.{drop_all}
use Rattle.edit_tree.specs.declared.nodes.Node.{Node}
use Rattle.edit_tree.specs.Walk.{start, state_after}
use Rattle.edit_tree.specs.WalkState.{KeepsState}
use Rattle.edit_tree.proofs.WalkEnds.{Along, along_start, along_end, turn_on, turn_off}
use Rattle.edit_tree.proofs.walk.nodes_of.Goals as goal

pub tokens-init : goal.tokens-init
tokens-init c are_tokens = along_start c.in_ok-walk.walk c.args.text.now c.args.tokens.now
    ((c.in_ok-walk.ensures {u = tt}).root c.args.text.now)

pub tokens-preserved : goal.tokens-preserved
tokens-preserved c are_tokens =
    turn_on c.tokens.walk c.process_token.new.self c.args.text.now c.args.tokens.now c.tokens.token-index _
    c.in_ok-process_token.field-0 c.tokens-test.true are_tokens c.if-not-branch.false (c.in_ok-process_token.ensures {u = tt}).goes
    (c.tokens.invariant are_tokens)

pub returns-then-not-branch-clause-nodes : goal.returns-then-not-branch-clause-nodes
returns-then-not-branch-clause-nodes c are_tokens other =
    turn_off c.tokens.walk c.process_token.new.self c.args.text.now c.args.tokens.now c.tokens.token-index _
    c.in_ok-process_token.field-0 c.tokens-test.true are_tokens c.if-not-branch.true (c.in_ok-process_token.ensures {u = tt}).goes
    (c.tokens.invariant are_tokens)

pub returns-clause-nodes : goal.returns-clause-nodes
returns-clause-nodes c are_tokens =
    let text = c.args.text.now in
    let tokens = c.args.tokens.now in
    let a = subst (Along c.tokens.walk text tokens) (drop_all c.tokens.token-index tokens c.tokens-test.false)
    (c.tokens.invariant are_tokens) in
    subst (λ (ns : List Node). KeepsState text ns (state_after text tokens start))
    (sym (ap (λ v. v.items) c.into_nodes.ensures)) (along_end c.tokens.walk text tokens a)
