use Rattle.std.proofs.Common.{Option, sym, subst}
use Rattle.std.specs.Prelude.{IfOk}
use Rattle.edit_syntax.specs.declared.read.syntax_tokens.TokenKind.TheVariants as kinds
use Rattle.edit_tree.specs.Nodes.{shape_of}
use Rattle.edit_tree.specs.Walk.{State}
use Rattle.edit_tree.specs.WalkState.{HasNextState}
use Rattle.edit_tree.proofs.WalkEnds.{step_is, goes_named, value_step, close_step}
use Rattle.edit_tree.proofs.walk.Walk.process_token.Goals as goal

pub returns-in_ok-push_key_part-in-BarePart-clause-goes : goal.returns-in_ok-push_key_part-in-BarePart-clause-goes
returns-in_ok-push_key_part-in-BarePart-clause-goes c st w is_token =
    goes_named _ c.args.self.now c.args.text.now c.args.token st c.in_ok-name-in-BarePart.name c.in-BarePart.is
    w is_token (c.in_ok-name-in-BarePart.ensures {u = tt}).says
    ((c.in_ok-push_key_part-in-BarePart.ensures {u = tt}).goes c.args.text.now)

pub returns-in_ok-content-in-BasicString-clause-goes : goal.returns-in_ok-content-in-BasicString-clause-goes
returns-in_ok-content-in-BasicString-clause-goes c st w is_token =
    subst (λ (o : Option State). IfOk c.add_value.result (HasNextState c.args.text.now c.add_value.new.self o))
    (sym (value_step c.args.text.now c.args.token st
    (shape_of c.args.text.now c.in_ok-content-in-BasicString.content) c.in-BasicString.is is_token
    (c.in_ok-content-in-BasicString.ensures {u = tt}).shows)) (c.add_value.ensures.goes st w)

pub returns-in-True-clause-goes : goal.returns-in-True-clause-goes
returns-in-True-clause-goes c st w is_token =
    subst (λ (o : Option State). IfOk c.add_value-in-True.result
    (HasNextState c.args.text.now c.add_value-in-True.new.self o))
    (sym (step_is c.args.text.now c.args.token st kinds.True c.in-True.is)) (c.add_value-in-True.ensures.goes st w)

pub returns-in-False-clause-goes : goal.returns-in-False-clause-goes
returns-in-False-clause-goes c st w is_token =
    subst (λ (o : Option State). IfOk c.add_value-in-False.result
    (HasNextState c.args.text.now c.add_value-in-False.new.self o))
    (sym (step_is c.args.text.now c.args.token st kinds.False c.in-False.is))
    (c.add_value-in-False.ensures.goes st w)

pub returns-in-OpenArray-clause-goes : goal.returns-in-OpenArray-clause-goes
returns-in-OpenArray-clause-goes c st w is_token =
    subst (λ (o : Option State). IfOk c.open.result (HasNextState c.args.text.now c.open.new.self o))
    (sym (step_is c.args.text.now c.args.token st kinds.OpenArray c.in-OpenArray.is))
    (c.open.ensures.goes st w)

pub returns-in-OpenTable-clause-goes : goal.returns-in-OpenTable-clause-goes
returns-in-OpenTable-clause-goes c st w is_token =
    subst (λ (o : Option State). IfOk c.open-in-OpenTable.result
    (HasNextState c.args.text.now c.open-in-OpenTable.new.self o))
    (sym (step_is c.args.text.now c.args.token st kinds.OpenTable c.in-OpenTable.is))
    (c.open-in-OpenTable.ensures.goes st w)

pub returns-in-Header-clause-goes : goal.returns-in-Header-clause-goes
returns-in-Header-clause-goes c st w is_token =
    subst (λ (o : Option State). IfOk c.open_header_table.result (HasNextState c.args.text.now c.open_header_table.new.self o))
    (sym (step_is c.args.text.now c.args.token st kinds.Header c.in-Header.is)) (c.open_header_table.ensures.goes st w)

pub returns-in-ElementHeader-clause-goes : goal.returns-in-ElementHeader-clause-goes
returns-in-ElementHeader-clause-goes c st w is_token =
    subst (λ (o : Option State). IfOk c.open_array_table.result (HasNextState c.args.text.now c.open_array_table.new.self o))
    (sym (step_is c.args.text.now c.args.token st kinds.ElementHeader c.in-ElementHeader.is))
    (c.open_array_table.ensures.goes st w)

pub returns-in-CloseArray-clause-goes : goal.returns-in-CloseArray-clause-goes
returns-in-CloseArray-clause-goes c st w is_token =
    subst (λ (o : Option State). HasNextState c.args.text.now c.close.new.self o c.close.result)
    (sym (close_step c.args.text.now c.args.token st c.in-CloseArray.is))
    (c.close.ensures c.args.text.now st w)
