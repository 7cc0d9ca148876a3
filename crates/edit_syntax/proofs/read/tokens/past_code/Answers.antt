use Rattle.std.proofs.Common.{◌≡◌, take, Some, None, ap, ◌∙◌}
use Rattle.edit_syntax.specs.Reading.{scalar}
use Rattle.edit_syntax.proofs.Codes.{few_coded, none_coded, some_coded}
use Rattle.edit_syntax.proofs.read.tokens.past_code.Goals as goal

pub returns-then-s-n : goal.returns-then-s-n
returns-then-s-n c made = few_coded made c.args.n c.args.s.now c.if-s-n.true

pub returns-in_err-_code : goal.returns-in_err-_code
returns-in_err-_code c made =
    let none : None ≡ scalar (take c.args.n c.args.s.now) = c.in_err-_code.ensures {u = tt} in
    rw c.from_residual.ensures (none_coded made c.args.n c.args.s.now c.if-s-n.false none)

pub returns : goal.returns
returns c made =
    let some : Some c.in_ok-_code._code ≡ scalar (take c.args.n c.args.s.now) =
    c.in_ok-_code.ensures {u = tt} in
    ap Some c.skip.ensures ∙ some_coded made c.args.n c.args.s.now c.in_ok-_code._code c.if-s-n.false some
