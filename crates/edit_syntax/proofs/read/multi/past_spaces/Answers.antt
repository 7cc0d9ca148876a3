use Rattle.std.proofs.Common.{◌≡◌, ◌+◌, ◌-◌, true, false, sym, ◌∙◌, Some, None, length, arith}
use Rattle.edit_syntax.specs.Reading.{begins_space, space_at}
use Rattle.edit_syntax.proofs.Loops.{rest_of, one_less}
use Rattle.edit_syntax.proofs.MultiLoops.{spaces_end, spaces_turn, spaces_stop, spaces_none}
use Rattle.edit_syntax.proofs.read.multi.past_spaces.Goals as goal

pub spaces-preserved : goal.spaces-preserved
spaces-preserved c =
    let here : begins_space c.spaces.rest.now ≡ true = sym c.begins_space.ensures ∙
    c.if-not-begins_space.false in
    let k = one_less (length c.args.s.now + 1) c.spaces._space c.spaces-test.true in
    let some : Some c.in_ok-rest.rest.now ≡ rest_of (space_at c.spaces.rest.now) = c.in_ok-rest.ensures in
    sym (spaces_turn _ c.spaces.rest.now c.in_ok-rest.rest.now here some) ∙ (rw k at c.spaces.invariant)

pub returns-then-not-begins_space : goal.returns-then-not-begins_space
returns-then-not-begins_space c =
    let other : begins_space c.spaces.rest.now ≡ false = sym c.begins_space.ensures ∙
    c.if-not-begins_space.true in
    let k = one_less (length c.args.s.now + 1) c.spaces._space c.spaces-test.true in
    sym (spaces_end _ c.spaces.rest.now other) ∙ (rw k at c.spaces.invariant)

pub returns-in_err-rest : goal.returns-in_err-rest
returns-in_err-rest c =
    let here : begins_space c.spaces.rest.now ≡ true = sym c.begins_space.ensures ∙
    c.if-not-begins_space.false in
    let k = one_less (length c.args.s.now + 1) c.spaces._space c.spaces-test.true in
    let none : None ≡ rest_of (space_at c.spaces.rest.now) = c.in_err-rest.ensures {u = tt} in
    rw c.from_residual.ensures (sym (spaces_stop _ c.spaces.rest.now here none) ∙
    (rw k at c.spaces.invariant))

pub returns : goal.returns
returns c =
    let k : (length c.args.s.now + 1) - c.spaces._space ≡ 0 = omega arith in
    sym (spaces_none c.spaces.rest.now) ∙ (rw k at c.spaces.invariant)
