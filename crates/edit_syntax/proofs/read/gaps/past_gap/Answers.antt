use Rattle.std.proofs.Common.{◌≡◌, ◌-◌, sym, ◌∙◌, Some, None, length, arith}
use Rattle.edit_syntax.specs.Reading.{between_at}
use Rattle.edit_syntax.proofs.Loops.{rest_of, gap_turn, gap_stop, gap_none, one_less}
use Rattle.edit_syntax.proofs.read.gaps.past_gap.Goals as goal

pub returns-in_default : goal.returns-in_default
returns-in_default c =
    let k = one_less (length c.args.s.now) c.gap._between c.gap-test.true in
    let none : None ≡ rest_of (between_at c.gap.rest.now) = c.in_default.ensures in
    sym ((rw k at c.gap.invariant) ∙ gap_stop _ c.gap.rest.now none)

pub gap-preserved : goal.gap-preserved
gap-preserved c =
    let k = one_less (length c.args.s.now) c.gap._between c.gap-test.true in
    let some : Some c.in-Some.next.now ≡ rest_of (between_at c.gap.rest.now) = c.in-Some.ensures in
    (rw k at c.gap.invariant) ∙ gap_turn _ c.gap.rest.now c.in-Some.next.now some

pub returns : goal.returns
returns c =
    let k : length c.args.s.now - c.gap._between ≡ 0 = omega arith in
    sym ((rw k at c.gap.invariant) ∙ gap_none c.gap.rest.now)
