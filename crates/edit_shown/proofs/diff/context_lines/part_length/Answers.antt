use Rattle.std.proofs.Common.{◌≡◌, arith, false, rules, true}
use Rattle.edit_shown.proofs.LineKindLemmas.{shown_end, shown_more, shown_none}
use Rattle.edit_shown.specs.ShownLines.{is_shown}
use Rattle.edit_shown.proofs.diff.context_lines.part_length.Goals as goal

pub returns-then-not-is_shown-clause-same : goal.returns-then-not-is_shown-clause-same
returns-then-not-is_shown-clause-same c =
    let is : is_shown c.args.kinds.now c.loop-j.j ≡ false = search rules in
    omega (arith, c.loop-j.invariant, shown_end c.args.kinds.now c.loop-j.j (omega arith) is)

pub loop-j-preserved : goal.loop-j-preserved
loop-j-preserved c =
    let is : is_shown c.args.kinds.now c.loop-j.j ≡ true = search rules in
    omega (
      arith,
      c.loop-j.invariant,
      c.loop-j.auto.j,
      shown_more c.args.kinds.now c.loop-j.j (omega arith) is,
    )

pub returns-clause-same : goal.returns-clause-same
returns-clause-same c =
    omega (
      arith,
      c.requires,
      c.loop-j.invariant,
      c.loop-j.auto.j-end,
      shown_none c.args.kinds.now c.loop-j.j (omega arith),
    )
