use Rattle.std.proofs.Common.{◌≡◌, cond, drop}
use Rattle.edit_syntax.specs.Numbers.{are_digits, are_more_digits}
use Rattle.edit_syntax.specs.AppendedTokens.{class_test}
use Rattle.edit_syntax.proofs.read.numbers.are_digits.Given as goal

-- the remaining bytes decide the result for all
abbrev pub invariant-loop-b : goal.invariant-loop-b
invariant-loop-b l = are_digits (class_test l.class) l.s
    ≡ cond l.wanted (are_digits (class_test l.class) (drop l.b-index l.s))
    (are_more_digits (class_test l.class) (drop l.b-index l.s))
