use Rattle.std.proofs.Common.{arith, length, rules, tests}
use Rattle.std.specs.Str.{is_utf8}
use Rattle.std.proofs.lemmas.Iterator.{YieldsList-from_range}
use Rattle.std.proofs.lemmas.Iterator.Search.{all_from_yields_List}
use Rattle.edit_terminal.specs.Rows as spec
use Rattle.edit_terminal.proofs.LineLemmas.{both_true}
use Rattle.edit_terminal.proofs.rows.is_row.Goals as goal

pub returns-then-not-is_empty : goal.returns-then-not-is_empty
returns-then-not-is_empty c =
    both_true _ _ c.all.result (search (rules, tests))
    (all_from_yields_List (λ i. is_utf8 (spec.cell c.args.starts.now c.args.line.now i)) _ _ c.all.result
    c.all.ensures.ran
    (YieldsList-from_range 0 (length c.args.starts.now) (length c.args.starts.now) (cc) (omega arith))
    (λ x b q k. search (rules, tests)))
