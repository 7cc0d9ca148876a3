use Rattle.std.proofs.Common.{sym, ap, ◌∙◌, arith}
use lib.Count.{count_trailing_zeros}
use Rattle.json.specs.Run.{is_plain}
use Rattle.edit_json.proofs.PlainRuns.{run_bound, plain_through, plain_stops}
use Rattle.edit_json.proofs.lexemes.plain_len.Goals as goal

pub returns-then-found-ne0-clause-value : goal.returns-then-found-ne0-clause-value
returns-then-found-ne0-clause-value c =
    let found = c.stops-found in
    let run = plain_stops c.args.text.now c.loop-i.i 16 (omega arith) (omega arith) (omega (arith, found.ensures.mask)) ∙ ap (count_trailing_zeros 64) (sym found.ensures.mask) in
    omega (arith, run, c.loop-i.invariant.0)

pub returns-then-found-ne0-clause-bound : goal.returns-then-found-ne0-clause-bound
returns-then-found-ne0-clause-bound c =
    let found = c.stops-found in
    let run = plain_stops c.args.text.now c.loop-i.i 16 (omega arith) (omega arith) (omega (arith, found.ensures.mask)) ∙ ap (count_trailing_zeros 64) (sym found.ensures.mask) in
    omega (arith, run, run_bound is_plain c.args.text.now c.loop-i.i c.loop-i.invariant.1)

pub loop-i-preserved : goal.loop-i-preserved
loop-i-preserved c =
    let run = plain_through c.args.text.now c.loop-i.i 16 (omega arith) (omega (arith, c.stops-found.ensures.mask)) in
    (omega (arith, run, c.loop-i.invariant.0), omega arith)
