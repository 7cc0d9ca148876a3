use Rattle.std.proofs.Common.{arith}
use Rattle.edit_shown.proofs.RequirementLineLemmas.{front_is, line_after, line_fits}
use Rattle.edit_shown.proofs.annotations.lines.line_from.Goals as goal

pub overflow_add-result : goal.overflow_add-result
overflow_add-result c =
    let line = line_after c.args.bytes.now _ c.args.from.line c.args.from.at c.args.at c.min-2.result
    c.count_line_feeds.result c.requires.before c.requires.line
    (front_is c.args.bytes.now c.min.result c.args.at c.min.ensures) c.min-2.ensures c.count_line_feeds.ensures in
    omega (arith, line, line_fits c.args.bytes.now c.args.at)

pub returns : goal.returns
returns c =
    line_after c.args.bytes.now _ c.args.from.line c.args.from.at c.args.at c.min-2.result
    c.count_line_feeds.result c.requires.before c.requires.line
    (front_is c.args.bytes.now c.min.result c.args.at c.min.ensures) c.min-2.ensures c.count_line_feeds.ensures
