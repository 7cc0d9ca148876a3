use Rattle.std.proofs.Common.{arith}
use Rattle.edit_set_version.specs.LineViews.{line_view}
use Rattle.edit_set_version.proofs.LineLists.{line_past, line_put}
use Rattle.edit_set_version.proofs.bump_lines.push_line.Goals as goal

pub returns-then-number-len : goal.returns-then-number-len
returns-then-number-len c = record {
  ok = line_past c.args.lists.now.items c.args.number (line_view c.args.line)
      (omega (arith, c.if-number-len.true, c.len.ensures));
}

pub returns : goal.returns
returns c = record {
  ok = line_put c.args.lists.now.items c.args.number c.index_mut.result.now c.push.new.self c.args.line
      (omega (arith, c.if-number-len.false, c.len.ensures)) c.index_mut.ensures.value
      c.in_ok-push.ensures.items;
}
