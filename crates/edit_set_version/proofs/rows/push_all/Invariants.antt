use Rattle.std.proofs.Common.{◌≡◌, ◌++◌, map}
use Rattle.edit_set_version.specs.LineViews.{line_view}
use Rattle.edit_set_version.proofs.rows.push_all.Given as goal

abbrev pub invariant-list : goal.invariant-list
invariant-list l = record {
  lines_are : map line_view l.lines.items ≡ map line_view l.initial.lines.items ++ map line_view l.yielded;
  rest : l.yielded ++ l.line-iterator.rest.items ≡ l.fn.list.items;
}
