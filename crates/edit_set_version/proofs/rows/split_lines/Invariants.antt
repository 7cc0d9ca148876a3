use Rattle.std.proofs.Common.{◌≡◌, ◌++◌, map}
use Rattle.edit_set_version.specs.LineViews.{change_view, line_view, report_line_view}
use Rattle.edit_set_version.proofs.rows.split_lines.Given as goal

abbrev pub invariant-lines : goal.invariant-lines
invariant-lines l = record {
  texts_are : map report_line_view l.split.texts.items ≡ map (λ x. x.0) (map line_view l.yielded);
  changes_are : map change_view l.split.changes.items ≡ map (λ x. x.1) (map line_view l.yielded);
  rest : l.yielded ++ l.line-iterator.rest.items ≡ l.fn.lines.items;
}
