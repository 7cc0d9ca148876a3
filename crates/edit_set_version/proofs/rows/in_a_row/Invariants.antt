use Rattle.std.proofs.Common.{◌≡◌, ◌++◌, map}
use Rattle.std.specs.Prelude.{option_to_list}
use Rattle.std.specs.List.{flat_map}
use Rattle.edit_set_version.specs.LineViews.{line_lists_view, line_view}
use Rattle.edit_set_version.proofs.rows.in_a_row.Given as goal

abbrev pub invariant-lists : goal.invariant-lists
invariant-lists l = record {
  lines_are : map line_view l.lines.items
      ≡ map line_view (option_to_list l.fn.first) ++ flat_map (λ x. x) (line_lists_view l.yielded);
  rest : l.yielded ++ l.list-iterator.rest.items ≡ l.fn.lists.items;
}
