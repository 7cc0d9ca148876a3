use Rattle.std.proofs.Common.{◌≡◌, map, take}
use Rattle.std.specs.Prelude.{All}
use Rattle.edit_set_version.specs.Dependents.{HasRaisedText, numbered_dependent_view}
use Rattle.edit_set_version.specs.LineViews.{line_lists_view, owner_view, with_updates}
use Rattle.edit_set_version.proofs.bump_lines.push_updates.Given as goal

abbrev pub invariant-dependents : goal.invariant-dependents
invariant-dependents l = All HasRaisedText l.dependents → line_lists_view l.lists.items
    ≡ with_updates (owner_view l.owner) (map numbered_dependent_view (take l.dependent-index l.dependents)) 0
    (line_lists_view l.initial.lists.items)
