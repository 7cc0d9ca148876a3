use Rattle.std.proofs.Common.{◌≡◌, ◌∷◌, [], map, take}
use Rattle.edit_set_version.specs.Crates.{bumps_view}
use Rattle.edit_set_version.specs.LineViews.{bump_line_view, line_lists_view}
use Rattle.edit_set_version.proofs.bump_lines.bump_lists.Given as goal

abbrev pub invariant-bumps : goal.invariant-bumps
invariant-bumps l = line_lists_view l.lists.items
    ≡ map (λ b. bump_line_view b ∷ []) (bumps_view (take l.bump-index l.bumps))
