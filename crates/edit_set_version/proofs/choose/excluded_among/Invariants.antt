use Rattle.std.proofs.Common.{◌≡◌, take}
use Rattle.std.specs.List.{filter}
use Rattle.edit_set_version.specs.Chosen.{is_among}
use Rattle.edit_set_version.specs.Crates.{members_of}
use Rattle.edit_set_version.specs.Selections.{selection_view}
use Rattle.edit_set_version.proofs.choose.excluded_among.Given as goal

abbrev pub invariant-crates : goal.invariant-crates
invariant-crates l = members_of l.list.items
    ≡ filter (λ m. is_among (selection_view l.selection).exclude m.name) (members_of (take l.found-index l.crates))
