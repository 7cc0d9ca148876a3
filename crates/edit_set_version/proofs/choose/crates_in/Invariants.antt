use Rattle.std.proofs.Common.{◌≡◌, take}
use Rattle.std.specs.List.{filter}
use Rattle.edit_set_version.specs.Crates.{members_of}
use Rattle.edit_set_version.specs.SelectedNames.{is_in}
use Rattle.edit_set_version.proofs.choose.crates_in.Given as goal

abbrev pub invariant-crates : goal.invariant-crates
invariant-crates l = members_of l.list.items
    ≡ filter (is_in l.part l.wanted) (members_of (take l.found-index l.crates))
