use Rattle.std.proofs.Common.{◌≡◌, List, ℕ, map, take}
use Rattle.std.specs.BTreeSet.{contains_text}
use Rattle.std.specs.List.{list_any}
use Rattle.std.specs.Str.{bytes_eq}
use Rattle.edit_upgrade.specs.Lines.{line_of}
use Rattle.edit_upgrade.specs.Lists.{changed_names}
use Rattle.edit_upgrade.proofs.lists.changed_set.Given as goal

abbrev pub invariant-rows : goal.invariant-rows
invariant-rows l = (name : List ℕ)
    → contains_text l.names name
    ≡ list_any (bytes_eq name) (changed_names (map line_of (take l.row-index l.rows)))
