use Rattle.std.proofs.Common.{◌≡◌, map, take}
use Rattle.edit_base.specs.Paths.{texts}
use Rattle.edit_document.specs.Items.{place_view}
use Rattle.edit_tree.specs.Assertions.{key}
use Rattle.edit_policy.proofs.place.place_of.Given as goal

abbrev pub invariant-names : goal.invariant-names
invariant-names l = place_view l.place.items ≡ map key (texts (take l.name-index l.names))
