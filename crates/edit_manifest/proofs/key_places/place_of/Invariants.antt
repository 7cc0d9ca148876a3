use Rattle.std.proofs.Common.{◌≡◌, take}
use Rattle.edit_base.specs.Paths.{texts}
use Rattle.edit_document.specs.Items.{place_view}
use Rattle.edit_manifest.specs.Tables.{place_of_keys}
use Rattle.edit_manifest.proofs.key_places.place_of.Given as goal

abbrev pub invariant-names : goal.invariant-names
invariant-names l = place_view l.place.items ≡ place_of_keys (texts (take l.name-index l.names))
