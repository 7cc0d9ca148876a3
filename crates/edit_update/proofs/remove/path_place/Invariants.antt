use Rattle.std.proofs.Common.{◌≡◌, take, map}
use Rattle.std.specs.Prelude.{string_bytes}
use Rattle.edit_document.specs.Items.{place_view}
use Rattle.edit_manifest.specs.Tables.{place_of_keys}
use Rattle.edit_update.proofs.remove.path_place.Given as goal

abbrev pub invariant-steps : goal.invariant-steps
invariant-steps l = place_view l.place.items ≡ place_of_keys (map string_bytes (take l.step-index l.table_path))
