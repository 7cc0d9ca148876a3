use Rattle.std.proofs.Common.{◌≡◌, ℕ, List, map, take}
use Rattle.std.specs.List.{AllZip}
use Rattle.edit_metadata.specs.Metadata.{IsText, is_listed}
use Rattle.edit_metadata.specs.Reading.{holds}
use Rattle.serde_json.specs.View.{view}
use Rattle.edit_metadata.proofs.packages.read_ids.Given as goal

abbrev pub invariant-values : goal.invariant-values
invariant-values l =
    (ids : List (List ℕ)) × AllZip IsText (map view (take l.value-index l.values)) ids
    × ((id : List ℕ) → holds l.ids id ≡ is_listed ids id)
