use Rattle.std.proofs.Common.{map, take}
use Rattle.std.specs.List.{AllZip}
use Rattle.edit_metadata.specs.Metadata.{IsPackageValue}
use Rattle.edit_metadata.specs.Reading.{holds}
use Rattle.edit_metadata.specs.Workspaces.{package_view}
use Rattle.serde_json.specs.View.{view}
use Rattle.edit_metadata.proofs.packages.read_packages.Given as goal

abbrev pub invariant-values : goal.invariant-values
invariant-values l = AllZip (IsPackageValue (holds l.ids)) (map view (take l.value-index l.values))
    (map package_view l.packages.items)
