use Rattle.std.proofs.Common.{List, map, take}
use Rattle.std.specs.List.{AllZip}
use Rattle.serde_json.specs.Data.{Data}
use Rattle.edit_metadata.specs.Metadata.{IsPackageValue}
use Rattle.edit_metadata.specs.Reading.{holds}
use Rattle.edit_metadata.specs.Texts.{HasPackageTexts}
use Rattle.edit_metadata.specs.Workspaces.{package_view}
use Rattle.edit_metadata.proofs.from_texts.packages_of.Given as goal

abbrev pub invariant-texts : goal.invariant-texts
invariant-texts l = (ds : List Data) → AllZip HasPackageTexts ds (take l.package-index l.texts)
    → AllZip (IsPackageValue (holds l.ids)) ds (map package_view l.packages.items)
