use Rattle.std.proofs.Common.{map, take, string_bytes}
use Rattle.std.specs.List.{AllZip}
use Rattle.edit_metadata.specs.Folders.{IsManifestFolder}
use Rattle.edit_metadata.specs.Workspaces.{member_paths, packages_view}
use Rattle.edit_metadata.proofs.folders.member_folders.Given as goal

abbrev pub invariant-packages : goal.invariant-packages
invariant-packages l = AllZip IsManifestFolder (member_paths
    (packages_view (take l.package-index l.packages))) (map string_bytes l.folders.items)
