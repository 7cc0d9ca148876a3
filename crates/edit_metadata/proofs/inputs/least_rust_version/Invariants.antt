use Rattle.std.proofs.Common.{◌≡◌, option_map, take}
use Rattle.edit_version.specs.RustVersions.{numbers_of}
use Rattle.edit_metadata.specs.Inputs.{least}
use Rattle.edit_metadata.specs.Workspaces.{packages_view}
use Rattle.edit_metadata.proofs.InputLemmas.{member_versions}
use Rattle.edit_metadata.proofs.inputs.least_rust_version.Given as goal

abbrev pub invariant-packages : goal.invariant-packages
invariant-packages l =
    option_map numbers_of l.found ≡ least (member_versions (packages_view (take l.package-index l.packages)))
