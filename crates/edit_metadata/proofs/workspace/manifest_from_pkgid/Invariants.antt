use Rattle.std.proofs.Common.{◌≡◌, None, take}
use Rattle.std.specs.Prelude.{find}
use Rattle.edit_metadata.specs.Workspaces.{is_member_named}
use Rattle.edit_metadata.proofs.workspace.manifest_from_pkgid.Given as goal

abbrev pub invariant-packages : goal.invariant-packages
invariant-packages l = find (is_member_named l.name) (take l.package-index l.workspace.packages.items) ≡ None
