use Rattle.std.proofs.Common.{◌≡◌, true, option_map, take}
use Rattle.std.specs.Prelude.{All}
use Rattle.std.specs.List.{AllZip}
use Rattle.edit_store.specs.Store.{OnlyReads}
use Rattle.edit_version.specs.RustVersions.{numbers_of}
use Rattle.edit_metadata.specs.Inputs.{HasFile, IsInputOf, IsReadFrom, member_manifests}
use Rattle.edit_metadata.specs.Workspaces.{packages_view}
use Rattle.edit_metadata.proofs.inputs.member_inputs.Given as goal

abbrev pub invariant-packages : goal.invariant-packages
invariant-packages g l = record {
  store : OnlyReads (g.S.Store.view l.initial.store) (g.S.Store.view l.store);
  inputs : AllZip (IsInputOf (record { given = option_map numbers_of l.given; ignored = l.ignore }))
      (member_manifests (packages_view (take l.package-index l.packages))) l.inputs.items;
  bytes : (g.S.Store.view l.initial.store).tells ≡ true
      → All (IsReadFrom (g.S.Store.view l.initial.store).file_at) l.inputs.items;
  files : (g.S.Store.view l.initial.store).tells ≡ true
      → All (HasFile (g.S.Store.view l.initial.store).file_at)
      (member_manifests (packages_view (take l.package-index l.packages)));
}
