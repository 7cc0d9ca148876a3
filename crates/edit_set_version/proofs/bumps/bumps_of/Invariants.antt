use Rattle.std.proofs.Common.{◌≡◌, take}
use Rattle.std.specs.Prelude.{All}
use Rattle.std.specs.List.{filter_map}
use Rattle.edit_version.specs.Laws.{IsReadable}
use Rattle.edit_set_version.specs.Bumps.{IsReadableTarget, bump, target_of}
use Rattle.edit_set_version.specs.Crates.{bumps_view, members_of}
use Rattle.edit_set_version.specs.Admitted.{AreVersions}
use Rattle.edit_set_version.specs.BumpCauses.{IsBumpable}
use Rattle.edit_set_version.specs.Selections.{selection_view}
use Rattle.edit_set_version.specs.SetVersioned.{bump_of}
use Rattle.edit_set_version.proofs.bumps.bumps_of.Given as goal

abbrev pub invariant-crates : goal.invariant-crates
invariant-crates l = record {
  seen : bumps_view l.bumps.items
      ≡ filter_map (bump_of (target_of l.target) (selection_view l.selection)) (members_of
      (take l.found-index l.crates));
  bumpable : All (λ m. IsBumpable (bump (target_of l.target) (selection_view l.selection).metadata m.version))
      (members_of (take l.found-index l.crates));
  versions : IsReadableTarget (target_of l.target) → All (λ m. IsReadable m.version) (members_of l.crates)
      → AreVersions (bumps_view l.bumps.items);
}
