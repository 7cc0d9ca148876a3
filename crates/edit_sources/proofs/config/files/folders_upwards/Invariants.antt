use Rattle.std.proofs.Common.{◌<◌, length}
use Rattle.std.specs.Str.{IsUtf8}
use Rattle.edit_base.specs.Paths.{IsFolderOf, texts}
use Rattle.edit_store.specs.Climbs.{Climbs}
use Rattle.edit_sources.proofs.FolderLemmas.{height}
use Rattle.edit_sources.proofs.config.files.folders_upwards.Given as goal

abbrev pub invariant-loop-folders : goal.invariant-loop-folders
invariant-loop-folders l = IsFolderOf l.path l.initial.here × (0 < length l.here)
    × Climbs l.initial.here (texts l.folders.items) l.here × IsUtf8 l.here

abbrev pub decreases-loop-folders : goal.decreases-loop-folders
decreases-loop-folders l = height l.here
