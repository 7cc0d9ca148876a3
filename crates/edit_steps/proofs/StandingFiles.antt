-- The configuration files that are found exist.
use Rattle.std.proofs.Common.{◌≡◌, ◌++◌, ◌∷◌, [], ℕ, List, Some}
use Rattle.std.specs.Prelude.{All}
use Rattle.std.proofs.lemmas.List.Elements.{All-append, All-nil, All-push}
use Rattle.edit_sources.specs.ConfigurationFiles.{AreFilesIn, start_in}
use Rattle.edit_sources.specs.ConfigurationFiles.AreFilesIn.{none, more}
use Rattle.edit_sources.specs.Following.{Follows}
use Rattle.edit_sources.specs.Following.Follows.{begin, skip, read}
use Rattle.edit_sources.specs.Includes.{Include}
use Rattle.edit_store.specs.Store.{Files}
use Rattle.edit_steps.specs.Named.{PathAndBytes}

-- a file with its bytes, as it stands
abbrev pub Stands : Files → PathAndBytes → Type 0
Stands files file = files file.0 ≡ Some file.1

follows_stand : (files : Files) (start : List ℕ) (pending : List Include) (found : List PathAndBytes)
    → Follows files start pending found → All (Stands files) found
follows_stand files start pending found begin = All-nil (Stands files)
follows_stand files start pending found (skip rest next before follows optional gone) =
    follows_stand files start (rest ++ next ∷ []) before follows
follows_stand files start pending found (read rest includes next before bytes follows apart stands says) =
    All-push (Stands files) before (next.path, bytes)
    (follows_stand files start (rest ++ next ∷ []) before follows) stands

pub all_stand : (files : Files) (places : List (List ℕ)) (found : List PathAndBytes)
    → AreFilesIn files places found → All (Stands files) found
all_stand files places found none = All-nil (Stands files)
all_stand files places found (more place rest own later follows behind) =
    All-append (Stands files) own later (follows_stand files (start_in files place) [] own follows)
    (all_stand files rest later behind)
