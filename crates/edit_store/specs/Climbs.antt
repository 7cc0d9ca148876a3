-- Walking up a chain of folders (own).
use Rattle.std.specs.Prelude.{◌≢◌, ℕ, List, [], ◌∷◌, ◌++◌, codes}
use Rattle.edit_base.specs.Paths.{IsFolderOf}

-- walking up from a folder: the folders that are left behind, and the folder that is reached (own)
pub data Climbs (start : List ℕ) : List (List ℕ) → List ℕ → Type 0 where
  begin : Climbs start [] start
  step : (passed : List (List ℕ)) (here above : List ℕ) → Climbs start passed here → here ≢ codes "/"
      → IsFolderOf here above → Climbs start (passed ++ here ∷ []) above
