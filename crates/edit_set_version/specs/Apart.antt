-- Bumped crates whose folders differ.
use Rattle.std.specs.Prelude.{◌≡◌, List, [], ◌∷◌, false}
use Rattle.std.specs.List.{AllByRecursion}
use Rattle.edit_set_version.specs.Folders.{folder_of, same_folder}
use Rattle.edit_set_version.specs.SetVersioned.{Bump}

-- no two bumped crates share a folder
abbrev pub AreApart : List Bump → Type 0
AreApart [] = Unit {0}
AreApart (b ∷ bs) =
    AllByRecursion (λ c. same_folder (folder_of b.member.path) (folder_of c.member.path) ≡ false) bs
    × AreApart bs
