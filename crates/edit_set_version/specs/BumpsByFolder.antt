-- The first bump of the crate in a folder, and the map that finds it (own).
use Rattle.std.specs.Prelude.{◌≡◌, ℕ, suc, List, [], ◌∷◌, Option, Some, None, String, if◌then◌else◌, option_map}
use Rattle.std.specs.BTreeMap.{get_by_text}
use Rattle.std.specs.declared.alloc.Global.{Global}
use Rattle.std.specs.declared.collections.BTreeMap.{BTreeMap}
use Rattle.semver.specs.Identifiers.{parts_of}
use Rattle.semver.specs.Parse.{Parts}
use Rattle.edit_set_version.specs.FolderTexts.{folder_text}
use Rattle.edit_set_version.specs.Folders.{Folder, folder_of, folder_at_path, same_folder}
use Rattle.edit_set_version.specs.SetVersioned.{Bump}
use Rattle.edit_set_version.specs.declared.numbers.Numbered.{Numbered}

-- the index of the first bump of the crate in a folder, and its next version
abbrev pub first_in : List Bump → Folder → Option (ℕ × Parts)
first_in [] folder = None
first_in (b ∷ bs) folder =
    if same_folder (folder_of b.member.path) folder then Some (0, b.next)
    else option_map (λ n. (suc n.0, n.1)) (first_in bs folder)

-- an index and a next version, from the program's type
abbrev pub numbered_view : Numbered → ℕ × Parts
numbered_view n = (n.number, parts_of n.next.now)

-- the value of a map at the text of a folder
abbrev pub numbered_at : BTreeMap (String Global) Numbered Global → Folder → Option (ℕ × Parts)
numbered_at numbers folder = option_map numbered_view (get_by_text numbers (folder_text folder))

-- the map finds the first bump of the crate in each folder that a path names
abbrev pub HasFirstBumps : List Bump → BTreeMap (String Global) Numbered Global → Type 0
HasFirstBumps bs numbers = (path : List ℕ)
    → numbered_at numbers (folder_at_path path) ≡ first_in bs (folder_at_path path)
