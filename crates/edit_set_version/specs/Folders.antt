-- Folders, as lists of names from the innermost up to the root (own, after the rules of paths of
-- cargo-edit).
use Rattle.std.specs.Prelude.{ℕ, List, [], ◌∷◌, Bool, true, false, ◌||◌, ◌&&◌, codes, nat_eq, if◌then◌else◌}
use Rattle.std.specs.List.{starts_with}
use Rattle.edit_tree.specs.Assertions.{same_bytes}
use Rattle.edit_base.specs.Paths.{parts_of}

-- a folder
abbrev pub Folder : Type 0
Folder = List (List ℕ)

-- the parent folder; the root is its own parent
abbrev pub parent_folder : Folder → Folder
parent_folder [] = []
parent_folder (name ∷ names) = names

-- the folder after one component of a path: empty components and `.` are skipped, `..` is the parent
abbrev pub folder_after : Folder → List ℕ → Folder
folder_after folder part =
    if same_bytes part [] || same_bytes part (codes ".") then folder
    else (if same_bytes part (codes "..") then parent_folder folder else part ∷ folder)

-- the folder after the components of a path
abbrev pub folder_along : Folder → List (List ℕ) → Folder
folder_along folder [] = folder
folder_along folder (part ∷ rest) = folder_along (folder_after folder part) rest

-- the folder that an absolute path names
abbrev pub folder_at_path : List ℕ → Folder
folder_at_path path = folder_along [] (parts_of path)

-- the folder of a file at an absolute path
abbrev pub folder_of : List ℕ → Folder
folder_of path = parent_folder (folder_at_path path)

-- the normalized folder of a path, relative to the folder of a file
abbrev pub resolve_folder : List ℕ → List ℕ → Folder
resolve_folder file path =
    if starts_with nat_eq path (codes "/") then folder_at_path path
    else folder_along (folder_of file) (parts_of path)

-- the two folders are equal
abbrev pub same_folder : Folder → Folder → Bool
same_folder [] [] = true
same_folder [] (n ∷ ns) = false
same_folder (m ∷ ms) [] = false
same_folder (m ∷ ms) (n ∷ ns) = same_bytes m n && same_folder ms ns
