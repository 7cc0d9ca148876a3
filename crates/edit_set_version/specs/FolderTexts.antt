-- Folders as texts: absolute paths (own).
use Rattle.std.specs.Prelude.{ℕ, List, reverse}
use Rattle.edit_base.specs.Paths.{absolute}
use Rattle.edit_set_version.specs.Folders.{Folder}

-- the absolute path of a folder
abbrev pub folder_text : Folder → List ℕ
folder_text folder = absolute (reverse folder)
