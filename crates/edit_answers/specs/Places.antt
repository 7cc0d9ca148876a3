-- The paths of the files of a fetch.
use Rattle.std.specs.Prelude.{ℕ, List, ◌∷◌, ◌++◌, if◌then◌else◌, codes}
use Rattle.std.specs.Str.{bytes_eq}
use Rattle.std.specs.Fmt.{decimal}
use Rattle.edit_sources.specs.Folders.{registry_folder}
use Rattle.edit_lookups.specs.Lookups.{LookupText}

-- the path of the body that a transfer wrote
abbrev pub body_path : List ℕ → ℕ → List ℕ
body_path room number = room ++ 47 ∷ decimal number

-- the path of the file in which curl saved the ETag of a response, given the path of its body
abbrev pub etag_path : List ℕ → List ℕ
etag_path body = body ++ codes ".etag"

-- the path of the list of the entries that are available to the upgrade
abbrev pub list_path : List ℕ → List ℕ
list_path room = room ++ codes "/index"

-- the path of an entry below the folder of an index: in the folder of its registry
abbrev pub index_path : LookupText → List ℕ
index_path l = registry_folder l.address ++ 47 ∷ l.path

-- the path of an entry below the folder of a registry on this machine
abbrev pub local_path : List ℕ → List ℕ → List ℕ
local_path folder path = if bytes_eq folder (codes "/") then 47 ∷ path else folder ++ 47 ∷ path
