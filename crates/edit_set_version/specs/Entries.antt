-- The entries of a manifest's dependency tables, and the folders that their paths name (Cargo reference,
-- "Specifying Dependencies", Specifying path dependencies).
use Rattle.std.specs.Prelude.{ℕ, List, map, Option, None, if◌then◌else◌, codes, option_map, option_and_then}
use Rattle.std.specs.List.{flat_map}
use Rattle.edit_tree.specs.Assertions.{Place, key, at}
use Rattle.edit_document.specs.Items.{string_in}
use Rattle.edit_manifest.specs.Tables.{Tree, dependency_tables, is_table_like, member_names}
use Rattle.edit_manifest.specs.Versions.{version_member}
use Rattle.edit_set_version.specs.Folders.{Folder, resolve_folder}

-- the entries of a table, in the order of their keys
abbrev pub entries_in : Tree → Place → List Place
entries_in t table = map (λ name. at table (key name)) (member_names (t table))

-- the entries of a manifest, table by table
abbrev pub entries : Tree → List Place
entries t = flat_map (entries_in t) (dependency_tables t)

-- the string at a place
abbrev pub text_at : Tree → Place → Option (List ℕ)
text_at t place = option_and_then string_in (t place)

-- the `version` string of an entry that is a table
abbrev pub requirement : Tree → Place → Option (List ℕ)
requirement t place = if is_table_like (t place) then text_at t (version_member place) else None

-- the place of the `path` key of an entry
abbrev pub path_member : Place → Place
path_member place = at place (key (codes "path"))

-- the folder that the path of an entry names, in the manifest at a path
abbrev pub target_folder : List ℕ → Tree → Place → Option Folder
target_folder file t place = option_map (resolve_folder file) (text_at t (path_member place))
