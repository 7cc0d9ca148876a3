-- Examples of new entries, and of the results of reading them back.
use Rattle.std.proofs.Common.{◌≡◌, [], refl}
use Rattle.std.specs.Prelude.{ℕ, true, false, List, ◌∷◌, ◌++◌, Some, None, Result, Ok, codes}
use Rattle.edit_tree.specs.IntendedTrees.{item_view}
use Rattle.edit_tree.specs.NewItems.{NewValue, a_string, a_truth, a_list, NewItem, a_value, a_table}
use Rattle.edit_record.specs.EntryRecords.{Repository, EntryRecord, from_registry, from_path, from_git, from_workspace, EntryError, bare_record, key_of}
use Rattle.edit_record.specs.NewEntries.{item_of}
use Rattle.edit_record.specs.ReadEntries.{repository, ok_map, record_of}
use Rattle.edit_record.proofs.SampleEntries.{x, foo}

-- ---- new entries

-- `dep` at 1.0 in a registry
abbrev dep : EntryRecord
dep = bare_record (codes "dep") (from_registry (codes "1.0"))

abbrev root : List ℕ
root = codes "/"

-- `version = "1.0"`
abbrev at_one : List ℕ × NewValue
at_one = (codes "version", a_string (codes "1.0"))

-- `"1.0"`
pub short_entry : item_of root dep ≡ a_value (a_string (codes "1.0"))
short_entry = refl

-- `"1.0"`: neither `optional = false` nor `default-features = true` has to be written
pub plain_entry : item_of root (record dep { optional = Some false; default_features = Some true })
    ≡ a_value (a_string (codes "1.0"))
plain_entry = refl

-- `{ version = "1.0", optional = true }`
pub optional_entry : item_of root (record dep { optional = Some true })
    ≡ a_table false (at_one ∷ (codes "optional", a_truth true) ∷ [])
optional_entry = refl

-- `{ version = "1.0", default-features = false }`
pub lean_entry : item_of root (record dep { default_features = Some false })
    ≡ a_table false (at_one ∷ (codes "default-features", a_truth false) ∷ [])
lean_entry = refl

-- `{ version = "1.0", package = "dep" }`
pub renamed_entry : item_of root (record dep { rename = Some (codes "d") })
    ≡ a_table false (at_one ∷ (codes "package", a_string (codes "dep")) ∷ [])
renamed_entry = refl

-- `{ version = "1.0", registry = "alternative" }`
pub registry_entry : item_of root (record dep { registry = Some (codes "alternative") })
    ≡ a_table false (at_one ∷ (codes "registry", a_string (codes "alternative")) ∷ [])
registry_entry = refl

-- `{ version = "1.0", package = "dep", default-features = false }`
pub renamed_lean_entry : item_of root (record dep {
  rename = Some (codes "d");
  default_features = Some false;
})
    ≡ a_table false (at_one ∷ (codes "package", a_string (codes "dep"))
    ∷ (codes "default-features", a_truth false) ∷ [])
renamed_lean_entry = refl

-- `{ git = "https://foor/bar.git" }`
pub git_entry : item_of root (bare_record (codes "dep") (from_git (repository
    (codes "https://foor/bar.git") None None None None)))
    ≡ a_table false ((codes "git", a_string (codes "https://foor/bar.git")) ∷ [])
git_entry = refl

-- `{ path = "sibling/crate" }`
pub path_entry : item_of root (bare_record (codes "dep") (from_path (codes "/sibling/crate") None))
    ≡ a_table false ((codes "path", a_string (codes "sibling/crate")) ∷ [])
path_entry = refl

-- `{ path = "../bar" }`, for `/bar` in `/foo`
pub path_above : item_of foo (bare_record x (from_path (codes "/bar") None))
    ≡ a_table false ((codes "path", a_string (codes "../bar")) ∷ [])
path_above = refl

-- `{ version = "1", path = "../bar" }`: the requirement comes first
pub path_with_version : item_of foo (bare_record x (from_path (codes "/bar") (Some (codes "1"))))
    ≡ a_table false ((codes "version", a_string (codes "1"))
    ∷ (codes "path", a_string (codes "../bar")) ∷ [])
path_with_version = refl

-- `{ path = "a/b" }`, for `/foo/a\b` in `/foo`
pub path_with_backslash : item_of foo (bare_record x (from_path (codes "/foo/a" ++ 92 ∷ codes "b") None))
    ≡ a_table false ((codes "path", a_string (codes "a/b")) ∷ [])
path_with_backslash = refl

-- `workspace = true`
pub workspace_entry : item_of root (bare_record x from_workspace)
    ≡ a_table true ((codes "workspace", a_truth true) ∷ [])
workspace_entry = refl

-- `{ workspace = true, features = ["a"], optional = true }`: more than the source is an inline table
pub inherited_entry : item_of root (record (bare_record x from_workspace) {
  features = Some (codes "a" ∷ []);
  optional = Some true;
})
    ≡ a_table false ((codes "workspace", a_truth true) ∷ (codes "features", a_list (codes "a" ∷ []))
    ∷ (codes "optional", a_truth true) ∷ [])
inherited_entry = refl

-- `{ path = "p" }`: a registry is written only with a version requirement
pub registry_without_version :
    item_of root (record (bare_record x (from_path (codes "/p") None)) { registry = Some (codes "r") })
    ≡ a_table false ((codes "path", a_string (codes "p")) ∷ [])
registry_without_version = refl

-- `{}`: a dependency without a source
pub nothing_entry : item_of root (record dep { origin = None }) ≡ a_table false []
nothing_entry = refl

-- ---- round trips

-- a dependency is written; the result is read under its key and written again
abbrev again : List ℕ → EntryRecord → Result NewItem EntryError
again from r = ok_map (item_of from) (record_of (item_view false (item_of from r)) [] from (key_of r))

-- all keys, renamed
abbrev full : EntryRecord
full = record dep {
  optional = Some false;
  features = Some (codes "b" ∷ codes "a" ∷ codes "b" ∷ []);
  default_features = Some true;
  registry = Some (codes "r");
  rename = Some (codes "d");
}

pub full_again : again foo full ≡ Ok (item_of foo full)
full_again = refl

-- a workspace source, renamed, without features
abbrev inherited : EntryRecord
inherited = record (bare_record x from_workspace) { rename = Some (codes "d"); features = Some [] }

pub inherited_again : again foo inherited ≡ Ok (item_of foo inherited)
inherited_again = refl

-- `workspace = true`
pub workspace_again : again foo (bare_record x from_workspace)
    ≡ Ok (item_of foo (bare_record x from_workspace))
workspace_again = refl

-- a path with `..` and empty segments
pub beside_again : again (codes "/a/d") (bare_record x (from_path (codes "/a/../b//./c") None))
    ≡ Ok (a_table false ((codes "path", a_string (codes "../../b/c")) ∷ []))
beside_again = refl

-- the folder of the manifest itself
pub same_folder_again : again foo (bare_record x (from_path foo None))
    ≡ Ok (a_table false ((codes "path", a_string []) ∷ []))
same_folder_again = refl

-- where the law does not hold: a tag with a branch
abbrev two_parts : Repository
two_parts = record (repository (codes "u") None None None None) {
  branch = Some (codes "b");
  tag = Some (codes "t");
}

pub branch_and_tag : again foo (bare_record x (from_git two_parts))
    ≡ Ok (a_table false ((codes "git", a_string (codes "u"))
    ∷ (codes "tag", a_string (codes "t")) ∷ []))
branch_and_tag = refl

-- a requirement with `+`
pub plus : again foo (bare_record x (from_registry (codes "1+a"))) ≡ Ok (a_value (a_string (codes "1")))
plus = refl

-- a registry with the workspace
pub workspace_registry : again foo (record (bare_record x from_workspace) { registry = Some (codes "r") })
    ≡ Ok (a_table true ((codes "workspace", a_truth true) ∷ []))
workspace_registry = refl

-- a leading backslash in `path` becomes a slash, so that the path is another one
pub backslash : again foo (bare_record x (from_path (codes "/foo/" ++ 92 ∷ codes "y") None))
    ≡ Ok (a_table false ((codes "path", a_string (codes "../y")) ∷ []))
backslash = refl
