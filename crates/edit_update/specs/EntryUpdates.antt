-- The update of an entry from a `Dependency`; the table of its keys is this project's own, after that of
-- cargo-edit.
use Rattle.std.specs.Prelude.{ℕ, Bool, true, false, not, ◌&&◌, ◌||◌, ◌==◌, if◌then◌else◌, List, [], ◌∷◌, ◌++◌, map, filter, filter_map, Option, Some, None, is_some, option_map, Result, Ok, codes}
use Rattle.std.specs.List.{list_any}
use Rattle.edit_tree.specs.Assertions.{same_bytes}
use Rattle.edit_document.specs.Items.{count_in, is_string, is_tabular}
use Rattle.edit_tree.specs.NewItems.{NewValue, a_string, a_truth, a_list, NewItem}
use Rattle.edit_tree.specs.Tree.{View}
use Rattle.edit_record.specs.EachOnce.{each_once}
use Rattle.edit_record.specs.EntryRecords.{EntryRecord, Origin, from_registry, from_path, from_git, from_workspace, EntryError, origin_version}
use Rattle.edit_record.specs.NewEntries.{item_of, written_name}
use Rattle.edit_record.specs.ReadEntries.{Tree, member_in, features_at}
use Rattle.edit_record.specs.RelativePaths.{path_field}

-- ---- final values of keys

-- a key of an entry with its final value; none where the key is removed (own)
abbrev pub FinalValue : Type 0
FinalValue = List ℕ × Option NewValue

-- the keys of all kinds of sources (own)
abbrev pub source_names : List (List ℕ)
source_names =
    codes "version" ∷ codes "path" ∷ codes "git" ∷ codes "branch" ∷ codes "tag" ∷ codes "rev"
    ∷ codes "workspace" ∷ []

-- the keys of a source with their final values (own)
abbrev pub source_values : List ℕ → Origin → List FinalValue
source_values root (from_registry version) = (codes "version", Some (a_string version)) ∷ []
source_values root (from_path path version) =
    (codes "path", Some (a_string (path_field root path))) ∷ (codes "version", option_map a_string version)
    ∷ []
source_values root (from_git g) =
    (codes "git", Some (a_string g.address)) ∷ (codes "branch", option_map a_string g.branch)
    ∷ (codes "tag", option_map a_string g.tag) ∷ (codes "rev", option_map a_string g.rev)
    ∷ (codes "version", option_map a_string g.version) ∷ []
source_values root from_workspace = (codes "workspace", Some (a_truth true)) ∷ []

-- the keys of other kinds of sources are removed (own)
abbrev pub removed_source_keys : List FinalValue → List FinalValue
removed_source_keys own =
    map (λ n. (n, None)) (filter (λ n. not (list_any (λ e. same_bytes e.0 n) own)) source_names)

-- the keys of all kinds of sources with their final values; without a source in the dependency they are
-- unchanged (own)
abbrev pub all_source_values : List ℕ → Option Origin → List FinalValue
all_source_values root None = []
all_source_values root (Some origin) = source_values root origin
    ++ removed_source_keys (source_values root origin)

-- the source is the workspace (own)
abbrev pub is_from_workspace : Option Origin → Bool
is_from_workspace (Some from_workspace) = true
is_from_workspace other = false

-- the key is removed if the source is the workspace, and is unchanged otherwise (own)
abbrev pub workspace_removal : List ℕ → Option Origin → List FinalValue
workspace_removal name origin = if is_from_workspace origin then (name, None) ∷ [] else []

-- the entry finally has a key `version` (own)
abbrev pub ends_with_version : Tree → Option Origin → Bool
ends_with_version t None = is_some (member_in t (codes "version"))
ends_with_version t (Some origin) = is_some (origin_version origin)

-- `package` is written if the key differs from the crate's name; else it is removed if the source is the
-- workspace, and is unchanged otherwise (own)
abbrev pub package_value : Option (List ℕ) → Option Origin → List FinalValue
package_value (Some name) origin = (codes "package", Some (a_string name)) ∷ []
package_value None origin = workspace_removal (codes "package") origin

-- a list of strings that was read; empty where it is absent or malformed (own)
abbrev pub texts_or_none : Result (Option (List (List ℕ))) EntryError → List (List ℕ)
texts_or_none (Ok (Some ss)) = ss
texts_or_none other = []

-- the features of the entry followed by those of the dependency, without duplicates (own)
abbrev pub joined_features : Tree → List (List ℕ) → NewValue
joined_features t new = a_list (each_once (texts_or_none (features_at t []) ++ new))

-- the keys of an entry with their final values, in their order; any other key is unchanged (own)
abbrev pub final_values_of : Tree → List ℕ → EntryRecord → List FinalValue
final_values_of t root r =
    all_source_values root r.origin
    ++ (workspace_removal (codes "registry-index") r.origin
    ++ ((codes "registry", if ends_with_version t r.origin then option_map a_string r.registry else None)
    ∷ (package_value (written_name r) r.origin
    ++ ((codes "default-features", option_map a_truth r.default_features)
    ∷ (codes "features", option_map (joined_features t) r.features)
    ∷ (codes "optional", option_map a_truth r.optional) ∷ []))))

-- ---- the edits

-- an edit of a key: it is written or removed (own)
pub data Change : Type 0 where
  writes : List ℕ → NewValue → Change
  removes : List ℕ → Change

-- a key with a final value is written (own)
abbrev pub write_of : FinalValue → Option Change
write_of e = option_map (writes e.0) e.1

-- a key without a final value is removed (own)
abbrev pub removal_of : FinalValue → Option Change
removal_of (name, None) = Some (removes name)
removal_of (name, Some v) = None

-- the edits of the keys of an entry: all writes, then all removals (own)
abbrev pub changes : List FinalValue → List Change
changes es = filter_map write_of es ++ filter_map removal_of es

-- the update of an entry: it is replaced, or its keys are edited (own)
pub data Update : Type 0 where
  replaced_by : NewItem → Update
  changed_by : List Change → Update

-- a string, or a table with a single key (own)
abbrev pub has_single_key : Option View → Bool
has_single_key None = false
has_single_key (Some v) = is_string v || (is_tabular v && (count_in v == 1))

-- the update of an entry: a string or a table with a single key is replaced, if a single key/value pair
-- defines it (`one`), and any other entry is edited key by key (own)
abbrev pub update_of : Tree → Bool → List ℕ → EntryRecord → Update
update_of t one root r =
    if one && has_single_key (t []) then replaced_by (item_of root r)
    else changed_by (changes (final_values_of t root r))
