-- The new entry of a `Dependency` (Cargo reference, "Specifying Dependencies").
use Rattle.std.specs.Prelude.{ℕ, Bool, true, false, not, ◌&&◌, if◌then◌else◌, List, [], ◌∷◌, ◌++◌, Option, Some, None, is_some, is_none, option_map, option_and_then, unwrap_or, codes}
use Rattle.edit_tree.specs.NewItems.{NewValue, a_string, a_truth, a_list, NewItem, a_value, a_table}
use Rattle.edit_record.specs.EntryRecords.{Repository, Origin, from_registry, from_path, from_git, from_workspace, EntryRecord, origin_version}
use Rattle.edit_record.specs.RelativePaths.{path_field}

-- a key of a new entry with its value (own)
abbrev pub Member : Type 0
Member = List ℕ × NewValue

-- ---- members

-- a key with a value, if there is one (own)
abbrev pub where_there : List ℕ → Option NewValue → List Member
where_there name None = []
where_there name (Some v) = (name, v) ∷ []

-- a key with a string, if there is one (own)
abbrev pub text_member : List ℕ → Option (List ℕ) → List Member
text_member name text = where_there name (option_map a_string text)

-- a key with a boolean, if there is one (own)
abbrev pub truth_member : List ℕ → Option Bool → List Member
truth_member name truth = where_there name (option_map a_truth truth)

-- a key with an array of strings, if there is one (own)
abbrev pub list_member : List ℕ → Option (List (List ℕ)) → List Member
list_member name texts = where_there name (option_map a_list texts)

-- the keys of a Git source (Cargo reference, "Specifying Dependencies", specifying dependencies from `git`
-- repositories)
abbrev pub repository_members : Repository → List Member
repository_members g =
    (codes "git", a_string g.address)
    ∷ (text_member (codes "branch") g.branch
    ++ (text_member (codes "tag") g.tag
    ++ (text_member (codes "rev") g.rev
    ++ text_member (codes "version") g.version)))

-- the keys of a path source, with the path relative to the root (Cargo reference, "Specifying Dependencies",
-- specifying path dependencies)
abbrev pub path_members : List ℕ → List ℕ → Option (List ℕ) → List Member
path_members root path version =
    text_member (codes "version") version ++ (codes "path", a_string (path_field root path)) ∷ []

-- the keys of a source, in the order of a new entry (own)
abbrev pub origin_members : List ℕ → Option Origin → List Member
origin_members root None = []
origin_members root (Some (from_registry version)) = (codes "version", a_string version) ∷ []
origin_members root (Some (from_path path version)) = path_members root path version
origin_members root (Some (from_git g)) = repository_members g
origin_members root (Some from_workspace) = (codes "workspace", a_truth true) ∷ []

-- the registry is written only with a version requirement (own)
abbrev pub written_registry : EntryRecord → Option (List ℕ)
written_registry r = if is_some (option_and_then origin_version r.origin) then r.registry else None

-- the crate's name is written only if the key differs from it (Cargo reference, "Specifying Dependencies",
-- renaming dependencies)
abbrev pub written_name : EntryRecord → Option (List ℕ)
written_name r = option_map (λ other. r.name) r.rename

-- the keys that follow the source, in the order of a new entry (own)
abbrev pub option_members : EntryRecord → List Member
option_members r =
    text_member (codes "registry") (written_registry r)
    ++ (text_member (codes "package") (written_name r)
    ++ (truth_member (codes "default-features") r.default_features
    ++ (list_member (codes "features") r.features
    ++ truth_member (codes "optional") r.optional)))

-- ---- entries

-- nothing but the source has to be written (own)
abbrev pub is_short : EntryRecord → Bool
is_short r =
    is_none r.features && (is_none r.registry && (is_none r.rename
    && (not (unwrap_or r.optional false) && unwrap_or r.default_features true)))

-- an inline table with everything that is set (own)
abbrev pub full_item : List ℕ → EntryRecord → NewItem
full_item root r = a_table false (origin_members root r.origin ++ option_members r)

-- a short entry is a string for a registry, and the dotted `workspace = true` for the workspace (Cargo
-- reference, "Specifying Dependencies", inheriting a dependency from a workspace)
abbrev pub item_by : List ℕ → EntryRecord → Option Origin → Bool → NewItem
item_by root r (Some (from_registry version)) true = a_value (a_string version)
item_by root r (Some from_workspace) true = a_table true ((codes "workspace", a_truth true) ∷ [])
item_by root r origin short = full_item root r

-- the new entry of a dependency in a manifest of this folder (own)
abbrev pub item_of : List ℕ → EntryRecord → NewItem
item_of root r = item_by root r r.origin (is_short r)
