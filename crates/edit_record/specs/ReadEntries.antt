-- Reading an entry of a dependency table: the dependency, or the first error (Cargo reference, "Specifying
-- Dependencies").
use Rattle.std.specs.Prelude.{ℕ, zero, suc, Bool, true, false, ◌&&◌, if◌then◌else◌, List, [], ◌∷◌, ◌++◌, Option, Some, None, is_none, option_map, option_and_then, option_to_list, Result, Ok, Err, codes}
use Rattle.edit_base.specs.Paths.{joined}
use Rattle.edit_tree.specs.Assertions.{key, index, Place}
use Rattle.edit_document.specs.Items.{string_in, truth_in, type_name_of}
use Rattle.edit_tree.specs.Tree.{View, string, truth, static_array, inline_table, table}
use Rattle.edit_record.specs.EntryRecords.{Repository, Origin, from_registry, from_path, from_git, from_workspace, EntryRecord, bare_record, EntryError, wrong_type, workspace_false, unknown_source, old_default_features, unknown_entry}
use Rattle.edit_version.specs.Requirement.{cut}

-- the item at each place of a document (own)
abbrev pub Tree : Type 0
Tree = Place → Option View

-- the tree at and below a place (own)
abbrev pub below : Tree → Place → Tree
below t place rest = t (place ++ rest)

-- ---- results

-- applies a function that may fail to the value of a result (own)
abbrev pub and_then : {A B : Type 0} → Result A EntryError → (A → Result B EntryError) → Result B EntryError
and_then (Ok x) f = f x
and_then (Err e) f = Err e

-- applies a function to the value of a result (own)
abbrev pub ok_map : {A B : Type 0} → (A → B) → Result A EntryError → Result B EntryError
ok_map f result = and_then result (λ x. Ok (f x))

-- the value if it is there, else this error (own)
abbrev pub there_or : {A : Type 0} → EntryError → Option A → Result A EntryError
there_or r None = Err r
there_or r (Some x) = Ok x

-- applies a function that may fail to a value, if it is there (own)
abbrev pub if_there : {A B : Type 0} → (A → Result B EntryError) → Option A → Result (Option B) EntryError
if_there read None = Ok None
if_there read (Some x) = ok_map Some (read x)

-- ---- members

-- the value of a key of an entry (own)
abbrev pub member_in : Tree → List ℕ → Option View
member_in t name = t (key name ∷ [])

-- the string of a value, or an error (own)
abbrev pub text_of : List ℕ → List ℕ → View → Result (List ℕ) EntryError
text_of dep name v = there_or (wrong_type (type_name_of v) name (codes "string") dep) (string_in v)

-- the string of a key, if the key is there, or an error (own)
abbrev pub text_at : Tree → List ℕ → List ℕ → Result (Option (List ℕ)) EntryError
text_at t dep name = if_there (text_of dep name) (member_in t name)

-- the version requirement up to its first `+`, if it is there, or an error (own)
abbrev pub version_at : Tree → List ℕ → Result (Option (List ℕ)) EntryError
version_at t dep = ok_map (option_map cut) (text_at t dep (codes "version"))

-- the boolean of a key; a value of another type is ignored (own)
abbrev pub bool_at : Tree → List ℕ → Option Bool
bool_at t name = option_and_then truth_in (member_in t name)

-- the strings of the first `n` elements of an array, or an error at the first that is no string (own)
abbrev pub first_texts : Tree → List ℕ → ℕ → Result (List (List ℕ)) EntryError
first_texts t dep zero = Ok []
first_texts t dep (suc n) =
    and_then (first_texts t dep n) (λ ss.
    ok_map (λ s. ss ++ option_to_list s) (if_there (text_of dep (codes "features")) (t (index n ∷ []))))

-- the strings of the value of `features`, or an error where it is no array of strings (Cargo reference,
-- "Features", dependency features)
abbrev pub feature_texts : Tree → List ℕ → View → Result (List (List ℕ)) EntryError
feature_texts t dep (static_array n) = first_texts t dep n
feature_texts t dep v = Err (wrong_type (type_name_of v) (codes "features") (codes "array") dep)

-- the strings of the key `features`, if it is there, or an error (Cargo reference, "Features", dependency
-- features)
abbrev pub features_at : Tree → List ℕ → Result (Option (List (List ℕ))) EntryError
features_at t dep =
    if_there (feature_texts (below t (key (codes "features") ∷ [])) dep) (member_in t (codes "features"))

-- ---- sources

-- a Git source at its revision, else its tag, else its branch: at most one of the three (own)
abbrev pub repository :
    List ℕ → Option (List ℕ) → Option (List ℕ) → Option (List ℕ) → Option (List ℕ) → Repository
repository address branch tag rev version = record {
  address = address;
  branch = if is_none tag && is_none rev then branch else None;
  tag = if is_none rev then tag else None;
  rev = rev;
  version = version;
}

-- the source of an entry with the key `git` (Cargo reference, "Specifying Dependencies", specifying
-- dependencies from `git` repositories)
abbrev pub git_origin : Tree → List ℕ → View → Result Origin EntryError
git_origin t dep git =
    and_then (text_of dep (codes "git") git) (λ address.
    and_then (text_at t dep (codes "branch")) (λ branch.
    and_then (text_at t dep (codes "tag")) (λ tag.
    and_then (text_at t dep (codes "rev")) (λ rev.
    ok_map (λ version. from_git (repository address branch tag rev version)) (version_at t dep)))))

-- the source of an entry with the key `path`, which is joined to the root (Cargo reference, "Specifying
-- Dependencies", specifying path dependencies)
abbrev pub path_origin : Tree → List ℕ → List ℕ → View → Result Origin EntryError
path_origin t root dep path =
    and_then (text_of dep (codes "path") path) (λ place.
    ok_map (λ version. from_path (joined root place) version) (version_at t dep))

-- the source of an entry with the key `version` and without `git` and `path` (Cargo reference, "Specifying
-- Dependencies")
abbrev pub registry_origin : List ℕ → View → Result Origin EntryError
registry_origin dep version = ok_map (λ v. from_registry (cut v)) (text_of dep (codes "version") version)

-- the key `workspace` has to be true (Cargo reference, "Specifying Dependencies", inheriting a dependency
-- from a workspace)
abbrev pub true_workspace : List ℕ → View → Result Origin EntryError
true_workspace dep (truth true) = Ok from_workspace
true_workspace dep (truth false) = Err (workspace_false dep)
true_workspace dep v = Err (wrong_type (type_name_of v) (codes "workspace") (codes "bool") dep)

-- the source of an entry without `git`, `path` and `version`, by its key `workspace` (Cargo reference,
-- "Specifying Dependencies", inheriting a dependency from a workspace)
abbrev pub workspace_origin : List ℕ → Option View → Result Origin EntryError
workspace_origin dep None = Err (unknown_source dep)
workspace_origin dep (Some v) = true_workspace dep v

-- the first of `git`, `path` and `version` that is there decides (own)
abbrev pub first_origin :
    Tree → List ℕ → List ℕ → Option View → Option View → Option View → Result Origin EntryError
first_origin t root dep (Some git) path version = git_origin t dep git
first_origin t root dep None (Some path) version = path_origin t root dep path
first_origin t root dep None None (Some version) = registry_origin dep version
first_origin t root dep None None None = workspace_origin dep (member_in t (codes "workspace"))

-- the source of an entry that is a table (own)
abbrev pub origin_at : Tree → List ℕ → List ℕ → Result Origin EntryError
origin_at t root dep =
    first_origin t root dep
    (member_in t (codes "git")) (member_in t (codes "path")) (member_in t (codes "version"))

-- ---- entries

-- the crate's name, and the key if it differs: with `package`, that is the name and the key the rename
-- (Cargo reference, "Specifying Dependencies", renaming dependencies)
abbrev pub names_by : Option (List ℕ) → List ℕ → List ℕ × Option (List ℕ)
names_by None dep = (dep, None)
names_by (Some package_name) dep = (package_name, Some dep)

-- the key `default_features`, an old spelling of `default-features`, is an error (own)
abbrev pub old_spelling : List ℕ → Option View → Result Bool EntryError
old_spelling dep None = Ok false
old_spelling dep (Some v) = Err (old_default_features dep)

-- the checks after the source: `registry`, the spelling `default_features`, and `features` (own)
abbrev pub options_at : Tree → List ℕ → Result (Option (List ℕ) × Option (List (List ℕ))) EntryError
options_at t dep =
    and_then (text_at t dep (codes "registry")) (λ registry.
    and_then (old_spelling dep (member_in t (codes "default_features"))) (λ spelling.
    ok_map (λ features. (registry, features)) (features_at t dep)))

-- reading an entry that is a table: the checks in their order, and the dependency (own)
abbrev pub table_record : Tree → List ℕ → List ℕ → Result EntryRecord EntryError
table_record t root dep =
    and_then (text_at t dep (codes "package")) (λ package_name.
    and_then (origin_at t root dep) (λ origin.
    ok_map (λ options. record {
      name = (names_by package_name dep).0;
      optional = bool_at t (codes "optional");
      features = options.1;
      default_features = bool_at t (codes "default-features");
      inherited_features = None;
      origin = Some origin;
      registry = options.0;
      rename = (names_by package_name dep).1;
    }) (options_at t dep)))

-- reading an entry: a string, a table or an inline table (Cargo reference, "Specifying Dependencies")
abbrev pub entry_record : Tree → List ℕ → List ℕ → Option View → Result EntryRecord EntryError
entry_record t root dep (Some (string s)) = Ok (bare_record dep (from_registry (cut s)))
entry_record t root dep (Some (table members)) = table_record t root dep
entry_record t root dep (Some (inline_table members)) = table_record t root dep
entry_record t root dep other = Err (unknown_entry dep)

-- reading the entry at a place under this key, with relative paths joined to this root (Cargo reference,
-- "Specifying Dependencies")
abbrev pub record_of : Tree → Place → List ℕ → List ℕ → Result EntryRecord EntryError
record_of t place root dep = entry_record (below t place) root dep (t place)
