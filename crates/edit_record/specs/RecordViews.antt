-- The models of dependencies and of the errors of reading them, and the messages of these errors.
use Rattle.std.specs.Prelude.{◌≡◌, ◌⊎◌, ℕ, List, ◌++◌, map, option_map, Option, Some, None, Result, Err, codes, String, string_bytes, Vec}
use Rattle.std.specs.declared.alloc.Global.{Global}
use Rattle.edit_base.specs.Errors.{IsMemory}
use Rattle.edit_base.specs.declared.errors.Error.{Error}
use Rattle.edit_base.specs.declared.errors.Error.TheVariants as error
use Rattle.edit_document.specs.ItemViews.{document_of, place_of}
use Rattle.edit_tree.specs.DocumentViews.{tree_of}
use Rattle.edit_document.specs.declared.item.Item.{Item}
use Rattle.edit_record.specs.ReadEntries.{Tree, below}
use Rattle.edit_record.specs.EntryRecords.{EntryRecord, Repository, Origin, from_registry, from_path, from_git, from_workspace, EntryError, wrong_type, workspace_false, unknown_source, old_default_features, unknown_entry}
use Rattle.edit_record.specs.declared.dependency.Dependency.{Dependency}
use Rattle.edit_record.specs.declared.dependency.sources.GitSource.{GitSource}
use Rattle.edit_record.specs.declared.dependency.sources.PathSource.{PathSource}
use Rattle.edit_record.specs.declared.dependency.sources.RegistrySource.{RegistrySource}
use Rattle.edit_record.specs.declared.dependency.sources.WorkspaceSource.{WorkspaceSource}
use Rattle.edit_record.specs.declared.dependency.sources.Source.{Source}
use Rattle.edit_record.specs.declared.dependency.sources.Source.TheVariants.{Registry, Path, Git, Workspace}

-- ---- sources

-- the model of a path source (own)
abbrev pub path_view : PathSource → Origin
path_view s = from_path (string_bytes s.path) (option_map string_bytes s.version)

-- the model of a Git source (own)
abbrev pub repository_view : GitSource → Repository
repository_view s = record {
  address = string_bytes s.git;
  branch = option_map string_bytes s.branch;
  tag = option_map string_bytes s.tag;
  rev = option_map string_bytes s.rev;
  version = option_map string_bytes s.version;
}

-- the model of a source (own)
abbrev pub source_view : Source → Origin
source_view (Registry s) = from_registry (string_bytes s.version)
source_view (Path s) = path_view s
source_view (Git s) = from_git (repository_view s)
source_view (Workspace s) = from_workspace

-- the registry source, if this is one (own)
abbrev pub registry_in : Source → Option RegistrySource
registry_in (Registry s) = Some s
registry_in _ = None

-- the path source, if this is one (own)
abbrev pub path_in : Source → Option PathSource
path_in (Path s) = Some s
path_in _ = None

-- the Git source, if this is one (own)
abbrev pub git_in : Source → Option GitSource
git_in (Git s) = Some s
git_in _ = None

-- the workspace source, if this is one (own)
abbrev pub workspace_in : Source → Option WorkspaceSource
workspace_in (Workspace s) = Some s
workspace_in _ = None

-- ---- dependencies

-- the model of a list of strings (own)
abbrev pub texts_view : Vec (String Global) Global → List (List ℕ)
texts_view v = map string_bytes v.items

-- the model of a dependency, without the features that its crate defines (own)
abbrev pub record_view : Dependency → EntryRecord
record_view d = record {
  name = string_bytes d.name;
  optional = d.optional;
  features = option_map texts_view d.features;
  default_features = d.default_features;
  inherited_features = option_map texts_view d.inherited_features;
  origin = option_map source_view d.source;
  registry = option_map string_bytes d.registry;
  rename = option_map string_bytes d.rename;
}

-- the features that the crate defines, each with the features that it enables, in the order of the map (own)
abbrev pub available_view : Dependency → List (List ℕ × List (List ℕ))
available_view d = map (λ e. (string_bytes e.0, texts_view e.1)) d.available_features.entries

-- ---- entries

-- the tree at and below an item (own)
abbrev pub item_tree : Item → Tree
item_tree i = below (tree_of (document_of i)) (place_of i)

-- ---- errors

-- the error has the variant and the texts of this model (own)
abbrev pub IsErrorOf : EntryError → Error → Type 0
IsErrorOf (wrong_type found name expected dep) (error.InvalidType a k x d) =
    (string_bytes a ≡ found) × (string_bytes k ≡ name) × (string_bytes x ≡ expected) × (string_bytes d ≡ dep)
IsErrorOf (workspace_false dep) (error.WorkspaceFalse k) = string_bytes k ≡ dep
IsErrorOf (unknown_source dep) (error.UnknownSource k) = string_bytes k ≡ dep
IsErrorOf (old_default_features dep) (error.OldDefaultFeatures k) = string_bytes k ≡ dep
IsErrorOf (unknown_entry dep) (error.UnknownEntry k) = string_bytes k ≡ dep
IsErrorOf r e = ⊥

-- the error is that of this result, or lack of memory (own)
abbrev pub IsErrorOfResult : {A : Type 0} → Result A EntryError → Error → Type 0
IsErrorOfResult result e = IsMemory e ⊎ ((r : EntryError) × (result ≡ Err r) × IsErrorOf r e)

-- the message of an error (own)
abbrev pub entry_error_text : EntryError → List ℕ
entry_error_text (wrong_type found name expected dep) =
    codes "Found " ++ (found ++ (codes " for " ++ (name ++ (codes " when " ++ (expected
    ++ (codes " was expected for " ++ dep))))))
entry_error_text (workspace_false dep) = codes "`" ++ (dep ++ codes ".workspace = false` is unsupported")
entry_error_text (unknown_source dep) = codes "Unrecognized dependency source for `" ++ (dep ++ codes "`")
entry_error_text (old_default_features dep) =
    codes "Use of `default_features` in `" ++ (dep
    ++ codes "` is unsupported, please switch to `default-features`")
entry_error_text (unknown_entry dep) = codes "Unrecognized dependency entry format for `" ++ (dep
    ++ codes "`")
