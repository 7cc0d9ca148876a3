-- The model of a `Dependency`, and the errors of reading one (Cargo reference, "Specifying Dependencies").
use Rattle.std.specs.Prelude.{ℕ, Bool, List, Option, Some, None, unwrap_or}

-- a Git source: its URL, at most one of a branch, a tag and a revision, and the version requirement (Cargo
-- reference, "Specifying Dependencies")
pub record Repository : Type 0 where
  pub address : List ℕ
  pub branch : Option (List ℕ)
  pub tag : Option (List ℕ)
  pub rev : Option (List ℕ)
  pub version : Option (List ℕ)

-- a source: a registry or a folder, each with the version requirement, a Git repository, or the entry of the
-- workspace (Cargo reference, "Specifying Dependencies")
pub data Origin : Type 0 where
  from_registry : List ℕ → Origin
  from_path : List ℕ → Option (List ℕ) → Origin
  from_git : Repository → Origin
  from_workspace : Origin

-- the model of a dependency, without the features that its crate defines (own)
pub record EntryRecord : Type 0 where
  pub name : List ℕ
  pub optional : Option Bool
  pub features : Option (List (List ℕ))
  pub default_features : Option Bool
  pub inherited_features : Option (List (List ℕ))
  pub origin : Option Origin
  pub registry : Option (List ℕ)
  pub rename : Option (List ℕ)

-- the errors of reading an entry: a value of a wrong type, with the type that was found, the key of the
-- value, the type that was expected and the key of the entry; any other error with the key of the entry
-- (own)
pub data EntryError : Type 0 where
  wrong_type : List ℕ → List ℕ → List ℕ → List ℕ → EntryError
  workspace_false : List ℕ → EntryError
  unknown_source : List ℕ → EntryError
  old_default_features : List ℕ → EntryError
  unknown_entry : List ℕ → EntryError

-- a dependency with a name and a source and nothing else (own)
abbrev pub bare_record : List ℕ → Origin → EntryRecord
bare_record dep origin = record {
  name = dep;
  optional = None;
  features = None;
  default_features = None;
  inherited_features = None;
  origin = Some origin;
  registry = None;
  rename = None;
}

-- the key of an entry: its rename, or else the crate's name (Cargo reference, "Specifying Dependencies",
-- renaming dependencies)
abbrev pub key_of : EntryRecord → List ℕ
key_of r = unwrap_or r.rename r.name

-- the version requirement of a source, if it has one (own)
abbrev pub origin_version : Origin → Option (List ℕ)
origin_version (from_registry v) = Some v
origin_version (from_path path v) = v
origin_version (from_git g) = g.version
origin_version from_workspace = None
