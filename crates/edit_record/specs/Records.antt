-- The model of a `Dependency` (Cargo reference, "Specifying Dependencies").
use Rattle.std.specs.Prelude.{◌≡◌, ℕ, List, Option, Some, None, option_and_then, option_map, string_bytes}
use Rattle.std.specs.BTreeMap.{btree_map_len}
use Rattle.edit_version.specs.Requirement.{cut}
use Rattle.edit_record.specs.declared.dependency.Dependency.{Dependency}
use Rattle.edit_record.specs.declared.dependency.sources.RegistrySource.{RegistrySource}
use Rattle.edit_record.specs.declared.dependency.sources.Source.{Source}
use Rattle.edit_record.specs.declared.dependency.sources.Source.TheVariants.{Registry, Path, Git, Workspace}

-- the version requirement of a source; `None` for a workspace source (own)
abbrev pub source_version : Source → Option (List ℕ)
source_version (Registry s) = Some (string_bytes s.version)
source_version (Path s) = option_map string_bytes s.version
source_version (Git s) = option_map string_bytes s.version
source_version (Workspace s) = None

-- the version requirement of a dependency's source (own)
abbrev pub version_of : Dependency → Option (List ℕ)
version_of d = option_and_then source_version d.source

-- a dependency with this name in which at most the source is set besides (own)
pub record IsBare (crate_name : List ℕ) (d : Dependency) : Type 0 where
  pub name : string_bytes d.name ≡ crate_name
  pub optional : d.optional ≡ None
  pub features : d.features ≡ None
  pub default_features : d.default_features ≡ None
  pub inherited_features : d.inherited_features ≡ None
  pub registry : d.registry ≡ None
  pub rename : d.rename ≡ None
  pub available_features : btree_map_len d.available_features ≡ 0

-- a dependency with this name on this version in a registry, up to its first `+` (own)
abbrev pub IsRegistryDependency : List ℕ → List ℕ → Dependency → Type 0
IsRegistryDependency name version d = IsBare name d
    × ((s : RegistrySource) × (d.source ≡ Some (Registry s)) × (string_bytes s.version ≡ cut version))
