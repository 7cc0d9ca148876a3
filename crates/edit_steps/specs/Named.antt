-- Configuration files that the command line gives, and the configurations of a manifest with them.
use Rattle.std.specs.Prelude.{◌≡◌, ℕ, List, ◌++◌, map, Option, Some, None, ⊤, option_map, string_bytes}
use Rattle.std.specs.Borrow.{Bor}
use Rattle.std.specs.Global.{Vec}
use Rattle.std.specs.List.{AllZip}
use Rattle.std.specs.Option.{option_to_list}
use Rattle.edit_base.specs.declared.errors.Error.{Error}
use Rattle.edit_base.specs.declared.errors.Error.TheVariants.{NoPath}
use Rattle.edit_metadata.specs.declared.input.Input.{Input}
use Rattle.edit_sources.specs.ConfigurationFiles.{AreConfigs, IsReadFrom, IsBadConfig}
use Rattle.edit_sources.specs.declared.config.Config.{Config}
use Rattle.edit_store.specs.Store.{Files}
use Rattle.edit_steps.specs.Absolute.{IsAbsoluteOf}
use Rattle.edit_steps.specs.RequestView.{RequestView}
use Rattle.edit_steps.specs.declared.upgrade_read.named.NamedFile.{NamedFile}
use Rattle.edit_steps.specs.declared.upgrade_read.named.NamedFiles.{NamedFiles}

-- a file: its path and its bytes
abbrev pub PathAndBytes : Type 0
PathAndBytes = List ℕ × List ℕ

-- the path and the bytes of a file that was read
abbrev pub path_and_bytes : NamedFile → PathAndBytes
path_and_bytes file = (string_bytes file.path, file.bytes.items)

-- the path and the bytes of an optional file that was read
abbrev pub given_file_view : Option (Bor NamedFile) → Option PathAndBytes
given_file_view file = option_map (λ f. path_and_bytes f.now) file

-- the given file is at its absolute path, with these bytes; none where no file is given
abbrev pub IsNamedRead : Files → List ℕ → Option (List ℕ) → Option PathAndBytes → Type 0
IsNamedRead files current None None = ⊤
IsNamedRead files current (Some named) (Some file) =
    IsAbsoluteOf current named file.0 × (files file.0 ≡ Some file.1)
IsNamedRead files current _ _ = ⊥

-- the two files that may be given: with the highest and with the lowest precedence
pub record Pair : Type 0 where
  pub first : Option PathAndBytes
  pub last : Option PathAndBytes

-- the two files, as they were read
abbrev pub pair_of : NamedFiles → Pair
pair_of named = record {
  first = option_map path_and_bytes named.first;
  last = option_map path_and_bytes named.last;
}

-- both files were read, where they are given
pub record ArePairRead (files : Files) (current : List ℕ) (asking : RequestView) (pair : Pair) : Type 0 where
  pub first : IsNamedRead files current asking.config pair.first
  pub last : IsNamedRead files current asking.default_config pair.last

-- the configurations in a file, none without a file
abbrev pub AreConfigsIn : Option PathAndBytes → List Config → Type 0
AreConfigsIn file configs = AllZip IsReadFrom (option_to_list file) configs

-- the path of a file, none without a file
abbrev pub path_in : Option PathAndBytes → List (List ℕ)
path_in file = map (λ f. f.0) (option_to_list file)

-- the paths of all files of a manifest, given those of its own, in order of precedence
abbrev pub list_paths : Pair → List (List ℕ) → List (List ℕ)
list_paths pair own = path_in pair.first ++ (own ++ path_in pair.last)

-- a file that is no configuration, and the error
abbrev pub IsUnreadFile : Option PathAndBytes → Error → Type 0
IsUnreadFile None e = ⊥
IsUnreadFile (Some file) e = IsBadConfig file e

-- the configurations of a manifest in order of precedence: that of the first file, its own, and that of the
-- last file
pub record AreGathered (files : Files) (home : Option (List ℕ)) (pair : Pair) (manifest : List ℕ)
    (configs : List Config) : Type 0 where
  pub before : List Config
  pub own : List Config
  pub behind : List Config
  pub first : AreConfigsIn pair.first before
  pub read : AreConfigs files manifest home own
  pub last : AreConfigsIn pair.last behind
  pub all : configs ≡ before ++ (own ++ behind)

-- each input has the configurations of its manifest
abbrev pub AreConfigured : Files → Option (List ℕ) → Pair → List Input → List (Vec Config) → Type 0
AreConfigured files home pair inputs configs =
    AllZip (λ input own. AreGathered files home pair (string_bytes input.path) own.items) inputs configs

-- a file is given, and it is missing
pub record HasNoFile (files : Files) (current : List ℕ) (named : Option (List ℕ)) (e : Error) : Type 0 where
  pub name : List ℕ
  pub is : named ≡ Some name
  pub path : List ℕ
  pub at : IsAbsoluteOf current name path
  pub absent : files path ≡ None
  pub error : e ≡ NoPath
