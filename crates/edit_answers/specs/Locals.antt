-- Registries in folders of this machine.
use Rattle.std.specs.Prelude.{◌≡◌, ◌≢◌, ℕ, ◌-◌, List, Some, None, Ok, false, ◌&&◌, nat_eq, not, codes, length, take, if◌then◌else◌}
use Rattle.std.specs.List.{ends_with}
use Rattle.std.specs.Str.{IsUtf8, bytes_eq}
use Rattle.percent_encoding.specs.Percent.{percent_decode}
use Rattle.url.specs.Parser.{parse_url}
use Rattle.url.specs.Parts.{Parts, has_host}
use Rattle.edit_store.specs.Store.{Files, HasKindAt}
use Rattle.edit_store.specs.declared.store.Kind.{Kind}
use Rattle.edit_store.specs.declared.store.Kind.TheVariants.{Folder}
use Rattle.edit_lookups.specs.Lookups.{HasNo, LookupText}
use Rattle.edit_answers.specs.Places.{local_path}
use Rattle.edit_answers.specs.declared.meaning.Failure.TheVariants.{NoFolder}
use Rattle.edit_answers.specs.declared.meaning.Outcome.{Outcome}
use Rattle.edit_answers.specs.declared.meaning.Outcome.TheVariants.{Absent, Local, Missing}

-- a path without the slash at its end; the root stays `/`
abbrev pub without_slash : List ℕ → List ℕ
without_slash path =
    if ends_with nat_eq path (codes "/") && not (bytes_eq path (codes "/")) then take
    (length path - 1) path else path

-- the folder of a URL's path, percent-decoded
abbrev pub folder_of : List ℕ → List ℕ
folder_of path = without_slash (percent_decode path)

-- bytes that can be a path on this machine
pub record IsPathText (bytes : List ℕ) : Type 0 where
  pub utf8 : IsUtf8 bytes
  pub no_nul : HasNo 0 bytes

-- the address names a folder: it is a `file` URL without a host
pub record IsLocalFolder (address folder : List ℕ) : Type 0 where
  pub url : Parts
  pub reads : parse_url None address ≡ Ok url
  pub scheme : url.scheme ≡ codes "file"
  pub no_host : has_host url ≡ false
  pub is : folder ≡ folder_of url.path
  pub text : IsPathText folder

-- the folder of the address exists
pub record HasExistingFolder (address : List ℕ) (files : Files) (folder : List ℕ) : Type 0 where
  pub names : IsLocalFolder address folder
  pub stands : HasKindAt files folder Folder

-- the address names no folder, or no folder exists there
pub data HasNoFolder (address : List ℕ) (files : Files) : Type 0 where
  unnamed : ((folder : List ℕ) → IsLocalFolder address folder → ⊥) → HasNoFolder address files
  other : (folder : List ℕ) (kind : Kind) → IsLocalFolder address folder → HasKindAt files folder kind
      → kind ≢ Folder → HasNoFolder address files

-- the path of the file of a lookup's entry in the folder that the address of its registry names
pub record IsLocalFile (l : LookupText) (file : List ℕ) : Type 0 where
  pub folder : List ℕ
  pub names : IsLocalFolder l.address folder
  pub is : file ≡ local_path folder l.path

-- the result of a lookup in a registry on this machine
pub data SettlesLocal (l : LookupText) (files : Files) : Outcome → Type 0 where
  no_folder : HasNoFolder l.address files → SettlesLocal l files (Missing NoFolder)
  absent : (folder : List ℕ) → HasExistingFolder l.address files folder
      → files (local_path folder l.path) ≡ None
      → SettlesLocal l files Absent
  present : (folder bytes : List ℕ) → HasExistingFolder l.address files folder
      → files (local_path folder l.path) ≡ Some bytes → SettlesLocal l files Local
