-- The name and the Rust version of a manifest.
use Rattle.std.specs.Prelude.{◌≡◌, ℕ, List, [], Option, Some, None, codes, option_and_then, option_map, string_bytes, unwrap_or}
use Rattle.edit_document.specs.Items.{string_in}
use Rattle.edit_manifest.specs.Located.{IsManifestPath}
use Rattle.edit_manifest.specs.Tables.{Tree}
use Rattle.edit_metadata.specs.Inputs.{IsReadFrom, RustOptions, rust_version_for}
use Rattle.edit_metadata.specs.declared.input.Input.{Input}
use Rattle.edit_store.specs.Store.{Files}
use Rattle.edit_syntax.specs.Grammar.{Text}
use Rattle.edit_tree.specs.Assertions.{IsDocument, at, key}
use Rattle.edit_tree.specs.Tree.{view_at}
use Rattle.edit_version.specs.RustVersions.{Numbers, numbers_of, rust_of}

-- the second value where there is a first one
abbrev pub when_there : {A B : Type 0} → Option A → Option B → Option B
when_there None b = None
when_there (Some a) b = b

-- the string `package.KEY` of a document
abbrev pub package_text : Tree → List ℕ → Option (List ℕ)
package_text t name =
    let package_place = key (codes "package") in
    when_there (t [])
    (when_there (t (at [] package_place))
    (option_and_then string_in (t (at (at [] package_place) (key name)))))

-- the name of the manifest in reports
abbrev pub report_name : Tree → List ℕ
report_name t = unwrap_or (package_text t (codes "name")) (codes "virtual workspace")

-- the manifest's own Rust version, where it has a valid one
abbrev pub declared_rust : Tree → Option Numbers
declared_rust t = option_and_then rust_of (package_text t (codes "rust-version"))

-- an input has the name in its bytes, and the requested Rust version, else the one in its bytes
pub record HasOwnNameAndRust (options : RustOptions) (input : Input) : Type 0 where
  pub form : Text
  pub manifest : IsDocument input.bytes.items form
  pub name : string_bytes input.name ≡ report_name (view_at form)
  pub rust_version : option_map numbers_of input.rust_version
      ≡ rust_version_for options (declared_rust (view_at form))

-- the given manifest was read, or the nearest one where none is given
pub record IsManifestRead (files : Files) (current : List ℕ) (named : Option (List ℕ)) (options : RustOptions)
    (input : Input) : Type 0 where
  pub at : IsManifestPath files current named (string_bytes input.path)
  pub is : IsReadFrom files input
  pub says : HasOwnNameAndRust options input
