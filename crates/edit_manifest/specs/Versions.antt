-- The versions in a manifest, and the places of their literals (Cargo reference, "The Manifest Format", The
-- version field, and "Workspaces", The package table; "Specifying Dependencies").
use Rattle.std.specs.Prelude.{◌≡◌, ◌⊎◌, ℕ, Bool, false, List, [], ◌∷◌, Option, Some, None, Result, Ok, Err, codes, option_and_then, unwrap_or}
use Rattle.edit_base.specs.declared.errors.Error.{Error}
use Rattle.edit_base.specs.declared.errors.Error.TheVariants.{MissingVersion, VersionNotString, InvalidDependency, NoVersionPlace}
use Rattle.edit_base.specs.Errors.{IsMemory}
use Rattle.edit_tree.specs.Assertions.{Place, at, key}
use Rattle.edit_document.specs.Items.{string_in, truth_in}
use Rattle.edit_document.specs.Ranges.{one_edit}
use Rattle.edit_tree.specs.Replaces.{Replaces, tree_without_below, tree_with_strings}
use Rattle.edit_tree.specs.DocumentViews.{DocumentViews, tree_of}
use Rattle.edit_document.specs.Forms.{IfDocument}
use Rattle.edit_tree.specs.Tree.{View, string, table, inline_table, is_value_at}
use Rattle.edit_version.specs.ReadVersion.{version_read}
use Rattle.semver.specs.Parse.{Parts}
use Rattle.edit_manifest.specs.Tables.{Tree, place_of_keys}

-- ---- versions of packages and workspaces

-- `package.version`
abbrev pub package_version : Place
package_version = place_of_keys (codes "package" ∷ codes "version" ∷ [])

-- `workspace.package.version`
abbrev pub shared_version : Place
shared_version = place_of_keys (codes "workspace" ∷ codes "package" ∷ codes "version" ∷ [])

-- `package.version.workspace`
abbrev pub inheritance_place : Place
inheritance_place = place_of_keys (codes "package" ∷ codes "version" ∷ codes "workspace" ∷ [])

-- the package inherits its version from the workspace: the value is true
abbrev pub is_inherited : Tree → Bool
is_inherited t = unwrap_or (option_and_then truth_in (t inheritance_place)) false

-- the version of the workspace, if it is a string with a valid version
abbrev pub workspace_version : Tree → Option Parts
workspace_version t = option_and_then version_read (option_and_then string_in (t shared_version))

-- ---- versions of entries

-- the place of the key `version` of an entry
abbrev pub version_member : Place → Place
version_member place = at place (key (codes "version"))

-- the string of the key `version`, or an error
abbrev pub member_text : Option View → Result (List ℕ) Error
member_text None = Err MissingVersion
member_text (Some (string text)) = Ok text
member_text (Some other) = Err VersionNotString

-- the version requirement of an entry, given its item and that of its key `version`
abbrev pub requirement_in : Option View → Option View → Result (List ℕ) Error
requirement_in (Some (string text)) member = Ok text
requirement_in (Some (table members)) member = member_text member
requirement_in (Some (inline_table members)) member = member_text member
requirement_in entry member = Err InvalidDependency

-- the version requirement of the entry at a place, or the error
abbrev pub dep_version : Tree → Place → Result (List ℕ) Error
dep_version t place = requirement_in (t place) (t (version_member place))

-- the place of a key, or an error where it does not exist
abbrev pub member_place : Place → Option View → Result Place Error
member_place place None = Err MissingVersion
member_place place (Some view) = Ok place

-- the place of the version requirement of an entry, given its item and that of its key `version`
abbrev pub version_place_in : Place → Option View → Option View → Result Place Error
version_place_in place (Some (string text)) member = Ok place
version_place_in place (Some (table members)) member = member_place (version_member place) member
version_place_in place (Some (inline_table members)) member = member_place (version_member place) member
version_place_in place entry member = Err InvalidDependency

-- the place of the version requirement of the entry at a place, or the error
abbrev pub version_place : Tree → Place → Result Place Error
version_place t place = version_place_in place (t place) (t (version_member place))

-- ---- setting versions

-- the value at a place is replaced by this string, and everything else is unchanged
pub record SetsVersion (place : Place) (text : List ℕ) (old new : DocumentViews) : Type 0 where
  pub bytes : Replaces (one_edit place text) old.bytes new.bytes
  pub tree : (q : Place) → tree_of new q
      ≡ tree_with_strings (one_edit place text) (tree_without_below (one_edit place text) (tree_of old)) q

-- the item at the place is not written as a value
abbrev pub IsNoValue : DocumentViews → Place → Type 0
IsNoValue d place = IfDocument d.bytes (λ form. is_value_at form place ≡ false)

-- the errors of setting a version at a place: lack of memory, or it is not written as a value
abbrev pub IsUnset : DocumentViews → Place → Error → Type 0
IsUnset d place e = IsMemory e ⊎ ((e ≡ NoVersionPlace) × IsNoValue d place)

-- the version requirement of the entry at a place was replaced
pub record SetsDependency (place : Place) (text : List ℕ) (old new : DocumentViews) : Type 0 where
  pub literal : Place
  pub stands : version_place (tree_of old) place ≡ Ok literal
  pub sets : SetsVersion literal text old new

-- the error of setting the version requirement of an entry, given its place or the error of finding that
abbrev pub IsUnsetAt : DocumentViews → Result Place Error → Error → Type 0
IsUnsetAt d (Ok literal) e = (e ≡ NoVersionPlace) × IsNoValue d literal
IsUnsetAt d (Err why) e = e ≡ why

-- the errors of setting the version requirement of the entry at a place
abbrev pub IsUnsetDependency : DocumentViews → Place → Error → Type 0
IsUnsetDependency d place e = IsMemory e ⊎ IsUnsetAt d (version_place (tree_of d) place) e
