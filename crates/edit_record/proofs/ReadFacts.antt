-- Examples of entries with the dependencies or errors of reading them, and of displayed dependencies.
use Rattle.std.proofs.Common.{◌≡◌, [], refl}
use Rattle.std.specs.Prelude.{ℕ, true, false, List, ◌∷◌, Some, None, Result, Ok, Err, codes}
use Rattle.edit_tree.specs.Assertions.{key}
use Rattle.edit_tree.specs.DocumentViews.{node_at}
use Rattle.edit_tree.specs.Tree.{string, truth, whole, table_array, table}
use Rattle.edit_record.specs.EntryRecords.{EntryRecord, from_registry, from_path, from_git, from_workspace, EntryError, wrong_type, workspace_false, unknown_source, old_default_features, unknown_entry, bare_record}
use Rattle.edit_record.specs.EntryTexts.{origin_text, record_text}
use Rattle.edit_record.specs.ReadEntries.{repository, record_of}
use Rattle.edit_record.specs.RecordViews.{entry_error_text}
use Rattle.edit_record.proofs.SampleEntries.{x, foo, one_string, entry, reads, says, flag, number, with_features}

-- ---- entries that can be read

-- `x = "1.0+a"`
pub plain_string : reads (one_string (codes "1.0+a")) ≡ Ok (bare_record x (from_registry (codes "1.0")))
plain_string = refl

-- `x = { version = "1" }`
pub plain_table : reads (entry (says (codes "version") (codes "1") ∷ []))
    ≡ Ok (bare_record x (from_registry (codes "1")))
plain_table = refl

-- `x = { path = "../bar", version = "1" }`
pub a_path : reads (entry (says (codes "path") (codes "../bar") ∷ says (codes "version") (codes "1") ∷ []))
    ≡ Ok (bare_record x (from_path (codes "/foo/../bar") (Some (codes "1"))))
a_path = refl

-- `x = { path = "/bar" }`
pub an_absolute_path : reads (entry (says (codes "path") (codes "/bar") ∷ []))
    ≡ Ok (bare_record x (from_path (codes "/bar") None))
an_absolute_path = refl

-- `x = { rev = "r", tag = "t", branch = "b", git = "u", path = "p" }`: the last of the three, and no path
pub a_revision : reads (entry (says (codes "rev") (codes "r") ∷ says (codes "tag") (codes "t")
    ∷ says (codes "branch") (codes "b") ∷ says (codes "git") (codes "u")
    ∷ says (codes "path") (codes "p") ∷ []))
    ≡ Ok (bare_record x (from_git (repository (codes "u") None None (Some (codes "r")) None)))
a_revision = refl

-- `x.workspace = true`
pub of_the_workspace : record_of (node_at (([], table (key (codes "workspace") ∷ []))
    ∷ (key (codes "workspace") ∷ [], truth true) ∷ [])) [] foo x
    ≡ Ok (bare_record x from_workspace)
of_the_workspace = refl

-- `x = { package = "dep", version = "1" }`
pub renamed : reads (entry (says (codes "package") (codes "dep") ∷ says (codes "version") (codes "1")
    ∷ []))
    ≡ Ok (record (bare_record x (from_registry (codes "1"))) { name = codes "dep"; rename = Some x })
renamed = refl

-- `x = { version = "1", registry = "alternative", default-features = false, optional = true }`
pub with_options : reads (entry (says (codes "version") (codes "1")
    ∷ says (codes "registry") (codes "alternative")
    ∷ (codes "default-features", truth false) ∷ flag (codes "optional") ∷ []))
    ≡ Ok (record (bare_record x (from_registry (codes "1"))) {
      registry = Some
          (codes "alternative");
      default_features = Some false;
      optional = Some true;
    })
with_options = refl

-- `x = { version = "1", optional = "true", default-features = 1 }`: they count only as booleans
pub no_booleans : reads (entry (says (codes "version") (codes "1") ∷ says (codes "optional") (codes "true")
    ∷ number (codes "default-features") ∷ []))
    ≡ Ok (bare_record x (from_registry (codes "1")))
no_booleans = refl

-- `x = { version = "1", features = ["a", "b"] }`
pub two_features : reads (with_features 2 (string (codes "a")))
    ≡ Ok (record (bare_record x (from_registry (codes "1"))) {
      features = Some (codes "a" ∷ codes "b"
          ∷ []);
    })
two_features = refl

-- an entry that is nested deeper in its tree
pub below_a_place : record_of (node_at ((key (codes "dependencies") ∷ key x ∷ [], string (codes "1"))
    ∷ [])) (key (codes "dependencies") ∷ key x ∷ []) foo x
    ≡ Ok (bare_record x (from_registry (codes "1")))
below_a_place = refl

-- ---- errors

-- a wrong type where a string is expected
abbrev no_text : List ℕ → Result EntryRecord EntryError
no_text name = Err (wrong_type (codes "integer") name (codes "string") x)

-- `x = { version = 1 }`, and the text of its error
pub version_number : reads (entry (number (codes "version") ∷ [])) ≡ no_text (codes "version")
version_number = refl

pub version_number_text : entry_error_text (wrong_type (codes "integer") (codes "version") (codes "string") x)
    ≡ codes "Found integer for version when string was expected for x"
version_number_text = refl

-- `x = { workspace = false }`, and the text of its error
pub workspace_is_false : reads (entry ((codes "workspace", truth false) ∷ [])) ≡ Err (workspace_false x)
workspace_is_false = refl

pub workspace_false_text : entry_error_text (workspace_false x) ≡ codes "`x.workspace = false` is unsupported"
workspace_false_text = refl

-- `x = 1`, `[[dependencies.x]]`, and nothing at all
pub a_number : reads (node_at (([], whole (codes "1")) ∷ [])) ≡ Err (unknown_entry x)
a_number = refl

pub tables : reads (node_at (([], table_array 1) ∷ [])) ≡ Err (unknown_entry x)
tables = refl

pub absent : reads (node_at []) ≡ Err (unknown_entry x)
absent = refl

-- `x = {}`, and `x = { branch = 1 }`: what belongs to `git` is not read without it
pub no_source : reads (entry []) ≡ Err (unknown_source x)
no_source = refl

pub branch_alone : reads (entry (number (codes "branch") ∷ [])) ≡ Err (unknown_source x)
branch_alone = refl

-- `x = { default_features = false }` has no source; with `version = "1"` the spelling is the error
pub spelling_alone : reads (entry (flag (codes "default_features") ∷ [])) ≡ Err (unknown_source x)
spelling_alone = refl

pub spelling : reads (entry (says (codes "version") (codes "1") ∷ flag (codes "default_features")
    ∷ flag (codes "default-features") ∷ []))
    ≡ Err (old_default_features x)
spelling = refl

-- `package`, `git`, `path`, `registry` as numbers; the first check that fails gives the error
pub package_number : reads (entry (number (codes "version") ∷ number (codes "package") ∷ []))
    ≡ no_text (codes "package")
package_number = refl

pub git_number : reads (entry (number (codes "path") ∷ number (codes "git") ∷ [])) ≡ no_text (codes "git")
git_number = refl

pub path_number : reads (entry (number (codes "version") ∷ number (codes "path") ∷ []))
    ≡ no_text (codes "path")
path_number = refl

pub registry_number : reads (entry (number (codes "registry") ∷ says (codes "version") (codes "1")
    ∷ flag (codes "default_features") ∷ []))
    ≡ no_text (codes "registry")
registry_number = refl

-- `branch`, `tag`, `rev`, `version` beside `git`, each behind those before it
pub branch_number : reads (entry (says (codes "git") (codes "u") ∷ number (codes "tag")
    ∷ number (codes "branch") ∷ [])) ≡ no_text (codes "branch")
branch_number = refl

pub tag_number : reads (entry (says (codes "git") (codes "u") ∷ number (codes "rev")
    ∷ number (codes "tag") ∷ [])) ≡ no_text (codes "tag")
tag_number = refl

pub rev_number : reads (entry (says (codes "git") (codes "u") ∷ number (codes "version")
    ∷ number (codes "rev") ∷ [])) ≡ no_text (codes "rev")
rev_number = refl

-- `x = { workspace = "true" }`
pub workspace_text : reads (entry (says (codes "workspace") (codes "true") ∷ []))
    ≡ Err (wrong_type (codes "string") (codes "workspace") (codes "bool") x)
workspace_text = refl

-- `features = "a"` and `features = [true, "b"]`
pub features_text : reads (entry (says (codes "version") (codes "1")
    ∷ says (codes "features") (codes "a") ∷ []))
    ≡ Err (wrong_type (codes "string") (codes "features") (codes "array") x)
features_text = refl

pub feature_flag : reads (with_features 2 (truth true))
    ≡ Err (wrong_type (codes "boolean") (codes "features") (codes "string") x)
feature_flag = refl

-- ---- a wrong requirement beside `git` and beside `path`

-- `x = { git = "u", version = 1 }`, `x = { path = "p", version = 1 }`
pub version_beside_git : reads (entry (says (codes "git") (codes "u") ∷ number (codes "version") ∷ []))
    ≡ no_text (codes "version")
version_beside_git = refl

pub version_beside_path : reads (entry (says (codes "path") (codes "p") ∷ number (codes "version") ∷ []))
    ≡ no_text (codes "version")
version_beside_path = refl

-- `x = { git = "u", branch = "b", tag = "t" }`: the record has the tag alone
pub a_tag : reads (entry (says (codes "git") (codes "u") ∷ says (codes "branch") (codes "b")
    ∷ says (codes "tag") (codes "t") ∷ []))
    ≡ Ok (bare_record x (from_git (repository (codes "u") None (Some (codes "t")) None None)))
a_tag = refl

-- ---- displayed dependencies

-- with a source: its name and the source
pub called_by_version : record_text (bare_record x (from_registry (codes "1.0"))) ≡ codes "x@1.0"
called_by_version = refl

pub called_by_path : record_text (bare_record x (from_path (codes "/w/x") (Some (codes "1"))))
    ≡ codes "x@/w/x"
called_by_path = refl

pub called_by_workspace : record_text (bare_record x from_workspace) ≡ codes "x@workspace"
called_by_workspace = refl

-- a Git source: the branch before the tag before the revision
pub called_by_branch : origin_text
    (from_git (record (repository (codes "u") None (Some (codes "t")) None None)
    { branch = Some (codes "b") })) ≡ codes "u?branch=b"
called_by_branch = refl

pub called_by_tag : origin_text (from_git (repository (codes "u") None (Some (codes "t")) None None))
    ≡ codes "u?tag=t"
called_by_tag = refl

pub called_by_rev : origin_text (from_git (repository (codes "u") None None (Some (codes "r")) None))
    ≡ codes "u?rev=r"
called_by_rev = refl

pub called_by_address : origin_text (from_git (repository (codes "u") None None None None)) ≡ codes "u"
called_by_address = refl

-- without a source: its key
pub called_by_key : record_text (record (bare_record (codes "dep") from_workspace)
    { origin = None; rename = Some (codes "d") }) ≡ codes "d"
called_by_key = refl
