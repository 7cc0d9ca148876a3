-- Examples of updates of entries.
use Rattle.std.proofs.Common.{◌≡◌, [], refl}
use Rattle.std.specs.Prelude.{ℕ, true, false, List, ◌∷◌, ◌++◌, Some, None, codes, map}
use Rattle.edit_tree.specs.Assertions.{key}
use Rattle.edit_tree.specs.NewItems.{a_string, a_truth, a_list, a_table}
use Rattle.edit_tree.specs.DocumentViews.{node_at}
use Rattle.edit_tree.specs.Tree.{string, table, truth}
use Rattle.edit_record.specs.EntryRecords.{EntryRecord, from_registry, from_path, from_git, from_workspace, bare_record}
use Rattle.edit_update.specs.EntryUpdates.{Change, writes, removes, replaced_by, changed_by, update_of}
use Rattle.edit_record.specs.ReadEntries.{repository}
use Rattle.edit_record.proofs.SampleEntries.{x, foo, one_string, entry, says, with_features}

-- `dep` at 1.0 in a registry
abbrev dep : EntryRecord
dep = bare_record (codes "dep") (from_registry (codes "1.0"))

abbrev root : List ℕ
root = codes "/"

-- removals, in this order; removing a key that is not there changes nothing
abbrev gone : List (List ℕ) → List Change
gone names = map removes names

-- the keys that a dependency without options removes, after those of its source
abbrev options : List (List ℕ)
options = codes "default-features" ∷ codes "features" ∷ codes "optional" ∷ []

-- the keys of sources other than a registry
abbrev not_registry : List (List ℕ)
not_registry =
    codes "path" ∷ codes "git" ∷ codes "branch" ∷ codes "tag" ∷ codes "rev" ∷ codes "workspace" ∷ []

-- ---- entries that are replaced

-- `x = "1"`, update to registry `2`, optional true: `{ version = "2", optional = true }`
pub string_replaced : update_of (one_string (codes "1")) true root
    (record (bare_record x (from_registry (codes "2"))) { optional = Some true })
    ≡ replaced_by (a_table false ((codes "version", a_string (codes "2"))
    ∷ (codes "optional", a_truth true) ∷ []))
string_replaced = refl

-- `x.version = "1"`, update to a workspace source: `x.workspace = true`
pub dotted_replaced : update_of (node_at (([], table (key (codes "version") ∷ []))
    ∷ (key (codes "version") ∷ [], string (codes "1")) ∷ [])) true root (bare_record x from_workspace)
    ≡ replaced_by (a_table true ((codes "workspace", a_truth true) ∷ []))
dotted_replaced = refl

-- a table header with one key is not a single key/value pair: its key is written
pub section_stays : update_of (entry (says (codes "version") (codes "1") ∷ [])) false root dep
    ≡ changed_by (writes (codes "version") (a_string (codes "1.0"))
    ∷ gone (not_registry ++ codes "registry" ∷ options))
section_stays = refl

-- ---- entries that are edited key by key

-- `{ git = "u", branch = "b" }`, update to git `u`, tag `t`: the branch goes
pub branch_to_tag : update_of (entry (says (codes "git") (codes "u") ∷ says (codes "branch") (codes "b")
    ∷ [])) true root
    (bare_record x (from_git (repository (codes "u") None (Some (codes "t")) None None)))
    ≡ changed_by (writes (codes "git") (a_string (codes "u")) ∷ writes (codes "tag") (a_string (codes "t"))
    ∷ gone (codes "branch" ∷ codes "rev" ∷ codes "version" ∷ codes "path" ∷ codes "workspace"
    ∷ codes "registry" ∷ options))
branch_to_tag = refl

-- `{ version = "1", features = ["a", "b"] }`, update to registry `2`, features b, a, optional true
pub features_joined : update_of (with_features 2 (string (codes "a"))) true root
    (record (bare_record x (from_registry (codes "2"))) {
      features = Some (codes "b" ∷ codes "a" ∷ []);
      optional = Some true;
    })
    ≡ changed_by (writes (codes "version") (a_string (codes "2"))
    ∷ writes (codes "features") (a_list (codes "a" ∷ codes "b" ∷ []))
    ∷ writes (codes "optional") (a_truth true)
    ∷ gone (not_registry ++ codes "registry" ∷ codes "default-features" ∷ []))
features_joined = refl

-- `{ version = "1", features = [true, "b"] }`, update with feature c: the old list has something else than a
-- string and counts as empty
pub strange_features : update_of (with_features 2 (truth true)) true root
    (record dep { features = Some (codes "c" ∷ []) })
    ≡ changed_by (writes (codes "version") (a_string (codes "1.0"))
    ∷ writes (codes "features") (a_list (codes "c" ∷ []))
    ∷ gone (not_registry ++ codes "registry" ∷ codes "default-features" ∷ codes "optional" ∷ []))
strange_features = refl

-- `{ version = "1", registry = "r" }`, update to the path `/bar` in `/foo`: neither stays
pub registry_to_path : update_of (entry (says (codes "version") (codes "1")
    ∷ says (codes "registry") (codes "r") ∷ [])) true foo (bare_record x (from_path (codes "/bar") None))
    ≡ changed_by (writes (codes "path") (a_string (codes "../bar"))
    ∷ gone (codes "version" ∷ codes "git" ∷ codes "branch" ∷ codes "tag" ∷ codes "rev" ∷ codes "workspace"
    ∷ codes "registry" ∷ options))
registry_to_path = refl

-- `{ version = "1", package = "y", registry-index = "i", optional = true }`, update to a workspace source
pub all_to_workspace : update_of (entry (says (codes "version") (codes "1")
    ∷ says (codes "package") (codes "y") ∷ says (codes "registry-index") (codes "i")
    ∷ (codes "optional", truth true) ∷ [])) true root (bare_record x from_workspace)
    ≡ changed_by (writes (codes "workspace") (a_truth true)
    ∷ gone (codes "version" ∷ codes "path" ∷ codes "git" ∷ codes "branch" ∷ codes "tag" ∷ codes "rev"
    ∷ codes "registry-index" ∷ codes "registry" ∷ codes "package" ∷ options))
all_to_workspace = refl

-- `{ version = "1", package = "y" }`, update of a record without a source, from the registry `r`
pub no_source : update_of (entry (says (codes "version") (codes "1") ∷ says (codes "package") (codes "y")
    ∷ [])) true root (record dep { origin = None; registry = Some (codes "r") })
    ≡ changed_by (writes (codes "registry") (a_string (codes "r")) ∷ gone options)
no_source = refl
