-- The policy that stands in a table of a document (own).
use Rattle.std.specs.Prelude.{◌≡◌, ◌&&◌, [], ℕ, List, All, Bool, Option, Some, None, codes, true, false, if◌then◌else◌, is_some, map, option_and_then, option_map, string_bytes}
use Rattle.std.specs.List.{AllZip}
use Rattle.std.specs.Option.{option_map_or}
use Rattle.edit_document.specs.Items.{names_in, string_in, truth_in}
use Rattle.edit_tree.specs.Assertions.{Place, at, key}
use Rattle.edit_tree.specs.Tree.{View}
use Rattle.edit_version.specs.Requirement.{comparators_of, requirement_read}
use Rattle.edit_version.specs.RustVersions.{numbers_of, rust_of}
use Rattle.edit_policy.specs.Keys.{expected_at, is_absent}
use Rattle.edit_policy.specs.Values.{Tree, by_text, days_in, is_fit, level_of, status_of, texts_in, value_in}
use Rattle.edit_policy.specs.declared.keys.Expected.TheVariants.{Table}
use Rattle.edit_policy.specs.declared.keys.KeySet.{KeySet}
use Rattle.edit_policy.specs.declared.keys.KeySet.TheVariants.{OfCrate, OfPolicy}
use Rattle.edit_policy.specs.declared.policy.CratePolicy.{CratePolicy}
use Rattle.edit_policy.specs.declared.policy.Policy.{Policy}

-- the keys of the table at a place; none where no table is there (own)
abbrev pub names_at : Tree → Place → List (List ℕ)
names_at t place = option_map_or names_in (t place) []

-- the place of a key of the table at a place (own)
abbrev pub member : Place → List ℕ → Place
member table name = at table (key name)

-- whether a table has an item under a key that is unknown (own)
abbrev pub is_stray : KeySet → Tree → Place → List ℕ → Bool
is_stray keys t table name = is_absent (expected_at keys name) && is_some (t (member table name))

-- the item at a place is a table without unknown keys, or there is none (own)
pub record HasOnlyKeys (keys : KeySet) (t : Tree) (table : Place) : Type 0 where
  pub is_table : is_fit Table (t table) ≡ true
  pub known : All (λ name. is_stray keys t table name ≡ false) (names_at t table)

-- the item under a key of the table at a place; none where no item is at that place (own)
abbrev pub item_under : Tree → Place → List ℕ → Option View
item_under t table name = option_and_then (λ v. t (member table name)) (t table)

-- what a policy says of the crate of this name, in the table that it has within a table of crates (own)
pub record IsCratePolicy (t : Tree) (crates : Place) (name : List ℕ) (c : CratePolicy) : Type 0 where
  pub named : string_bytes c.name ≡ name
  pub keys : HasOnlyKeys OfCrate t (member crates name)
  pub hold : value_in (by_text requirement_read) (item_under t (member crates name) (codes "hold"))
      ≡ Some (option_map (λ h. comparators_of h.requirement) c.hold)
  pub text : value_in string_in (item_under t (member crates name) (codes "hold"))
      ≡ Some (option_map (λ h. string_bytes h.text) c.hold)
  pub level : value_in (by_text level_of) (item_under t (member crates name) (codes "level"))
      ≡ Some c.level
  pub reason : value_in string_in (item_under t (member crates name) (codes "reason"))
      ≡ Some (option_map string_bytes c.reason)

-- what a policy says of crates, in the order of a table that has a table for each; nothing where there is no
-- such table (own)
pub record AreCratePolicies (t : Tree) (crates : Place) (item : Option View) (cs : List CratePolicy)
    : Type 0 where
  pub is_table : is_fit Table item ≡ true
  pub each : AllZip (IsCratePolicy t crates) (option_map_or names_in item []) cs

-- the policy in the table at a place: each field is what stands at its key, and there are no other keys; where
-- there is no table, the policy says nothing (own)
pub record IsPolicy (t : Tree) (table : Place) (p : Policy) : Type 0 where
  pub keys : HasOnlyKeys OfPolicy t table
  pub exclude : texts_in t (member table (codes "exclude")) (item_under t table (codes "exclude"))
      ≡ Some (map string_bytes p.exclude.items)
  pub compatible : value_in (by_text status_of) (item_under t table (codes "compatible"))
      ≡ Some p.compatible
  pub incompatible : value_in (by_text status_of) (item_under t table (codes "incompatible"))
      ≡ Some p.incompatible
  pub pinned : value_in (by_text status_of) (item_under t table (codes "pinned")) ≡ Some p.pinned
  pub never_lower : value_in truth_in (item_under t table (codes "never-lower")) ≡ Some p.never_lower
  pub level : value_in (by_text level_of) (item_under t table (codes "level")) ≡ Some p.level
  pub min_age : value_in days_in (item_under t table (codes "min-age")) ≡ Some p.min_age
  pub rust_version : value_in (by_text rust_of) (item_under t table (codes "rust-version"))
      ≡ Some (option_map numbers_of p.rust_version)
  pub crates : AreCratePolicies t (member table (codes "crates")) (item_under t table (codes "crates"))
      p.crates.items

-- a policy says nothing (own)
pub record IsEmpty (p : Policy) : Type 0 where
  pub exclude : p.exclude.items ≡ []
  pub compatible : p.compatible ≡ None
  pub incompatible : p.incompatible ≡ None
  pub pinned : p.pinned ≡ None
  pub never_lower : p.never_lower ≡ None
  pub level : p.level ≡ None
  pub min_age : p.min_age ≡ None
  pub rust_version : p.rust_version ≡ None
  pub crates : p.crates.items ≡ []

-- the place of a manifest's policy: `workspace.metadata.cargo-edit` where there is a workspace, else
-- `package.metadata.cargo-edit` (own)
abbrev pub policy_place : Tree → Place
policy_place t =
    let root = if is_some (t (member [] (codes "workspace"))) then codes "workspace" else codes "package" in
    member (member (member [] root) (codes "metadata")) (codes "cargo-edit")
