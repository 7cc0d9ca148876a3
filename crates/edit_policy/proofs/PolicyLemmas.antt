-- The policy in a table that was found, and one where there is no table.
use Rattle.std.proofs.Common.{◌≡◌, ◌∙◌, [], All, List, None, Option, Some, ap, codes, false, map, option_map, string_bytes, subst, sym, ℕ}
use Rattle.std.proofs.lemmas.List.Elements.{All-nil}
use Rattle.std.specs.Prelude.{option_and_then}
use Rattle.std.specs.List.{AllZip}
use Rattle.std.specs.Option.{option_map_or}
use Rattle.edit_document.specs.ItemViews.{document_of}
use Rattle.edit_document.specs.Items.{names_in, truth_in}
use Rattle.edit_tree.specs.Assertions.{Place}
use Rattle.edit_tree.specs.DocumentViews.{DocumentViews, tree_of}
use Rattle.edit_tree.specs.Tree.{View}
use Rattle.edit_version.specs.RustVersions.{numbers_of, rust_of}
use Rattle.edit_policy.specs.Faults.{InPolicy, IsFault}
use Rattle.edit_policy.specs.Policies.{AreCratePolicies, HasOnlyKeys, IsCratePolicy, IsEmpty, IsPolicy, is_stray, item_under, member}
use Rattle.edit_policy.specs.PolicyTables.{IsTableAt, place_in, tree_in}
use Rattle.edit_policy.specs.Values.{Tree, by_text, days_in, is_fit, level_of, status_of, texts_in, value_in}
use Rattle.edit_policy.specs.declared.error.PolicyError.{PolicyError}
use Rattle.edit_policy.specs.declared.keys.Expected.TheVariants.{Table}
use Rattle.edit_policy.specs.declared.keys.KeySet.{KeySet}
use Rattle.edit_policy.specs.declared.keys.KeySet.TheVariants.{OfPolicy}
use Rattle.edit_policy.specs.declared.policy.CratePolicy.{CratePolicy}
use Rattle.edit_policy.specs.declared.policy.Policy.{Policy}
use Rattle.edit_policy.specs.declared.table.PolicyTable.{PolicyTable}

-- what holds of a tree and a place holds of those of a table
pub moved : (P : DocumentViews → Place → Type 0) (d : DocumentViews) (place : Place) (table : PolicyTable)
    → IsTableAt d place table → P (document_of table.item) (place_in table) → P d place
moved P d place table at h =
    subst (P d) at.at (subst (λ (v : DocumentViews). P v (place_in table)) at.document h)

-- the policy in the table at a place
pub policy_at : (d : DocumentViews) (place : Place) (table : PolicyTable) (p : Policy)
    → IsTableAt d place table → IsPolicy (tree_in table) (place_in table) p → IsPolicy (tree_of d) place p
policy_at d place table p at h = moved (λ v q. IsPolicy (tree_of v) q p) d place table at h

-- an error of that policy
pub fault_at : (d : DocumentViews) (place : Place) (table : PolicyTable) (e : PolicyError)
    → IsTableAt d place table → IsFault (InPolicy (place_in table)) (tree_in table) e
    → IsFault (InPolicy place) (tree_of d) e
fault_at d place table e at h = moved (λ v q. IsFault (InPolicy q) (tree_of v) e) d place table at h

-- what is read under a key of a table
pub value_under : {A : Type 0} (read : View → Option A) (t : Tree) (table : Place) (name : List ℕ) (v : View)
    (x : Option (Option A)) → t table ≡ Some v → value_in read (t (member table name)) ≡ x
    → value_in read (item_under t table name) ≡ x
value_under read t table name v x there h =
    ap (λ (o : Option View). value_in read (option_and_then (λ w. t (member table name)) o)) there ∙ h

-- there is no item under a key where there is no table
pub nothing_under : (t : Tree) (table : Place) (name : List ℕ) → t table ≡ None
    → item_under t table name ≡ None
nothing_under t table name none =
    ap (λ (o : Option View). option_and_then (λ v. t (member table name)) o) none

-- no table has no unknown keys
pub no_keys : (keys : KeySet) (t : Tree) (table : Place) → t table ≡ None → HasOnlyKeys keys t table
no_keys keys t table none = record {
  is_table = ap (is_fit Table) none;
  known = subst (λ (o : Option View). All (λ name. is_stray keys t table name ≡ false)
      (option_map_or names_in o [])) (sym none)
      (All-nil (λ name. is_stray keys t table name ≡ false));
}

-- no table of crates says nothing of crates
pub no_crates : (t : Tree) (crates : Place) (item : Option View) (cs : List CratePolicy) → item ≡ None
    → cs ≡ [] → AreCratePolicies t crates item cs
no_crates t crates item cs none is = record {
  is_table = ap (is_fit Table) none;
  each = subst
      (λ (xs : List CratePolicy). AllZip (IsCratePolicy t crates) (option_map_or names_in item []) xs)
      (sym is)
      (subst (λ (o : Option View). AllZip (IsCratePolicy t crates) (option_map_or names_in o []) [])
      (sym none) tt);
}

-- the policy in a table, by what is read under its keys
pub present_policy : (t : Tree) (table : Place) (v : View) (p : Policy) → t table ≡ Some v
    → HasOnlyKeys OfPolicy t table
    → texts_in t (member table (codes "exclude")) (t (member table (codes "exclude")))
    ≡ Some (map string_bytes p.exclude.items)
    → value_in (by_text status_of) (t (member table (codes "compatible"))) ≡ Some p.compatible
    → value_in (by_text status_of) (t (member table (codes "incompatible"))) ≡ Some p.incompatible
    → value_in (by_text status_of) (t (member table (codes "pinned"))) ≡ Some p.pinned
    → value_in truth_in (t (member table (codes "never-lower"))) ≡ Some p.never_lower
    → value_in (by_text level_of) (t (member table (codes "level"))) ≡ Some p.level
    → value_in days_in (t (member table (codes "min-age"))) ≡ Some p.min_age
    → value_in (by_text rust_of) (t (member table (codes "rust-version")))
    ≡ Some (option_map numbers_of p.rust_version)
    → AreCratePolicies t (member table (codes "crates")) (t (member table (codes "crates"))) p.crates.items
    → IsPolicy t table p
present_policy t table v p there keys exclude compatible incompatible pinned lower level age rust crates =
    let under : (name : List ℕ) → item_under t table name ≡ t (member table name) =
    λ name. ap (λ (o : Option View). option_and_then (λ w. t (member table name)) o) there in
    record {
      keys = keys;
      exclude = ap (texts_in t (member table (codes "exclude"))) (under (codes "exclude")) ∙ exclude;
      compatible = value_under (by_text status_of) t table (codes "compatible") v _ there compatible;
      incompatible = value_under (by_text status_of) t table (codes "incompatible") v _ there incompatible;
      pinned = value_under (by_text status_of) t table (codes "pinned") v _ there pinned;
      never_lower = value_under truth_in t table (codes "never-lower") v _ there lower;
      level = value_under (by_text level_of) t table (codes "level") v _ there level;
      min_age = value_under days_in t table (codes "min-age") v _ there age;
      rust_version = value_under (by_text rust_of) t table (codes "rust-version") v _ there rust;
      crates = subst
          (λ (o : Option View). AreCratePolicies t (member table (codes "crates")) o p.crates.items)
          (sym (under (codes "crates"))) crates;
    }

-- a policy that says nothing is the one where there is no table
pub absent_policy : (t : Tree) (table : Place) (p : Policy) → t table ≡ None → IsEmpty p → IsPolicy t table p
absent_policy t table p none empty =
    let under : (name : List ℕ) → item_under t table name ≡ None = λ name. nothing_under t table name none in
    record {
      keys = no_keys OfPolicy t table none;
      exclude = ap (texts_in t (member table (codes "exclude"))) (under (codes "exclude"))
          ∙ ap (λ xs. Some (map string_bytes xs)) (sym empty.exclude);
      compatible = ap (value_in (by_text status_of)) (under (codes "compatible"))
          ∙ ap Some (sym empty.compatible);
      incompatible = ap (value_in (by_text status_of)) (under (codes "incompatible"))
          ∙ ap Some (sym empty.incompatible);
      pinned = ap (value_in (by_text status_of)) (under (codes "pinned")) ∙ ap Some (sym empty.pinned);
      never_lower = ap (value_in truth_in) (under (codes "never-lower")) ∙ ap Some (sym empty.never_lower);
      level = ap (value_in (by_text level_of)) (under (codes "level")) ∙ ap Some (sym empty.level);
      min_age = ap (value_in days_in) (under (codes "min-age")) ∙ ap Some (sym empty.min_age);
      rust_version = ap (value_in (by_text rust_of)) (under (codes "rust-version"))
          ∙ ap (λ o. Some (option_map numbers_of o)) (sym empty.rust_version);
      crates = no_crates t (member table (codes "crates")) (item_under t table (codes "crates"))
          p.crates.items (under (codes "crates")) empty.crates;
    }
