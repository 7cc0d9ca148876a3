-- What a policy says of crates, in the tables that were found for them, and where there are none.
use Rattle.std.proofs.Common.{◌≡◌, ◌∙◌, [], List, None, Option, Some, ap, codes, option_map, string_bytes, subst, sym, true, refl, ℕ}
use Rattle.std.specs.List.{AllZip}
use Rattle.std.specs.Option.{option_map_or}
use Rattle.edit_document.specs.ItemViews.{view_of}
use Rattle.edit_document.specs.Items.{is_tabular, names_in, string_in, viewed}
use Rattle.edit_tree.specs.Assertions.{Place}
use Rattle.edit_tree.specs.DocumentViews.{DocumentViews, tree_of}
use Rattle.edit_tree.specs.Tree.{View}
use Rattle.edit_version.specs.Requirement.{comparators_of, requirement_read}
use Rattle.edit_policy.specs.Policies.{AreCratePolicies, HasOnlyKeys, IsCratePolicy, item_under, member}
use Rattle.edit_policy.specs.PolicyTables.{IsTableAt, item_at, place_in, tree_in}
use Rattle.edit_policy.specs.Values.{Tree, by_text, is_fit, level_of, value_in}
use Rattle.edit_policy.specs.declared.keys.Expected.TheVariants.{Table}
use Rattle.edit_policy.specs.declared.keys.KeySet.TheVariants.{OfCrate}
use Rattle.edit_policy.specs.declared.policy.CratePolicy.{CratePolicy}
use Rattle.edit_policy.specs.declared.table.PolicyTable.{PolicyTable}
use Rattle.edit_policy.proofs.PolicyLemmas.{moved, no_keys, nothing_under, value_under}

-- what a policy says of a crate, in the table of the crate
pub crate_at : (d : DocumentViews) (crates : Place) (name : List ℕ) (table : PolicyTable) (c : CratePolicy)
    → IsTableAt d (member crates name) table
    → tree_in table (place_in table) ≡ Some (view_of table.item)
    → HasOnlyKeys OfCrate (tree_in table) (place_in table)
    → value_in (by_text requirement_read) (item_at table (codes "hold"))
    ≡ Some (option_map (λ h. comparators_of h.requirement) c.hold)
    → value_in string_in (item_at table (codes "hold")) ≡ Some (option_map (λ h. string_bytes h.text) c.hold)
    → value_in (by_text level_of) (item_at table (codes "level")) ≡ Some c.level
    → value_in string_in (item_at table (codes "reason")) ≡ Some (option_map string_bytes c.reason)
    → string_bytes c.name ≡ name → IsCratePolicy (tree_of d) crates name c
crate_at d crates name table c at there keys hold text level reason named =
    let place = member crates name in
    let t = tree_in table in
    let own = place_in table in
    let v = view_of table.item in
    record {
      named = named;
      keys = moved (λ w q. HasOnlyKeys OfCrate (tree_of w) q) d place table at keys;
      hold = moved (λ w q. value_in (by_text requirement_read) (item_under (tree_of w) q (codes "hold"))
          ≡ Some (option_map (λ h. comparators_of h.requirement) c.hold)) d place table at
          (value_under (by_text requirement_read) t own (codes "hold") v _ there hold);
      text = moved (λ w q. value_in string_in (item_under (tree_of w) q (codes "hold"))
          ≡ Some (option_map (λ h. string_bytes h.text) c.hold)) d place table at
          (value_under string_in t own (codes "hold") v _ there text);
      level = moved (λ w q. value_in (by_text level_of) (item_under (tree_of w) q (codes "level"))
          ≡ Some c.level) d place table at
          (value_under (by_text level_of) t own (codes "level") v _ there level);
      reason = moved (λ w q. value_in string_in (item_under (tree_of w) q (codes "reason"))
          ≡ Some (option_map string_bytes c.reason)) d place table at
          (value_under string_in t own (codes "reason") v _ there reason);
    }

-- nothing is said of a crate where it has no table
pub absent_crate : (t : Tree) (crates : Place) (name : List ℕ) (c : CratePolicy)
    → t (member crates name) ≡ None → string_bytes c.name ≡ name → c.hold ≡ None → c.level ≡ None
    → c.reason ≡ None → IsCratePolicy t crates name c
absent_crate t crates name c none named hold level reason =
    let place = member crates name in
    record {
      named = named;
      keys = no_keys OfCrate t place none;
      hold = ap (value_in (by_text requirement_read)) (nothing_under t place (codes "hold") none)
          ∙ ap (λ o. Some (option_map (λ h. comparators_of h.requirement) o)) (sym hold);
      text = ap (value_in string_in) (nothing_under t place (codes "hold") none)
          ∙ ap (λ o. Some (option_map (λ h. string_bytes h.text) o)) (sym hold);
      level = ap (value_in (by_text level_of)) (nothing_under t place (codes "level") none)
          ∙ ap Some (sym level);
      reason = ap (value_in string_in) (nothing_under t place (codes "reason") none)
          ∙ ap (λ o. Some (option_map string_bytes o)) (sym reason);
    }

-- an item that is a table is one where a table is expected
tabular_fit : (o : Option View) → is_tabular (viewed o) ≡ true → is_fit Table o ≡ true
tabular_fit None h = refl
tabular_fit (Some v) h = h

-- the names in an item are those in its view
names_viewed : (o : Option View) → names_in (viewed o) ≡ option_map_or names_in o []
names_viewed None = refl
names_viewed (Some v) = refl

-- what a policy says of crates, in the table of crates
pub crates_at : (d : DocumentViews) (place : Place) (table : PolicyTable) (cs : List CratePolicy)
    → IsTableAt d place table
    → AllZip (IsCratePolicy (tree_in table) (place_in table)) (names_in (view_of table.item)) cs
    → AreCratePolicies (tree_of d) place (tree_of d place) cs
crates_at d place table cs at each =
    let t = tree_in table in
    let own = place_in table in
    moved (λ w q. AreCratePolicies (tree_of w) q (tree_of w q) cs) d place table at (record {
      is_table = tabular_fit (t own) table.tabular;
      each = subst (λ (names : List (List ℕ)). AllZip (IsCratePolicy t own) names cs)
          (names_viewed (t own)) each;
    })
