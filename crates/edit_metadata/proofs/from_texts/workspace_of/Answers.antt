use Rattle.std.proofs.Common.{◌≡◌, ℕ, List, map, rules, Some, true, subst, sym, ap, ◌∙◌, string_bytes, arith}
use Rattle.std.specs.List.{AllZip}
use Rattle.std.specs.Prelude.{IfSome, codes}
use Rattle.serde_json.specs.Data.{Data}
use Rattle.edit_metadata.specs.Metadata.{IsPackageValue, is_listed, is_root_path, text_at}
use Rattle.edit_metadata.specs.Reading.{holds}
use Rattle.edit_metadata.specs.Texts.{HasMemberIds, HasPackageTexts, HasPackages}
use Rattle.edit_metadata.specs.Workspaces.{package_view, packages_view}
use Rattle.edit_metadata.proofs.UniqueWorkspaces.{packages-as}
use Rattle.edit_metadata.proofs.from_texts.workspace_of.Goals as goal

pub returns-clause-ok : goal.returns-clause-ok
returns-clause-ok c = λ d shows.
    let root = subst (λ o. IfSome o (λ s. text_at (codes "workspace_root") d ≡ Some s.now)) c.in-Some.is shows.root in
    let ids = map (λ s. s.now) c.in-Some-ids.ids.items in
    let listed = subst (λ o. IfSome o (λ v. HasMemberIds d (map (λ s. s.now) v.items))) c.in-Some-ids.is shows.ids in
    let said = subst (λ o. IfSome o (λ v. HasPackages d v.items)) c.in-Some-packages.is shows.packages in
    let set = c.in_ok-ids.ids in
    let same : (id : List ℕ) → holds set id ≡ is_listed ids id =
    subst (λ xs. (id : List ℕ) → holds set id ≡ is_listed (map (λ s. s.now) xs) id) c.as_slice.ensures.value c.in_ok-ids.ensures in
    let packages = subst (λ o. IfSome o (λ v. (ds : List Data) → AllZip HasPackageTexts ds c.as_slice-2.result.now
    → AllZip (IsPackageValue (holds set)) ds (map package_view v.items))) c.in-Some-2.is c.in_ok-packages.ensures.ok in
    let shown = subst (λ ts. AllZip HasPackageTexts said.0 ts) (sym c.as_slice-2.ensures.value) said.2 in
    let copied : string_bytes c.in_ok-from_str.field-0 ≡ c.in-Some.root.now = c.in_ok-from_str.ensures.ok in
    let absolute : is_root_path c.in-Some.root.now ≡ true = search rules in
    record {
      root = root ∙ ap Some (sym copied);
      absolute = ap is_root_path copied ∙ absolute;
      listed = listed.0;
      has_members = listed.1;
      ids = ids;
      are_ids = listed.2;
      values = said.0;
      has_packages = said.1;
      packages = packages-as (holds set) (is_listed ids) same said.0 (packages_view c.in-Some-2.packages.items) (packages said.0 shown);
    }
