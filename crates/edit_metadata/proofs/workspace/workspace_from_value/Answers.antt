use Rattle.std.proofs.Common.{⊎_elim, inl, inr, map, rules, sym}
use Rattle.serde_json.specs.View.{view}
use Rattle.edit_metadata.specs.Metadata.{IsWorkspaceValue, is_listed}
use Rattle.edit_metadata.specs.Reading.{IsReadingError, holds}
use Rattle.edit_metadata.specs.Workspaces.{packages_view}
use Rattle.edit_metadata.proofs.UniqueWorkspaces.{packages-as, packages-within}
use Rattle.edit_metadata.proofs.workspace.workspace_from_value.Goals as goal

pub returns-in_err-packages : goal.returns-in_err-packages
returns-in_err-packages c =
    let d = view c.args.value.now in
    let why : IsReadingError (IsWorkspaceValue d) c.in_err-packages.field-0.0
    = ⊎_elim (λ memory. inl memory) (λ unsaid. inr (
      unsaid.0,
      λ w says. unsaid.1 w.packages (packages-as (is_listed c.in_ok-ids.ensures.0) (holds c.in_ok-ids.ids)
          (λ id. sym (c.in_ok-ids.ensures.2 id)) (map view c.in-Some-values_at.packages.now) w.packages
          (packages-within d w (map view c.in-Some.ids.now) (map view c.in-Some-values_at.packages.now)
          c.in_ok-ids.ensures.0 says (sym c.in-Some.ensures) c.in_ok-ids.ensures.1
          (sym c.in-Some-values_at.ensures))),
    )) c.in_err-packages.ensures in
    search (rules, why)

pub returns : goal.returns
returns c = record {
  root = c.in_ok-root.ensures.0;
  absolute = c.in_ok-root.ensures.1;
  listed = map view c.in-Some.ids.now;
  has_members = sym c.in-Some.ensures;
  ids = c.in_ok-ids.ensures.0;
  are_ids = c.in_ok-ids.ensures.1;
  values = map view c.in-Some-values_at.packages.now;
  has_packages = sym c.in-Some-values_at.ensures;
  packages = packages-as (holds c.in_ok-ids.ids) (is_listed c.in_ok-ids.ensures.0) c.in_ok-ids.ensures.2
      (map view c.in-Some-values_at.packages.now) (packages_view c.in_ok-packages.packages.items)
      c.in_ok-packages.ensures;
}
