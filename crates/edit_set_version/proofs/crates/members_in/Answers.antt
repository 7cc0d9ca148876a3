use Rattle.std.proofs.Common.{[], ◌∷◌, ◌++◌, ◌∙◌, ap, map, sym}
use Rattle.std.specs.Prelude.{if◌then◌else◌}
use Rattle.std.proofs.lemmas.List.{take_all}
use Rattle.edit_metadata.specs.Metadata.{PackageModel, members}
use Rattle.edit_metadata.specs.Workspaces.{package_view, packages_view}
use Rattle.edit_set_version.proofs.ChoiceLemmas.{filter_more}
use Rattle.edit_set_version.proofs.crates.members_in.Goals as goal

pub packages-preserved : goal.packages-preserved
packages-preserved c =
    let own = package_view c.found-item.result in
    c.in_ok-push_member.ensures.ok
    ∙ ap (λ ps. ps ++ (if own.member then own ∷ [] else [])) c.packages.invariant
    ∙ sym (filter_more (λ (p : PackageModel). p.member) package_view c.args.packages.now c.packages.found-index
    c.found-item.result c.packages-test.true c.found-item.is)

pub packages-init : goal.packages-init
packages-init c = ap (map (λ p. package_view p.now)) c.new-list.ensures.items

pub returns : goal.returns
returns c = record {
  ok = c.packages.invariant ∙ ap (λ ps. members (packages_view ps))
      (take_all c.packages.found-index c.args.packages.now c.packages-test.false);
}
