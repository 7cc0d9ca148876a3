use Rattle.std.proofs.Common.{◌≡◌, ◌∙◌, ◌-◌, ap, arith, length, map, sym}
use Rattle.std.proofs.lemmas.List.{length-map}
use Rattle.std.proofs.lemmas.Slice.Zip.{AllZip-long}
use Rattle.edit_metadata.specs.Metadata.{members}
use Rattle.edit_metadata.specs.Workspaces.{package_view, packages_view, workspace_view}
use Rattle.edit_set_version.specs.Crates.{IsReadOf}
use Rattle.edit_set_version.proofs.ProjectMembers.{counted, last_inputs, members_last, read_item}
use Rattle.edit_set_version.proofs.crates.crates_of.Goals as goal

pub crates_last-requires-clause-inputs : goal.crates_last-requires-clause-inputs
crates_last-requires-clause-inputs c =
    let w = workspace_view c.args.workspace.now in
    let last = last_inputs w c.args.inputs.now c.requires.inputs in
    let many = counted w c.args.inputs.now last in
    let long : length c.deref-2.result.now ≡ length (members w.packages)
    = ap length c.deref-2.ensures.value
    ∙ sym (length-map c.in_ok-members.members.items (λ p. package_view p.now))
    ∙ ap length c.in_ok-members.ensures.ok
    ∙ ap (λ ps. length (members (packages_view ps))) c.deref.ensures.value in
    omega (arith, many, long)

pub crates_last-requires-clause-manifests : goal.crates_last-requires-clause-manifests
crates_last-requires-clause-manifests c =
    AllZip-long IsReadOf c.args.inputs.now c.args.manifests.now c.requires.manifests

pub returns : goal.returns
returns c = record {
  ok = let w = workspace_view c.args.workspace.now in
      let is = c.args.inputs.now in
      let last = last_inputs w is c.requires.inputs in
      let many = counted w is last in
      let long : length c.deref-2.result.now ≡ length (members w.packages)
      = ap length c.deref-2.ensures.value
      ∙ sym (length-map c.in_ok-members.members.items (λ p. package_view p.now))
      ∙ ap length c.in_ok-members.ensures.ok
      ∙ ap (λ ps. length (members (packages_view ps))) c.deref.ensures.value in
      members_last w is c.args.manifests.now c.in_ok-crates.crates.items
      (length is - length c.deref-2.result.now) last c.requires.manifests (omega (arith, many, long))
      (read_item c.in_ok-crates.crates.items c.deref-2.result.now c.in_ok-crates.ensures.outcome
      ∙ ap (map (λ p. package_view p.now)) c.deref-2.ensures.value ∙ c.in_ok-members.ensures.ok
      ∙ ap (λ ps. members (packages_view ps)) c.deref.ensures.value)
      c.in_ok-crates.ensures.inputs c.in_ok-crates.ensures.manifests;
}
