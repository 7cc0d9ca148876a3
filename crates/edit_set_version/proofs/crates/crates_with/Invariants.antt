use Rattle.std.proofs.Common.{◌≡◌, map, take}
use Rattle.edit_set_version.proofs.crates.crates_with.Given as goal

abbrev pub invariant-members : goal.invariant-members
invariant-members l = record {
  package_info : map (λ c. c.package_info.now) l.crates.items ≡ map (λ p. p.now) (take l.i l.members);
  inputs : map (λ c. c.input.now) l.crates.items ≡ take l.i l.inputs;
  manifests : map (λ c. c.manifest.now) l.crates.items ≡ take l.i l.manifests;
}
