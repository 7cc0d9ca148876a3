use Rattle.std.proofs.Common.{take}
use Rattle.std.specs.List.{AllZip}
use Rattle.edit_set_version.specs.Crates.{IsReadOf}
use Rattle.edit_set_version.proofs.manifests.manifests_of.Given as goal

abbrev pub invariant-inputs : goal.invariant-inputs
invariant-inputs l = AllZip IsReadOf (take l.input-index l.inputs) l.manifests.items
