use Rattle.std.proofs.Common.{◌≡◌, map, take}
use Rattle.edit_base.specs.Paths.{texts}
use Rattle.edit_set_version.specs.Crates.{members_of}
use Rattle.edit_set_version.proofs.choose.member_names_text.Given as goal

abbrev pub invariant-crates : goal.invariant-crates
invariant-crates l = texts l.names.items ≡ map (λ m. m.name) (members_of (take l.found-index l.crates))
