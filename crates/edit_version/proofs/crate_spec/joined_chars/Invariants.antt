use Rattle.std.proofs.Common.{◌≡◌, ◌++◌, string_bytes, take}
use Rattle.edit_version.specs.CrateSpecs.{after_comma}
use Rattle.edit_version.proofs.crate_spec.joined_chars.Given as goal

abbrev pub invariant-rest : goal.invariant-rest
invariant-rest l = string_bytes l.out ≡ string_bytes l.initial.out ++ after_comma (take l.c-index l.rest)
