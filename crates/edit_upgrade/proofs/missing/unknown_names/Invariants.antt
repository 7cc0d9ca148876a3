use Rattle.std.proofs.Common.{◌≡◌, map, not, take}
use Rattle.std.specs.Prelude.{filter, string_bytes}
use Rattle.std.specs.BTreeSet.{contains_text}
use Rattle.edit_upgrade.proofs.missing.unknown_names.Given as goal

abbrev pub invariant-names : goal.invariant-names
invariant-names l = map string_bytes l.missing.items
    ≡ filter (λ name. not (contains_text l.known name)) (map string_bytes (take l.name-index l.names))
