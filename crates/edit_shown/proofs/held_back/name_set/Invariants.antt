use Rattle.std.proofs.Common.{map, string_bytes, take}
use Rattle.edit_upgrade.specs.Names.{HasNames}
use Rattle.edit_shown.proofs.held_back.name_set.Given as goal

-- the names so far
abbrev pub invariant-names : goal.invariant-names
invariant-names l = HasNames l.set (map string_bytes (take l.name-index l.names))
