use Rattle.std.proofs.Common.{take}
use Rattle.edit_upgrade.specs.Names.{HasNames}
use Rattle.edit_shown.specs.HeldBack.{dated_addresses}
use Rattle.edit_shown.proofs.held_back.dated_addresses.Given as goal

-- the addresses so far
abbrev pub invariant-lookups : goal.invariant-lookups
invariant-lookups l = HasNames l.set (dated_addresses (take l.lookup-index l.lookups))
