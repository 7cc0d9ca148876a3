use Rattle.std.proofs.Common.{◌≡◌, map, take}
use Rattle.edit_fetch.specs.CurlConfig.{config_text}
use Rattle.edit_fetch.specs.Transfers.{transfer_options}
use Rattle.edit_fetch.proofs.transfers.transfers_text.Given as goal

abbrev pub invariant-loop-i : goal.invariant-loop-i
invariant-loop-i l =
    l.text.items ≡ config_text (map (transfer_options l.settings l.room) (take l.i l.requests))
