use Rattle.std.proofs.Common.{◌≡◌, ◌-◌, ◌<◌, ◌≤◌, drop, get_or}
use Rattle.edit_lookups.specs.UserinfoAddresses.{userinfo_len}
use Rattle.edit_lookups.proofs.UserinfoLemmas.{more}
use Rattle.edit_lookups.proofs.userinfo.userinfo_len.Given as goal

-- the length so far, and with it that of the whole text
abbrev pub invariant-loop-i : goal.invariant-loop-i
invariant-loop-i l =
    (l.len ≤ l.i) × (0 < l.len → get_or l.text (l.len - 1) 0 ≡ 64)
    × (userinfo_len l.text ≡ more l.len l.i (userinfo_len (drop l.i l.text)))
