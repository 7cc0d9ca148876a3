use Rattle.std.proofs.Common.{◌≡◌, ◌++◌}
use Rattle.edit_upgrade.proofs.draft.push_all.Given as goal

abbrev pub invariant-own : goal.invariant-own
invariant-own g l = l.list.items ≡ l.fn.list.items ++ l.yielded
