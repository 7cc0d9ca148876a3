use Rattle.std.proofs.Common.{◌-◌, length}
use Rattle.edit_syntax.specs.Reading.{key_at}
use Rattle.edit_syntax.proofs.NotedTokens.{CompletesKey}
use Rattle.edit_syntax.proofs.read.values.key.Given as goal

-- whatever parts are read from here on complete the key
abbrev pub invariant-parts : goal.invariant-parts
invariant-parts l = CompletesKey (key_at l.s) (length l.s - l._part) l.rest l.fn.out.items l.out.items
