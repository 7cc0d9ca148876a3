use Rattle.std.proofs.Common.{ℕ, List, Option, drop}
use Rattle.std.specs.Io.KnownBytes.{Appends}
use Rattle.edit_shown.specs.Diffs.{diffs}
use Rattle.edit_program.proofs.carrying_out.print_diffs.Given as goal

-- with the changes of the inputs that are left, all of them are printed
abbrev pub invariant-loop-input : goal.invariant-loop-input
invariant-loop-input g l = (end : Option (List ℕ))
    → Appends (g.O.Write.contents l.out) end (diffs l.root (drop l.input-index l.inputs) l.rest)
    → Appends (g.O.Write.contents l.initial.out) end (diffs l.root l.inputs l.initial.rest)
