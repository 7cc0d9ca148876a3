use Rattle.std.specs.Io.KnownBytes.{Appends}
use Rattle.edit_terminal.specs.Shown.{terminal_chars}
use Rattle.edit_terminal.proofs.characters.write_for_terminal.Given as goal

abbrev pub invariant-loop-c : goal.invariant-loop-c
invariant-loop-c g l = Appends (g.W.Write.contents l.initial.to) (g.W.Write.contents l.to) (terminal_chars l.yielded)
