use Rattle.std.proofs.Common.{take}
use Rattle.std.specs.Io.KnownBytes.{Appends}
use Rattle.edit_program.specs.Effects.{stderr_texts, stdout_texts}
use Rattle.edit_program.proofs.carrying_out.print_messages.Given as goal

abbrev pub invariant-loop-message : goal.invariant-loop-message
invariant-loop-message g l = record {
  shown : Appends (g.O.Write.contents l.initial.out) (g.O.Write.contents l.out)
      (stdout_texts (take l.message-index l.messages));
  reported : Appends (g.E.Write.contents l.initial.err) (g.E.Write.contents l.err)
      (stderr_texts (take l.message-index l.messages));
}
