use Rattle.std.proofs.Common.{◌≡◌, take}
use Rattle.std.specs.Io.KnownBytes.{Appends}
use Rattle.edit_terminal.specs.Report as spec
use Rattle.edit_terminal.proofs.report.ReportWriterWrite.write.Given as goal

-- the bytes so far were taken
abbrev pub invariant-loop-byte : goal.invariant-loop-byte
invariant-loop-byte g l =
    let before = spec.held l.initial.self.line.items l.initial.self.starts.items in
    let taken = take l.byte-index l.buf in
    record {
      held : spec.held l.self.line.items l.self.starts.items ≡ spec.held_after before taken;
      wanted : l.self.wanted ≡ l.initial.self.wanted;
      shows : Appends (g.W.Write.contents l.initial.self.to) (g.W.Write.contents l.self.to)
          (spec.report_text l.initial.self.wanted before taken);
    }
