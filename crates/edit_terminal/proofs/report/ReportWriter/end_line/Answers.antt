use Rattle.std.proofs.Common.{ap₂, subst}
use Rattle.std.specs.Io.KnownBytes.{Appends}
use Rattle.std.proofs.KnownBytes.{Appends-trans}
use Rattle.edit_terminal.specs.Report as spec
use Rattle.edit_terminal.proofs.report.ReportWriter.end_line.Goals as goal

-- the line, and then its end
pub returns-clause-shows : goal.returns-clause-shows
returns-clause-shows g c =
    let before = g.W.Write.contents c.args.self.now.to in
    let now = g.W.Write.contents c.write_line.new.to in
    Appends-trans before now (g.W.Write.contents c.write_all.new.self) _ _
    (subst (Appends before now)
    (ap₂ (spec.line_text c.args.self.now.wanted) c.deref.ensures.value c.deref-2.ensures.value)
    c.in_ok-write_line.ensures) c.in_ok-write_all.ensures.bytes
