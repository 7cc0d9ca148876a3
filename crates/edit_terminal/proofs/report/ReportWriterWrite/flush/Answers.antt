use Rattle.edit_terminal.specs.Report as spec
use Rattle.edit_terminal.proofs.ReportLemmas.{flushed}
use Rattle.edit_terminal.proofs.report.ReportWriterWrite.flush.Goals as goal

pub returns-clause-shows : goal.returns-clause-shows
returns-clause-shows g c =
    let old = c.args.self.now in
    flushed (g.W.Write.contents old.to) (g.W.Write.contents c.write_rest.new.self.to)
    (g.W.Write.contents c.flush.new.self)
    (spec.rest_text old.wanted old.starts.items old.line.items) c.flush.result c.in_ok-write_rest.ensures.shows
    c.flush.ensures.bytes
