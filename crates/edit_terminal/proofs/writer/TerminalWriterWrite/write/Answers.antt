use Rattle.std.proofs.Common.{◌∙◌, ◌+◌, ◌<◌, ◌++◌, ap, length, subst, sym}
use Rattle.std.specs.Str.{IsUtf8}
use Rattle.edit_terminal.proofs.ShowsLemmas.{shows_parts}
use Rattle.edit_terminal.proofs.writer.TerminalWriterWrite.write.Goals as goal

-- what came before and what comes now are parted behind the whole characters
pub returns-clause-shows : goal.returns-clause-shows
returns-clause-shows g c =
    let text = c.in-Ok.ensures.cases in
    let start = c.in_ok-bytes.ensures.value in
    let all = c.in_ok-extend_from_slice.ensures.items in
    shows_parts (g.W.Write.contents c.args.self.now.to) (g.W.Write.contents c.write_for_terminal.new.to) _
    c.extend_from_slice.new.self.items c.in-Ok.text.now c.in_ok-rest.rest.items c.in_ok-length.length
    (all ∙ ap (λ v. v.items ++ c.args.buf.now) start)
    (text.0 ∙ c.deref-2.ensures.value ∙ c.in_ok-rest.ensures.items) c.in_ok-rest.ensures.tail
    (subst (λ x. length x < c.in_ok-length.length + 4) c.deref.ensures.value c.in_ok-length.ensures.rest)
    (subst IsUtf8 (sym text.0) text.1) c.in_ok-write_for_terminal.ensures
