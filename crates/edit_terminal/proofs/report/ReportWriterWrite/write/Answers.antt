use Rattle.std.proofs.Common.{◌∙◌, ap, ap₂, get_or, subst, sym}
use Rattle.std.specs.Io.KnownBytes.{Appends}
use Rattle.std.proofs.KnownBytes.{Appends-trans}
use Rattle.edit_terminal.specs.Report as spec
use Rattle.edit_terminal.proofs.ReportLemmas.{front_more, held_more}
use Rattle.edit_terminal.proofs.report.ReportWriterWrite.write.Goals as goal

pub loop-byte-preserved : goal.loop-byte-preserved
loop-byte-preserved g c =
    let bytes = c.args.buf.now in
    let i = c.loop-byte.byte-index in
    let byte = get_or bytes i 0 in
    let first = spec.held c.args.self.now.line.items c.args.self.now.starts.items in
    let before = g.W.Write.contents c.args.self.now.to in
    let now = g.W.Write.contents c.loop-byte.self.to in
    let after = g.W.Write.contents c.push_byte.new.self.to in
    let so_far = c.loop-byte.invariant in
    record {
      held = c.in_ok-push_byte.ensures.held ∙ ap (λ h. spec.next h byte) so_far.held
          ∙ sym (held_more first bytes i c.loop-byte-test.true);
      wanted = c.push_byte.ensures.wanted ∙ so_far.wanted;
      shows = subst (Appends before after)
          (sym (front_more c.args.self.now.wanted first bytes i c.loop-byte-test.true))
          (Appends-trans before now after _ _ so_far.shows (subst (Appends now after)
          (ap₂ (λ w h. spec.written_at w h byte) so_far.wanted so_far.held) c.in_ok-push_byte.ensures.shows));
    }
