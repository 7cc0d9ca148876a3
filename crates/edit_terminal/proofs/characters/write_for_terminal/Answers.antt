use Rattle.std.proofs.Common.{◌∙◌, [], subst, sym}
use Rattle.std.proofs.KnownBytes.{Appends-trans}
use Rattle.std.proofs.lemmas.Iterator.{YieldsList-from_chars}
use Rattle.std.proofs.lemmas.Iterator.Consumers.{YieldsList-end}
use Rattle.std.proofs.lemmas.List.{flat_map_more, map-id}
use Rattle.std.specs.Io.KnownBytes.{Appends}
use Rattle.edit_terminal.specs.Shown.{terminal_chars, terminal_char}
use Rattle.edit_terminal.proofs.characters.write_for_terminal.Goals as goal

pub loop-c-preserved : goal.loop-c-preserved
loop-c-preserved g c =
    subst (Appends (g.W.Write.contents c.args.to.now) (g.W.Write.contents c.write_char.new.to))
    (flat_map_more terminal_char [] c.loop-c.yielded c.in-Some.c)
    (Appends-trans (g.W.Write.contents c.args.to.now) (g.W.Write.contents c.loop-c.to)
    (g.W.Write.contents c.write_char.new.to) _ _ c.loop-c.invariant c.in_ok-write_char.ensures)

-- at the end of the loop all characters were written
pub returns : goal.returns
returns g c =
    let t = YieldsList-end (YieldsList-from_chars c.args.text.now c.utf8.text (cc)) c.loop-c.yielded _ c.loop-c.yielded_by _ _ c.in-None.is c.next.ensures.steps in
    subst (λ cs. Appends (g.W.Write.contents c.args.to.now) (g.W.Write.contents c.loop-c.to) (terminal_chars cs))
    (sym (map-id c.loop-c.yielded) ∙ t.0) c.loop-c.invariant
