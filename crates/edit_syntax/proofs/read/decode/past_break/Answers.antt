use Rattle.std.proofs.Common.{◌≡◌, ℕ, List, get_or, sym, ap, ◌∙◌}
use Rattle.std.specs.Prelude.{slice_index}
use Rattle.edit_syntax.specs.ReadingSteps.{first}
use Rattle.edit_syntax.proofs.LineContents.{break_one, break_two}
use Rattle.edit_syntax.proofs.read.decode.past_break.Goals as goal

pub returns-then-first-eq10 : goal.returns-then-first-eq10
returns-then-first-eq10 c =
    let text = c.args.content.now in
    let here : first text ≡ 10 = ap first (sym c.as_bytes-bytes.ensures.value) ∙ sym c.first.ensures ∙
    c.if-first-eq10.true in
    let b = break_one text c.utf8.content here in
    c.behind.ensures.text b.0 ∙ sym b.1

pub returns-then-byte_at-eq10 : goal.returns-then-byte_at-eq10
returns-then-byte_at-eq10 c =
    let text = c.args.content.now in
    let here : first text ≡ 13 = ap first (sym c.as_bytes-bytes.ensures.value) ∙ sym c.first-2.ensures ∙
    c.if-first-eq13.true in
    let next : get_or text 1 0 ≡ 10 = ap (λ (t : List ℕ). slice_index t 1)
    (sym c.as_bytes-bytes.ensures.value) ∙ sym c.byte_at.ensures ∙ c.if-byte_at-eq10.true in
    let b = break_two text c.utf8.content here next in
    c.behind-then-byte_at-eq10.ensures.text b.0 ∙ sym b.1
