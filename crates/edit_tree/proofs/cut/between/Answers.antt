use Rattle.std.proofs.Common.{ℕ, ap₂, sym, ◌∙◌, true≢false, arith}
use Rattle.edit_syntax.specs.Spans.{cut_from}
use Rattle.edit_syntax.proofs.DecodedSpans.{cut_is, cut_none}
use Rattle.edit_tree.proofs.cut.between.Goals as goal
use Rattle.edit_tree.proofs.cut.between.Goals.{else-start-end-via-then-start-end+then-is_char_boundary+else-is_char_boundary-2, else-start-end-via-then-start-end+else-is_char_boundary, else-start-end-via-else-start-end}

pub returns-then-is_char_boundary-2 : goal.returns-then-is_char_boundary-2
returns-then-is_char_boundary-2 c =
    let text = c.args.text.now in
    c.range.ensures.value ∙
    sym (cut_is text c.saturating_sub-start.result c.saturating_sub-end.result c.if-start-end.true
    (c.is_char_boundary.ensures.test.0 c.if-is_char_boundary.true)
    (c.is_char_boundary-then-is_char_boundary.ensures.test.0 c.if-is_char_boundary-2.true))
    ∙ ap₂ (λ (i : ℕ) (j : ℕ). cut_from text i j) c.saturating_sub-start.ensures c.saturating_sub-end.ensures

pub returns-else-start-end : goal.returns-else-start-end
returns-else-start-end c =
    let text = c.args.text.now in
    let i = c.saturating_sub-start.result in
    let j = c.saturating_sub-end.result in
    sym (cut_none text i j (λ le from to. elim c.else-start-end.branch [
      | else-start-end-via-then-start-end+then-is_char_boundary+else-is_char_boundary-2 w ↦ true≢false
          (sym (w.is_char_boundary-then-is_char_boundary.ensures.test.1 to) ∙ w.if-is_char_boundary-2.false)
      | else-start-end-via-then-start-end+else-is_char_boundary w ↦ true≢false
          (sym (w.is_char_boundary.ensures.test.1 from) ∙ w.if-is_char_boundary.false)
      | else-start-end-via-else-start-end w ↦ absurd (omega arith)
    ]))
    ∙ ap₂ (λ (m : ℕ) (n : ℕ). cut_from text m n) c.saturating_sub-start.ensures c.saturating_sub-end.ensures
