use Rattle.std.proofs.Common.{◌≡◌, List, ◌++◌, length, refl, sym, ap, ◌∙◌}
use Rattle.std.proofs.lemmas.Bool.{eqb-true, eqb-false}
use Rattle.edit_syntax.specs.declared.read.syntax_tokens.SyntaxToken.{SyntaxToken}
use Rattle.edit_syntax.specs.Reading.{skip_byte_order_mark}
use Rattle.edit_syntax.specs.FirstLine.{tokens_of_first_line}
use Rattle.edit_rewrite.specs.declared.locate.StatementOffsets.{StatementOffsets}
use Rattle.edit_document.specs.Items.{place_view}
use Rattle.edit_rewrite.proofs.StatedLines.{at_start, turn_empty, turn_full, end_empty, end_full, at_line_as}
use Rattle.edit_rewrite.proofs.locate.entries.Goals.{then-not-is_empty+in_ok-take+in_ok-push, else-not-is_empty}
use Rattle.edit_rewrite.proofs.locate.entries.Goals as goal

pub lines-init : goal.lines-init
lines-init c form m =
    at_start c.args.text.now (place_view c.args.place.now) form c.in_ok-standing.standing
    c.new-found.result.items c.skip_byte_order_mark-rest.result.now m c.utf8.text c.new-found.ensures.items
    (c.skip_byte_order_mark-rest.ensures ∙ ap skip_byte_order_mark c.as_bytes.ensures.value)
    (c.in_ok-standing.ensures {u = tt}).none

pub returns-then-is_empty-clause-found : goal.returns-then-is_empty-clause-found
returns-then-is_empty-clause-found c form m =
    let text = c.args.text.now in
    let target = place_view c.args.place.now in
    let d = c.lines.invariant form m in
    let f = c.in-Ok.ensures.only d.left d.same d.valid d.shallow in
    let tokens = c.as_slice-seen.result.now in
    let tokens_are : tokens ≡ tokens_of_first_line d.left = c.as_slice-seen.ensures.value ∙ f.1 ∙
    ap (λ (xs : List SyntaxToken). xs ++ tokens_of_first_line d.left) c.clear.ensures.items in
    let after = c.in-Ok.after.now in
    let next = c.next_line-next.result.now in
    let over : length after ≡ 0 = eqb-true _ _ (sym c.is_empty-in-lines.ensures ∙ c.if-is_empty.true) in
    elim c.if-not-is_empty.branch [
      | then-not-is_empty+in_ok-take+in_ok-push w ↦
          let some : length tokens ≡ 0 → ⊥ = eqb-false _ _ (sym c.is_empty.ensures ∙ w.if-not-is_empty.true) in
          let offsets : StatementOffsets = record {
            line = length c.lines.rest.now;
            key = w.first_from.result;
            after = length after;
            next = length next;
          } in
          ap (λ v. v.items) w.found-is ∙ (w.in_ok-push.ensures {u = tt}).items
          ∙ end_full text c.utf8.text target form c.lines.standing c.lines.found.items c.lines.rest.now after
          next tokens d f.0 tokens_are w.take.new.self w.in_ok-take.field-0 offsets
          (w.in_ok-take.ensures {u = tt}).taken
          refl w.first_from.ensures refl refl some over c.next_line-next.ensures.end
      | else-not-is_empty w ↦
          let none : length tokens ≡ 0 = eqb-true _ _ (sym c.is_empty.ensures ∙ w.if-not-is_empty.false) in
          ap (λ v. v.items) w.found-is ∙
          end_empty text c.utf8.text target form c.lines.standing c.lines.found.items c.lines.rest.now after
          next tokens d f.0 tokens_are none over
    ]

pub lines-preserved : goal.lines-preserved
lines-preserved c form m =
    let text = c.args.text.now in
    let target = place_view c.args.place.now in
    let d = c.lines.invariant form m in
    let f = c.in-Ok.ensures.only d.left d.same d.valid d.shallow in
    let tokens = c.as_slice-seen.result.now in
    let tokens_are : tokens ≡ tokens_of_first_line d.left = c.as_slice-seen.ensures.value ∙ f.1 ∙
    ap (λ (xs : List SyntaxToken). xs ++ tokens_of_first_line d.left) c.clear.ensures.items in
    let after = c.in-Ok.after.now in
    let next = c.next_line-next.result.now in
    let more : length after ≡ 0 → ⊥ = eqb-false _ _ (sym c.is_empty-in-lines.ensures ∙ c.if-is_empty.false) in
    elim c.if-not-is_empty.branch [
      | then-not-is_empty+in_ok-take+in_ok-push w ↦
          let some : length tokens ≡ 0 → ⊥ = eqb-false _ _ (sym c.is_empty.ensures ∙ w.if-not-is_empty.true) in
          let offsets : StatementOffsets = record {
            line = length c.lines.rest.now;
            key = w.first_from.result;
            after = length after;
            next = length next;
          } in
          at_line_as c.if-not-is_empty.standing w.take.new.self c.if-not-is_empty.found.items _ w.standing-is
          (ap (λ v. v.items) w.found-is ∙ (w.in_ok-push.ensures {u = tt}).items)
          (turn_full text c.utf8.text target form c.lines.standing c.lines.found.items c.lines.rest.now after
          next tokens d f.0 tokens_are w.take.new.self w.in_ok-take.field-0 offsets
          (w.in_ok-take.ensures {u = tt}).taken
          refl w.first_from.ensures refl refl some more c.next_line-next.ensures.next)
      | else-not-is_empty w ↦
          let none : length tokens ≡ 0 = eqb-true _ _ (sym c.is_empty.ensures ∙ w.if-not-is_empty.false) in
          at_line_as c.if-not-is_empty.standing c.lines.standing c.if-not-is_empty.found.items
          c.lines.found.items w.standing-is (ap (λ v. v.items) w.found-is)
          (turn_empty text c.utf8.text target form c.lines.standing c.lines.found.items c.lines.rest.now after
          next tokens d f.0 tokens_are none more c.next_line-next.ensures.next)
    ]
