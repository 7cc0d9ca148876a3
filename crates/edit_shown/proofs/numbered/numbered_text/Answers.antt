use Rattle.std.proofs.Common.{◌≡◌, ◌∙◌, ◌+◌, ◌++◌, ap, arith, length, sym, take, true, false}
use Rattle.std.specs.Prelude.{is_some, string_bytes}
use Rattle.edit_shown.specs.Numbered.{numbered_from, numbered_line}
use Rattle.edit_shown.proofs.NumberedLemmas.{changed, changed-none, counted-one, numbered-more}
use Rattle.edit_shown.proofs.numbered.numbered_text.Goals as goal
use Rattle.edit_shown.proofs.numbered.numbered_text.Goals.{then-is_some+in_ok-line+in_ok-push_str, else-is_some}

pub rows-preserved : goal.rows-preserved
rows-preserved c =
    let i = c.rows.row-index in
    let rows = c.args.rows.now in
    let row = c.row-item.result in
    let root = c.args.root.now in
    let inputs = c.args.inputs.now in
    let before = c.rows.invariant in
    elim c.if-is_some.branch [
      | then-is_some+in_ok-line+in_ok-push_str w ↦
          let changes : is_some row.change ≡ true = sym c.is_some.ensures ∙ w.if-is_some.true in
          let added : w.saturating_add-number.result ≡ c.rows.number + 1 =
          omega (arith, w.saturating_add-number.ensures) in
          let counted : w.saturating_add-number.result ≡ length (changed (take i rows)) + 1 =
          added ∙ ap (λ n. n + 1) before.counted in
          let line = w.as_str.ensures.value ∙ w.in_ok-line.ensures.line in
          record {
            counted = w.number-is ∙ counted
                ∙ sym (counted-one rows i row c.rows-test.true c.row-item.is changes);
            within = let same = w.number-is in omega (arith, added);
            text = ap string_bytes w.text-is ∙ w.in_ok-push_str.ensures.bytes
                ∙ ap (λ t. string_bytes c.rows.text ++ t) line
                ∙ ap (λ t. t ++ numbered_line w.saturating_add-number.result root inputs row) before.text
                ∙ numbered-more root inputs rows i row w.saturating_add-number.result
                c.rows-test.true c.row-item.is changes counted;
          }
      | else-is_some w ↦
          let stays : is_some row.change ≡ false = sym c.is_some.ensures ∙ w.if-is_some.false in
          let same = changed-none rows i row c.rows-test.true c.row-item.is stays in
          record {
            counted = w.number-is ∙ before.counted ∙ sym (ap length same);
            within = let equal = w.number-is in omega (arith, before.within);
            text = ap string_bytes w.text-is ∙ before.text ∙ sym (ap (numbered_from 1 root inputs) same);
          }
    ]
