use Rattle.std.proofs.Common.{◌≡◌, ◌<◌, true, false, length, get_or, refl, arith}
use Rattle.std.proofs.lemmas.Grind.{common_steps}
use Rattle.std.proofs.lemmas.Str.{IsCharBoundary-start, IsCharBoundary-after_ascii}
use Rattle.edit_tree.specs.Literals.{is_escaped}
use Rattle.edit_tree.proofs.LiteralBytes.{escaped_ascii, keep_byte, escape_byte, body_end}
use Rattle.edit_document.proofs.literal.push_body.Goals as goal
use Rattle.edit_document.proofs.literal.push_body.Goals.{then-needs_escape+in_ok-push_str+in_ok-push_escape, else-needs_escape}

pub bytes-init : goal.bytes-init
bytes-init c = record {
  low = omega arith;
  boundary = IsCharBoundary-start c.args.text.now c.utf8.text;
  whole = refl;
}

pub bytes-preserved : goal.bytes-preserved
bytes-preserved c =
    let l = c.bytes in
    let s = c.args.text.now in
    let h = l.invariant in
    let within : l.at < length s = omega (arith, c.as_bytes-bytes.ensures.len) in
    elim c.if-needs_escape.branch [
      | then-needs_escape+in_ok-push_str+in_ok-push_escape w ↦
          let needed : is_escaped (get_or s l.at 0) ≡ true = grind (arith, common_steps) in
          let next = escape_byte s _ _ l.start l.at within h.whole in
          rw (w.start-is, w.out-is) (record {
            low = omega arith;
            boundary = IsCharBoundary-after_ascii s l.at c.utf8.text within (escaped_ascii _ needed);
            whole = grind (arith, common_steps, next);
          })
      | else-needs_escape w ↦
          let same : is_escaped (get_or s l.at 0) ≡ false = grind (arith, common_steps) in
          rw (w.start-is, w.out-is)
          (record {
            low = omega arith;
            boundary = h.boundary;
            whole = keep_byte s _ _ l.start l.at h.low within same h.whole;
          })
    ]

pub returns : goal.returns
returns c =
    let l = c.bytes in
    let s = c.args.text.now in
    let at_end : l.at ≡ length s = omega (arith, c.as_bytes-bytes.ensures.len) in
    let text = body_end s _ _ l.start l.at l.invariant.low at_end l.invariant.whole in
    grind (arith, common_steps, text)
