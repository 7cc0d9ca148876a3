use Rattle.std.proofs.Common.{◌≡◌, ℕ, suc, ◌+◌, ◌-◌, false, true, eqb, eq-eqb, List, drop, sym, ap, ◌∙◌, Some, None, length, refl, arith}
use Rattle.std.proofs.lemmas.Bool.Decides.{nat_tests}
use Rattle.edit_syntax.specs.Reading.{first, line_piece_at, body_at, multi_at}
use Rattle.edit_syntax.proofs.Loops.{rest_of, one_less}
use Rattle.edit_syntax.proofs.MultiLoops.{body_end, body_turn, body_stop, body_delimiter, body_full, body_none}
use Rattle.edit_syntax.proofs.read.multi.past_multi.Goals as goal
use Rattle.edit_syntax.proofs.read.multi.past_multi.Goals.{then-first-delimiter_byte+in_ok-rest, else-first-delimiter_byte+else-few-eq0}

pub pieces-init : goal.pieces-init
unfolding multi_at
pieces-init c = let k : length c.args.s.now - 0 ≡ length c.args.s.now = omega arith in rw k refl

pub returns-then-is_closing_delimiter : goal.returns-then-is_closing_delimiter
returns-then-is_closing_delimiter c =
    let closed = sym c.is_closing_delimiter.ensures ∙ c.if-is_closing_delimiter.true in
    let k = one_less (length c.args.s.now) c.pieces._piece c.pieces-test.true in
    ap Some c.skip.ensures ∙ sym (body_end c.args.delimiter_byte _ c.pieces.few c.pieces.rest.now closed) ∙
    (rw k at c.pieces.invariant)

pub returns-in_err-rest : goal.returns-in_err-rest
returns-in_err-rest c =
    let going = sym c.is_closing_delimiter.ensures ∙ c.if-is_closing_delimiter.false in
    let other : eqb (first c.pieces.rest.now) c.args.delimiter_byte ≡ false = grind (arith, nat_tests) in
    let k = one_less (length c.args.s.now) c.pieces._piece c.pieces-test.true in
    let none : None ≡ rest_of (line_piece_at c.args.delimiter_byte c.pieces.rest.now) =
    c.in_err-rest.ensures {u = tt} in
    rw c.from_residual.ensures
    (sym (body_stop c.args.delimiter_byte _ c.pieces.few c.pieces.rest.now going other none) ∙
    (rw k at c.pieces.invariant))

pub returns-then-few-eq0 : goal.returns-then-few-eq0
returns-then-few-eq0 c =
    let going = sym c.is_closing_delimiter.ensures ∙ c.if-is_closing_delimiter.false in
    let here : eqb (first c.pieces.rest.now) c.args.delimiter_byte ≡ true =
    eq-eqb _ _ (sym c.first.ensures ∙ c.if-first-delimiter_byte.false) in
    let k = one_less (length c.args.s.now) c.pieces._piece c.pieces-test.true in
    sym (body_full c.args.delimiter_byte _ c.pieces.few c.pieces.rest.now c.if-few-eq0.true going here) ∙
    (rw k at c.pieces.invariant)

pub pieces-preserved : goal.pieces-preserved
pieces-preserved c =
    let going = sym c.is_closing_delimiter.ensures ∙ c.if-is_closing_delimiter.false in
    let k = one_less (length c.args.s.now) c.pieces._piece c.pieces-test.true in
    let left = length c.args.s.now - (c.pieces._piece + 1) in
    let P : ℕ → List ℕ → Type 0 = λ few rest. rest_of (body_at c.args.delimiter_byte left few rest)
    ≡ rest_of (multi_at c.args.delimiter_byte c.args.s.now) in
    elim c.if-first-delimiter_byte.branch [
      | then-first-delimiter_byte+in_ok-rest w ↦
          let other : eqb (first c.pieces.rest.now) c.args.delimiter_byte ≡ false = grind (arith, nat_tests) in
          let some : Some w.in_ok-rest.rest.now ≡ rest_of (line_piece_at c.args.delimiter_byte c.pieces.rest.now) =
          w.in_ok-rest.ensures in
          let next : P 2 w.in_ok-rest.rest.now =
          sym (body_turn c.args.delimiter_byte left c.pieces.few c.pieces.rest.now w.in_ok-rest.rest.now going other
          some) ∙ (rw k at c.pieces.invariant) in
          rw (w.few-is, w.rest-is) next
      | else-first-delimiter_byte+else-few-eq0 w ↦
          let here : eqb (first c.pieces.rest.now) c.args.delimiter_byte ≡ true =
          eq-eqb _ _ (sym c.first.ensures ∙ w.if-first-delimiter_byte.false) in
          let less : c.pieces.few ≡ suc (c.pieces.few - 1) = omega arith in
          let next : P (c.pieces.few - 1) (drop 1 c.pieces.rest.now) =
          sym (body_delimiter c.args.delimiter_byte left c.pieces.few
          (c.pieces.few - 1) c.pieces.rest.now less going here) ∙ (rw k at c.pieces.invariant) in
          rw (w.few-is, w.rest-is, w.skip-rest.ensures) next
    ]

pub returns : goal.returns
returns c =
    let k : length c.args.s.now - c.pieces._piece ≡ 0 = omega arith in
    sym (body_none c.args.delimiter_byte c.pieces.few c.pieces.rest.now) ∙ (rw k at c.pieces.invariant)
