use Rattle.std.proofs.Common.{◌≡◌, ◌-◌, ◌≤◌, false, true, eqb, sym, ap, ◌∙◌, Some, None, length, refl, arith}
use Rattle.std.proofs.lemmas.Bool.Decides.{nat_tests}
use Rattle.edit_syntax.specs.Characters.{quote, is_basic_ch}
use Rattle.edit_syntax.specs.Reading.{first, after, piece_at, basic_at}
use Rattle.edit_syntax.proofs.Loops.{rest_of}
use Rattle.edit_syntax.proofs.BasicLoop.{past_plain, run_within, piece_turn, piece_stop, closing, nothing_left}
use Rattle.edit_syntax.proofs.read.tokens.past_basic.Goals as goal

pub pieces-init : goal.pieces-init
pieces-init c = (refl, omega arith)

pub returns-then-first-eq34 : goal.returns-then-first-eq34
returns-then-first-eq34 c =
    let end = c.past_run-end.result.now in
    let run : end ≡ after is_basic_ch c.pieces.rest.now = c.past_run-end.ensures in
    let quoted : eqb (first end) quote ≡ true = grind (arith, nat_tests) in
    ap Some c.skip.ensures ∙ sym (closing end quoted) ∙ ap (λ t. rest_of (basic_at t)) run ∙
    past_plain c.pieces.rest.now ∙ c.pieces.invariant.0

pub returns-in_err-rest : goal.returns-in_err-rest
returns-in_err-rest c =
    let end = c.past_run-end.result.now in
    let run : end ≡ after is_basic_ch c.pieces.rest.now = c.past_run-end.ensures in
    let other : eqb (first end) quote ≡ false = grind (arith, nat_tests) in
    let none : None ≡ rest_of (piece_at end) = c.in_err-rest.ensures {u = tt} in
    let over : None ≡ rest_of (basic_at c.args.s.now) = sym (piece_stop end other none) ∙
    ap (λ t. rest_of (basic_at t)) run ∙ past_plain c.pieces.rest.now ∙ c.pieces.invariant.0 in
    rw c.from_residual.ensures over

pub pieces-preserved : goal.pieces-preserved
pieces-preserved c =
    let end = c.past_run-end.result.now in
    let run : end ≡ after is_basic_ch c.pieces.rest.now = c.past_run-end.ensures in
    let other : eqb (first end) quote ≡ false = grind (arith, nat_tests) in
    let some : Some c.in_ok-rest.rest.now ≡ rest_of (piece_at end) = c.in_ok-rest.ensures in
    let turn = piece_turn end c.in_ok-rest.rest.now other some in
    let within = run_within is_basic_ch c.pieces.rest.now in
    let whole = ap length run in
    let shorter = turn.1 in
    let left = c.pieces.invariant.1 in (
      turn.0 ∙ ap (λ t. rest_of (basic_at t)) run ∙ past_plain c.pieces.rest.now ∙ c.pieces.invariant.0,
      omega arith,
    )

pub returns : goal.returns
returns c =
    let left = c.pieces.invariant.1 in
    sym (nothing_left c.pieces.rest.now (omega arith)) ∙ c.pieces.invariant.0
