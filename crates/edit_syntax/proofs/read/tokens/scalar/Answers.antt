use Rattle.std.proofs.Common.{◌≡◌, ℕ, ◌+◌, ◌*◌, ◌<◌, refl, sym, ap, ◌∙◌, get_or, drop, arith}
use Rattle.std.specs.Char.{digit_value}
use Rattle.edit_syntax.proofs.Codes.{scalar_after, scalar_step, code_fits, code_step}
use Rattle.edit_syntax.proofs.read.tokens.scalar.Goals as goal

pub loop-digit-init : goal.loop-digit-init
loop-digit-init c = (omega arith, refl)

pub overflow_mul-code : goal.overflow_mul-code
overflow_mul-code c = let k = code_fits c.loop-digit.code c.loop-digit.digit-index c.loop-digit.invariant.0
    (omega arith) in omega arith

pub overflow_add-code : goal.overflow_add-code
overflow_add-code c =
    let k = code_fits c.loop-digit.code c.loop-digit.digit-index c.loop-digit.invariant.0 (omega arith) in
    let p : (digit_value c.from.result < 16) × (c.in_ok-code.field-0 ≡ digit_value c.from.result) =
    c.in_ok-code.ensures.value in
    omega (arith, p.0, p.1)

pub loop-digit-preserved : goal.loop-digit-preserved
loop-digit-preserved c =
    let digits = c.args.digits.now in
    let i = c.loop-digit.digit-index in
    let code = c.loop-digit.code in
    let p : (digit_value c.from.result < 16) × (c.in_ok-code.field-0 ≡ digit_value c.from.result) =
    c.in_ok-code.ensures.value in
    let here : c.from.result ≡ get_or digits i 0 = c.from.ensures in
    let small : digit_value (get_or digits i 0) < 16 = (rw here at p.0) in
    let same : c.in_ok-code.field-0 ≡ digit_value (get_or digits i 0) = p.1 ∙ ap digit_value here in
    let below : c.in_ok-code.field-0 < 16 = omega (arith, p.0, p.1) in (
      code_step code i c.in_ok-code.field-0 c.loop-digit.invariant.0 below,
      ap (λ (d : ℕ). scalar_after (code * 16 + d) (drop (i + 1) digits)) same ∙
          sym (scalar_step code i digits c.loop-digit-test.true small) ∙ c.loop-digit.invariant.1,
    )
