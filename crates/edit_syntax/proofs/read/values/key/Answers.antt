use Rattle.std.proofs.Common.{◌≡◌, ◌+◌, ◌-◌, length, drop, ◌++◌, [], ◌∷◌, Some, true, false, eqb, ap, ◌∙◌, arith}
use Rattle.std.proofs.lemmas.Bool.Decides.{nat_tests}
use Rattle.std.proofs.lemmas.Result.{err_from_is_err_and}
use Rattle.edit_syntax.specs.Strings.{Part}
use Rattle.edit_syntax.specs.SyntaxTokens.{token_of_part}
use Rattle.edit_syntax.specs.Reading.{first, past_blanks, part_at, key_at}
use Rattle.edit_syntax.proofs.Loops.{one_less}
use Rattle.edit_syntax.proofs.NotedTokens.{key_begins, key_turn, key_done, key_none, key_unbegun, key_failed}
use Rattle.edit_syntax.proofs.read.values.key.Goals as goal

pub returns-in_err-rest : goal.returns-in_err-rest
returns-in_err-rest c =
    let p = err_from_is_err_and c.from_residual.result c.from_residual.ensures.1 in
    key_unbegun c.args.s.now c.args.out.now c.part.new.out c.in_err-rest.field-0.0 p.0 c.from_residual.result
    p.1 p.2 c.in_err-rest.ensures

pub parts-init : goal.parts-init
parts-init c =
    let k : length c.args.s.now - 0 ≡ length c.args.s.now = omega arith in
    let r = c.in_ok-rest.rest.now in
    let p : (p : Part) × (part_at c.args.s.now ≡ Some (p, r))
    × (c.part.new.out.items ≡ c.args.out.now.items ++ (token_of_part p r ∷ [])) = c.in_ok-rest.ensures in
    rw k (key_begins c.args.out.now.items c.part.new.out.items c.args.s.now r p.0 p.1 p.2)

pub returns-then-first-ne46 : goal.returns-then-first-ne46
returns-then-first-ne46 c =
    let k = one_less (length c.args.s.now) c.parts._part c.parts-test.true in
    let dot : c.past_run-dot.result.now ≡ past_blanks c.parts.rest.now = c.past_run-dot.ensures in
    let test : eqb (first c.past_run-dot.result.now) 46 ≡ false = grind (arith, nat_tests) in
    let sign : eqb (first (past_blanks c.parts.rest.now)) 46 ≡ false = rw (← dot) test in
    key_done (key_at c.args.s.now) (length c.args.s.now - (c.parts._part + 1)) c.parts.rest.now
    c.args.out.now.items c.parts.out.items sign (rw k at c.parts.invariant)

pub returns-in_err-rest-2 : goal.returns-in_err-rest-2
returns-in_err-rest-2 c =
    let k = one_less (length c.args.s.now) c.parts._part c.parts-test.true in
    let text = c.parts.rest.now in
    let dot : c.past_run-dot.result.now ≡ past_blanks text = c.past_run-dot.ensures in
    let test : eqb (first c.past_run-dot.result.now) 46 ≡ true = grind (arith, nat_tests) in
    let sign : eqb (first (past_blanks text)) 46 ≡ true = rw (← dot) test in
    let next : c.past_run.result.now ≡ past_blanks (drop 1 (past_blanks text)) = c.past_run.ensures ∙
    ap past_blanks (c.skip.ensures ∙ ap (drop 1) dot) in
    let p = err_from_is_err_and c.from_residual-in_err-rest-2.result c.from_residual-in_err-rest-2.ensures.1
    in
    key_failed (key_at c.args.s.now) (length c.args.s.now - (c.parts._part + 1)) text c.args.out.now
    c.part-in-parts.new.out c.parts.out.items c.in_err-rest-2.field-0.0 p.0
    c.from_residual-in_err-rest-2.result p.1 p.2 sign
    (rw (← next) c.in_err-rest-2.ensures) (rw k at c.parts.invariant)

pub parts-preserved : goal.parts-preserved
parts-preserved c =
    let k = one_less (length c.args.s.now) c.parts._part c.parts-test.true in
    let text = c.parts.rest.now in
    let r = c.in_ok-rest-2.rest.now in
    let dot : c.past_run-dot.result.now ≡ past_blanks text = c.past_run-dot.ensures in
    let test : eqb (first c.past_run-dot.result.now) 46 ≡ true = grind (arith, nat_tests) in
    let sign : eqb (first (past_blanks text)) 46 ≡ true = rw (← dot) test in
    let next : c.past_run.result.now ≡ past_blanks (drop 1 (past_blanks text)) = c.past_run.ensures ∙
    ap past_blanks (c.skip.ensures ∙ ap (drop 1) dot) in
    let p : (p : Part) × (part_at c.past_run.result.now ≡ Some (p, r))
    × (c.part-in-parts.new.out.items ≡ c.parts.out.items ++ (token_of_part p r ∷ [])) = c.in_ok-rest-2.ensures in
    key_turn (key_at c.args.s.now) (length c.args.s.now - (c.parts._part + 1)) text r p.0 c.args.out.now.items
    c.parts.out.items c.part-in-parts.new.out.items sign (rw (← next) p.1) p.2 (rw k at c.parts.invariant)

pub returns : goal.returns
returns c other =
    let k : length c.args.s.now - c.parts._part ≡ 0 = omega arith in
    key_none (key_at c.args.s.now) c.parts.rest.now c.args.out.now.items c.parts.out.items
    (rw k at c.parts.invariant)
