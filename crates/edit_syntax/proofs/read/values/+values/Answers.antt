use Rattle.std.proofs.Common.{◌≡◌, drop, ℕ, ◌+◌, ◌-◌, suc, List, ◌++◌, Some, None, refl, sym, ap, subst, ◌∙◌, false, true, eqb, eq-eqb, arith}
use Rattle.std.proofs.lemmas.Bool.Decides.{nat_tests}
use Rattle.std.proofs.lemmas.Result.{err_from_is_err_and}
use Rattle.edit_syntax.specs.Characters.{comma, equals, left_bracket, right_bracket, left_brace, right_brace}
use Rattle.edit_syntax.specs.Grammar.{Value, Elements, Members}
use Rattle.edit_syntax.specs.Reading.{Pair, first, past_gap, past, key_at, pair_at, value_at, members_at, elements_at}
use Rattle.edit_syntax.specs.AppendedTokens.{AppendsTokens, tokens_of_array, tokens_of_pair, tokens_of_inline_table}
use Rattle.edit_syntax.specs.SyntaxTokens.{tokens_of_key, tokens_of_value}
use Rattle.edit_syntax.specs.Strings.{Key}
use Rattle.edit_syntax.proofs.Loops.{one_less}
use Rattle.edit_syntax.proofs.ValueLaws.{value_sound}
use Rattle.edit_syntax.proofs.NotedValues.{Completes, members_turn, members_end, members_done, members_refused, members_failed, members_none, pair_noted, pair_failed, pair_unsigned, inline_noted}
use Rattle.edit_syntax.proofs.NotedElements.{Fills, elements_turn, elements_end, elements_done, elements_refused, elements_failed, elements_none, array_noted}
use Rattle.edit_syntax.proofs.read.values.+values.Goals as goal

pub members-members-init : goal.members-members-init
members-members-init t c =
    let k : c.args.count - 0 ≡ c.args.count = omega arith in
    record { some = λ x e. (x.0, (rw k at e), refl); none = λ e. rw k at e }

pub members-returns-then-first-eq125 : goal.members-returns-then-first-eq125
members-returns-then-first-eq125 t c =
    let read = value_at c.args.depth in
    let k = one_less c.args.count c.members._member c.members-test.true in
    let closed : eqb (first c.members.rest.now) right_brace ≡ true = grind (arith, nat_tests) in
    let after : c.skip-after.result.now ≡ drop 1 c.members.rest.now = c.skip-after.ensures in
    subst (λ (r : List ℕ). (x : Members) × (members_at read c.args.count c.args.s.now ≡ Some (x, r))
    × (c.append_token.new.out.items ≡ c.args.out.now.items ++ tokens_of_inline_table x r)) (sym after)
    (members_end read (members_at read c.args.count c.args.s.now)
    (c.args.count - (c.members._member + 1)) c.members.rest.now c.args.out.now.items c.members.out.items
    c.append_token.new.out.items closed (rw (← after) c.in_ok-append_token.ensures) (rw k at c.members.invariant))

pub members-returns-in_err-after_value : goal.members-returns-in_err-after_value
members-returns-in_err-after_value t c =
    let read = value_at c.args.depth in
    let k = one_less c.args.count c.members._member c.members-test.true in
    let unclosed : eqb (first c.members.rest.now) right_brace ≡ false = grind (arith, nat_tests) in
    let p = err_from_is_err_and c.from_residual-in_err-after_value.result
    c.from_residual-in_err-after_value.ensures.1 in
    members_failed read (members_at read c.args.count c.args.s.now)
    (c.args.count - (c.members._member + 1)) c.members.rest.now c.args.out.now c.pair.new.out
    c.members.out.items c.in_err-after_value.field-0.0 p.0 c.from_residual-in_err-after_value.result p.1 p.2
    unclosed
    c.in_err-after_value.ensures (rw k at c.members.invariant)

pub members-returns-in_default : goal.members-returns-in_default
members-returns-in_default t c other =
    let read = value_at c.args.depth in
    let k = one_less c.args.count c.members._member c.members-test.true in
    let unclosed : eqb (first c.members.rest.now) right_brace ≡ false = grind (arith, nat_tests) in
    let r = c.in_ok-after_value.after_value.now in
    let p : (p : Pair) × (pair_at read c.members.rest.now ≡ Some (p, r))
    × (c.pair.new.out.items ≡ c.members.out.items ++ tokens_of_pair p r) = c.in_ok-after_value.ensures in
    let end : c.past_gap-end.result.now ≡ past_gap r = c.past_gap-end.ensures in
    let test : eqb (first c.past_gap-end.result.now) comma ≡ false = grind (arith, nat_tests) in
    let sign : eqb (first (past_gap r)) comma ≡ false = rw (← end) test in
    let closed : None ≡ past right_brace c.past_gap-end.result.now = c.in_default.ensures in
    members_refused read (members_at read c.args.count c.args.s.now)
    (c.args.count - (c.members._member + 1)) c.members.rest.now r p.0 c.args.out.now.items c.members.out.items
    unclosed p.1 sign (closed ∙ ap (past right_brace) end) (rw k at c.members.invariant)

pub members-returns-then-first-ne44 : goal.members-returns-then-first-ne44
members-returns-then-first-ne44 t c =
    let read = value_at c.args.depth in
    let k = one_less c.args.count c.members._member c.members-test.true in
    let unclosed : eqb (first c.members.rest.now) right_brace ≡ false = grind (arith, nat_tests) in
    let r = c.in_ok-after_value.after_value.now in
    let p : (p : Pair) × (pair_at read c.members.rest.now ≡ Some (p, r))
    × (c.pair.new.out.items ≡ c.members.out.items ++ tokens_of_pair p r) = c.in_ok-after_value.ensures in
    let end : c.past_gap-end.result.now ≡ past_gap r = c.past_gap-end.ensures in
    let test : eqb (first c.past_gap-end.result.now) comma ≡ false = grind (arith, nat_tests) in
    let sign : eqb (first (past_gap r)) comma ≡ false = rw (← end) test in
    let closed : Some c.in-Some.after.now ≡ past right_brace c.past_gap-end.result.now = c.in-Some.ensures in
    members_done read (members_at read c.args.count c.args.s.now)
    (c.args.count - (c.members._member + 1)) c.members.rest.now r c.in-Some.after.now p.0 c.args.out.now.items
    c.members.out.items c.pair.new.out.items c.append_token-then-first-ne44.new.out.items unclosed p.1 sign
    (closed ∙ ap (past right_brace) end) p.2 (rw (← end) c.in_ok-append_token-2.ensures) (rw k at c.members.invariant)

pub members-members-preserved : goal.members-members-preserved
members-members-preserved t c =
    let read = value_at c.args.depth in
    let k = one_less c.args.count c.members._member c.members-test.true in
    let unclosed : eqb (first c.members.rest.now) right_brace ≡ false = grind (arith, nat_tests) in
    let r = c.in_ok-after_value.after_value.now in
    let p : (p : Pair) × (pair_at read c.members.rest.now ≡ Some (p, r))
    × (c.pair.new.out.items ≡ c.members.out.items ++ tokens_of_pair p r) = c.in_ok-after_value.ensures in
    let end : c.past_gap-end.result.now ≡ past_gap r = c.past_gap-end.ensures in
    let test : eqb (first c.past_gap-end.result.now) comma ≡ true = grind (arith, nat_tests) in
    let sign : eqb (first (past_gap r)) comma ≡ true = rw (← end) test in
    let next : c.past_comma-rest.result.now ≡ past_gap (drop 1 (past_gap r)) = c.past_comma-rest.ensures ∙
    ap (λ (x : List ℕ). past_gap (drop 1 x)) end in
    subst (λ (x : List ℕ). Completes read (members_at read c.args.count c.args.s.now)
    (c.args.count - (c.members._member + 1)) x c.args.out.now.items c.pair.new.out.items) (sym next)
    (members_turn c.args.depth read (value_sound c.args.depth) (members_at read c.args.count c.args.s.now)
    (c.args.count - (c.members._member + 1)) c.members.rest.now r p.0 c.args.out.now.items c.members.out.items
    c.pair.new.out.items unclosed p.1 sign p.2 (rw k at c.members.invariant))

pub members-returns : goal.members-returns
members-returns t c other =
    let k : c.args.count - c.members._member ≡ 0 = omega arith in
    c.members.invariant.none (rw k (members_none (value_at c.args.depth) c.members.rest.now))

pub pair-returns-in_err-after_key : goal.pair-returns-in_err-after_key
pair-returns-in_err-after_key t c =
    let p = err_from_is_err_and c.from_residual.result c.from_residual.ensures.1 in
    pair_failed (value_at c.args.depth) c.args.s.now c.args.out.now c.key.new.out c.in_err-after_key.field-0.0
    p.0 c.from_residual.result p.1 p.2 c.in_err-after_key.ensures

pub pair-returns-in_default : goal.pair-returns-in_default
pair-returns-in_default t c other =
    let p : (k : Key) × (key_at c.args.s.now ≡ Some (k, c.in_ok-after_key.after_key.now))
    × (c.key.new.out.items ≡ c.args.out.now.items ++ tokens_of_key k c.in_ok-after_key.after_key.now) =
    c.in_ok-after_key.ensures in
    pair_unsigned (value_at c.args.depth) c.args.s.now c.in_ok-after_key.after_key.now p.0 p.1
    (c.in_default.ensures ∙ ap (past equals) c.past_run-sign.ensures)

pub pair-returns : goal.pair-returns
pair-returns t c =
    let p : (k : Key) × (key_at c.args.s.now ≡ Some (k, c.in_ok-after_key.after_key.now))
    × (c.key.new.out.items ≡ c.args.out.now.items ++ tokens_of_key k c.in_ok-after_key.after_key.now) =
    c.in_ok-after_key.ensures in
    pair_noted c.args.depth (value_at c.args.depth)
    (value_sound c.args.depth) c.args.out.now c.key.new.out c.value.new.out c.args.s.now
    c.in_ok-after_key.after_key.now c.in-Some.rest.now p.0 c.value.result
    p.1 p.2 (c.in-Some.ensures ∙ ap (past equals) c.past_run-sign.ensures)
    (rw (← c.past_run.ensures) c.value.ensures)

pub elements-elements-init : goal.elements-elements-init
elements-elements-init t c =
    let k : c.args.count - 0 ≡ c.args.count = omega arith in
    record { some = λ x e. (x.0, (rw k at e), refl); none = λ e. rw k at e }

pub elements-returns-then-first-eq93 : goal.elements-returns-then-first-eq93
elements-returns-then-first-eq93 t c =
    let read = value_at c.args.depth in
    let k = one_less c.args.count c.elements._element c.elements-test.true in
    let closed : eqb (first c.elements.rest.now) right_bracket ≡ true = grind (arith, nat_tests) in
    let after : c.skip-after.result.now ≡ drop 1 c.elements.rest.now = c.skip-after.ensures in
    subst (λ (r : List ℕ). (x : Elements) × (elements_at read c.args.count c.args.s.now ≡ Some (x, r))
    × (c.append_token.new.out.items ≡ c.args.out.now.items ++ tokens_of_array x r)) (sym after)
    (elements_end read (elements_at read c.args.count c.args.s.now)
    (c.args.count - (c.elements._element + 1)) c.elements.rest.now c.args.out.now.items c.elements.out.items
    c.append_token.new.out.items closed (rw (← after) c.in_ok-append_token.ensures) (rw k at c.elements.invariant))

pub elements-returns-in_err-after_value : goal.elements-returns-in_err-after_value
elements-returns-in_err-after_value t c =
    let read = value_at c.args.depth in
    let k = one_less c.args.count c.elements._element c.elements-test.true in
    let unclosed : eqb (first c.elements.rest.now) right_bracket ≡ false = grind (arith, nat_tests) in
    let p = err_from_is_err_and c.from_residual-in_err-after_value.result
    c.from_residual-in_err-after_value.ensures.1 in
    elements_failed read (elements_at read c.args.count c.args.s.now)
    (c.args.count - (c.elements._element + 1)) c.elements.rest.now c.args.out.now c.value.new.out
    c.elements.out.items c.in_err-after_value.field-0.0 p.0 c.from_residual-in_err-after_value.result p.1 p.2
    unclosed
    c.in_err-after_value.ensures (rw k at c.elements.invariant)

pub elements-returns-in_default : goal.elements-returns-in_default
elements-returns-in_default t c other =
    let read = value_at c.args.depth in
    let k = one_less c.args.count c.elements._element c.elements-test.true in
    let unclosed : eqb (first c.elements.rest.now) right_bracket ≡ false = grind (arith, nat_tests) in
    let r = c.in_ok-after_value.after_value.now in
    let v : (v : Value) × (read c.elements.rest.now ≡ Some (v, r))
    × (c.value.new.out.items ≡ c.elements.out.items ++ tokens_of_value v r) = c.in_ok-after_value.ensures in
    let end : c.past_gap-end.result.now ≡ past_gap r = c.past_gap-end.ensures in
    let test : eqb (first c.past_gap-end.result.now) comma ≡ false = grind (arith, nat_tests) in
    let sign : eqb (first (past_gap r)) comma ≡ false = rw (← end) test in
    let closed : None ≡ past right_bracket c.past_gap-end.result.now = c.in_default.ensures in
    elements_refused read (elements_at read c.args.count c.args.s.now)
    (c.args.count - (c.elements._element + 1)) c.elements.rest.now r v.0 c.args.out.now.items
    c.elements.out.items unclosed v.1 sign (closed ∙ ap (past right_bracket) end)
    (rw k at c.elements.invariant)

pub elements-returns-then-first-ne44 : goal.elements-returns-then-first-ne44
elements-returns-then-first-ne44 t c =
    let read = value_at c.args.depth in
    let k = one_less c.args.count c.elements._element c.elements-test.true in
    let unclosed : eqb (first c.elements.rest.now) right_bracket ≡ false = grind (arith, nat_tests) in
    let r = c.in_ok-after_value.after_value.now in
    let v : (v : Value) × (read c.elements.rest.now ≡ Some (v, r))
    × (c.value.new.out.items ≡ c.elements.out.items ++ tokens_of_value v r) = c.in_ok-after_value.ensures in
    let end : c.past_gap-end.result.now ≡ past_gap r = c.past_gap-end.ensures in
    let test : eqb (first c.past_gap-end.result.now) comma ≡ false = grind (arith, nat_tests) in
    let sign : eqb (first (past_gap r)) comma ≡ false = rw (← end) test in
    let closed : Some c.in-Some.after.now ≡ past right_bracket c.past_gap-end.result.now =
    c.in-Some.ensures in
    elements_done read (elements_at read c.args.count c.args.s.now)
    (c.args.count - (c.elements._element + 1)) c.elements.rest.now r c.in-Some.after.now v.0
    c.args.out.now.items c.elements.out.items c.value.new.out.items c.append_token-then-first-ne44.new.out.items
    unclosed v.1 sign (closed ∙ ap (past right_bracket) end) v.2 (rw (← end) c.in_ok-append_token-2.ensures)
    (rw k at c.elements.invariant)

pub elements-elements-preserved : goal.elements-elements-preserved
elements-elements-preserved t c =
    let read = value_at c.args.depth in
    let k = one_less c.args.count c.elements._element c.elements-test.true in
    let unclosed : eqb (first c.elements.rest.now) right_bracket ≡ false = grind (arith, nat_tests) in
    let r = c.in_ok-after_value.after_value.now in
    let v : (v : Value) × (read c.elements.rest.now ≡ Some (v, r))
    × (c.value.new.out.items ≡ c.elements.out.items ++ tokens_of_value v r) = c.in_ok-after_value.ensures in
    let end : c.past_gap-end.result.now ≡ past_gap r = c.past_gap-end.ensures in
    let test : eqb (first c.past_gap-end.result.now) comma ≡ true = grind (arith, nat_tests) in
    let sign : eqb (first (past_gap r)) comma ≡ true = rw (← end) test in
    let next : c.past_comma-rest.result.now ≡ past_gap (drop 1 (past_gap r)) = c.past_comma-rest.ensures ∙
    ap (λ (x : List ℕ). past_gap (drop 1 x)) end in
    subst (λ (x : List ℕ). Fills read (elements_at read c.args.count c.args.s.now)
    (c.args.count - (c.elements._element + 1)) x c.args.out.now.items c.value.new.out.items) (sym next)
    (elements_turn c.args.depth read (value_sound c.args.depth) (elements_at read c.args.count c.args.s.now)
    (c.args.count - (c.elements._element + 1)) c.elements.rest.now r v.0 c.args.out.now.items
    c.elements.out.items c.value.new.out.items unclosed v.1 sign v.2 (rw k at c.elements.invariant))

pub elements-returns : goal.elements-returns
elements-returns t c other =
    let k : c.args.count - c.elements._element ≡ 0 = omega arith in
    c.elements.invariant.none (rw k (elements_none (value_at c.args.depth) c.elements.rest.now))

pub array-returns : goal.array-returns
array-returns t c =
    let k : c.args.depth + 1 ≡ suc c.args.depth = omega arith in
    let s = c.args.s.now in
    let opened : eqb (first s) left_bracket ≡ true = eq-eqb (first s) left_bracket c.requires.opened in
    let inner : c.past_gap.result.now ≡ past_gap (drop 1 s) = c.past_gap.ensures ∙
    ap past_gap c.skip-behind.ensures in
    subst (λ (d : ℕ). AppendsTokens tokens_of_value c.args.out.now c.elements.new.out c.elements.result (value_at d s))
    (sym k)
    (array_noted c.args.depth c.args.out.now c.append_token.new.out c.elements.new.out s c.elements.result opened
    (rw (← c.skip-behind.ensures) c.in_ok-append_token.ensures) (rw (← inner) c.elements.ensures))

pub inline_table-returns : goal.inline_table-returns
inline_table-returns t c =
    let k : c.args.depth + 1 ≡ suc c.args.depth = omega arith in
    let s = c.args.s.now in
    let opened : eqb (first s) left_brace ≡ true = eq-eqb (first s) left_brace c.requires.opened in
    let inner : c.past_gap.result.now ≡ past_gap (drop 1 s) = c.past_gap.ensures ∙
    ap past_gap c.skip-behind.ensures in
    subst (λ (d : ℕ). AppendsTokens tokens_of_value c.args.out.now c.members.new.out c.members.result (value_at d s))
    (sym k)
    (inline_noted c.args.depth c.args.out.now c.append_token.new.out c.members.new.out s c.members.result opened
    (rw (← c.skip-behind.ensures) c.in_ok-append_token.ensures) (rw (← inner) c.members.ensures))
