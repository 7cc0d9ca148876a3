use Rattle.std.proofs.Common.{◌≡◌, ◌+◌, ◌-◌, ◌++◌, length, Some, None, refl, sym, ◌∙◌, eqb, false, arith}
use Rattle.std.proofs.lemmas.Bool.{eqb-true}
use Rattle.std.proofs.lemmas.Result.{err_from_is_err_and}
use Rattle.edit_syntax.specs.Grammar.{Line}
use Rattle.edit_syntax.specs.Reading.{line_at, line_end_at, lines_at}
use Rattle.edit_syntax.specs.SyntaxTokens.{tokens_of_line}
use Rattle.edit_syntax.proofs.Loops.{one_less, rest_of}
use Rattle.edit_syntax.proofs.NotedLines.{lines_done, lines_turn, lines_broken, lines_fail, lines_none, found, only, refused, exit_only}
use Rattle.edit_syntax.proofs.read.lines.lines.Goals as goal

pub lines-init : goal.lines-init
lines-init c =
    let k : length c.args.text.now + 1 - 0 ≡ length c.args.text.now + 1 = omega arith in
    record { some = λ t e. (t, (rw k at e), rw c.new-out.ensures.items refl); none = λ e. rw k at e }

pub returns-in_err-after_line-clause-only : goal.returns-in_err-after_line-clause-only
returns-in_err-after_line-clause-only c =
    let k = one_less (length c.args.text.now + 1) c.lines._line c.lines-test.true in
    let p = err_from_is_err_and c.from_residual.result c.from_residual.ensures.1 in
    exit_only c.args.text.now c.in_err-after_line.field-0.0 p.0 c.from_residual.result p.1 p.2
    (λ other. lines_fail (lines_at 80 (length c.args.text.now + 1) c.args.text.now)
    (length c.args.text.now + 1 - (c.lines._line + 1)) c.lines.rest.now c.lines.out.items
    (c.in_err-after_line.ensures {u = tt} other) (rw k at c.lines.invariant))

pub returns-then-is_empty-clause-found : goal.returns-then-is_empty-clause-found
returns-then-is_empty-clause-found c =
    let k = one_less (length c.args.text.now + 1) c.lines._line c.lines-test.true in
    let r = c.in_ok-after_line.after_line.now in
    let p : (x : Line) × (line_at 80 c.lines.rest.now ≡ Some (x, r))
    × (c.line.new.out.items ≡ c.lines.out.items ++ tokens_of_line x r) = c.in_ok-after_line.ensures in
    let over : length r ≡ 0 = eqb-true _ _ (sym c.is_empty.ensures ∙ c.if-is_empty.true) in
    let d = lines_done (lines_at 80 (length c.args.text.now + 1) c.args.text.now)
    (length c.args.text.now + 1 - (c.lines._line + 1)) c.lines.rest.now r p.0 c.lines.out.items
    c.line.new.out.items p.1 over p.2 (rw k at c.lines.invariant) in
    found c.args.text.now d.0 c.line.new.out.items d.1 d.2

pub returns-then-is_empty-clause-only : goal.returns-then-is_empty-clause-only
returns-then-is_empty-clause-only c =
    let k = one_less (length c.args.text.now + 1) c.lines._line c.lines-test.true in
    let r = c.in_ok-after_line.after_line.now in
    let p : (x : Line) × (line_at 80 c.lines.rest.now ≡ Some (x, r))
    × (c.line.new.out.items ≡ c.lines.out.items ++ tokens_of_line x r) = c.in_ok-after_line.ensures in
    let over : length r ≡ 0 = eqb-true _ _ (sym c.is_empty.ensures ∙ c.if-is_empty.true) in
    let d = lines_done (lines_at 80 (length c.args.text.now + 1) c.args.text.now)
    (length c.args.text.now + 1 - (c.lines._line + 1)) c.lines.rest.now r p.0 c.lines.out.items
    c.line.new.out.items p.1 over p.2 (rw k at c.lines.invariant) in
    only c.args.text.now d.0 c.line.new.out.items d.1 d.2

pub returns-in_default-clause-only : goal.returns-in_default-clause-only
returns-in_default-clause-only c form has valid le =
    let k = one_less (length c.args.text.now + 1) c.lines._line c.lines-test.true in
    let r = c.in_ok-after_line.after_line.now in
    let p : (x : Line) × (line_at 80 c.lines.rest.now ≡ Some (x, r))
    × (c.line.new.out.items ≡ c.lines.out.items ++ tokens_of_line x r) = c.in_ok-after_line.ensures in
    let more : eqb (length r) 0 ≡ false = sym c.is_empty.ensures ∙ c.if-is_empty.false in
    let none : None ≡ rest_of (line_end_at r) = c.in_default.ensures in
    absurd (refused c.args.text.now form
    (lines_broken (lines_at 80 (length c.args.text.now + 1) c.args.text.now)
    (length c.args.text.now + 1 - (c.lines._line + 1)) c.lines.rest.now r p.0 c.lines.out.items p.1 more none
    (rw k at c.lines.invariant)) has valid le)

pub lines-preserved : goal.lines-preserved
lines-preserved c =
    let k = one_less (length c.args.text.now + 1) c.lines._line c.lines-test.true in
    let r = c.in_ok-after_line.after_line.now in
    let p : (x : Line) × (line_at 80 c.lines.rest.now ≡ Some (x, r))
    × (c.line.new.out.items ≡ c.lines.out.items ++ tokens_of_line x r) = c.in_ok-after_line.ensures in
    let more : eqb (length r) 0 ≡ false = sym c.is_empty.ensures ∙ c.if-is_empty.false in
    let some : Some c.in-Some.next.now ≡ rest_of (line_end_at r) = c.in-Some.ensures in
    lines_turn (lines_at 80 (length c.args.text.now + 1) c.args.text.now)
    (length c.args.text.now + 1 - (c.lines._line + 1)) c.lines.rest.now r c.in-Some.next.now p.0
    c.lines.out.items c.line.new.out.items p.1 more some p.2 (rw k at c.lines.invariant)

pub returns-clause-only : goal.returns-clause-only
returns-clause-only c form has valid le =
    let k : length c.args.text.now + 1 - c.lines._line ≡ 0 = omega arith in
    absurd (refused c.args.text.now form
    (lines_none (lines_at 80 (length c.args.text.now + 1) c.args.text.now) c.lines.rest.now c.lines.out.items
    (rw k at c.lines.invariant)) has valid le)
