use Rattle.std.proofs.Common.{◌≡◌, true, false, ap, sym, subst, List, ℕ, ◌++◌, Some, ◌∙◌}
use Rattle.std.proofs.lemmas.Result.{err_from_is_err_and}
use Rattle.edit_syntax.specs.Grammar.{Line, Statement}
use Rattle.edit_syntax.specs.Reading.{first, past_blanks, past_comment, is_line_over, statement_at, line_at}
use Rattle.edit_syntax.specs.SyntaxTokens.{tokens_of_line, tokens_of_statement}
use Rattle.edit_syntax.proofs.NotedLines.{empty_noted, full_noted, line_failed}
use Rattle.edit_syntax.proofs.read.lines.line.Goals as goal

pub returns-then-is_line_over : goal.returns-then-is_line_over
returns-then-is_line_over c =
    let s = c.args.s.now in
    let start : c.past_run-start.result.now ≡ past_blanks s = c.past_run-start.ensures in
    let over : is_line_over (first (past_blanks s)) ≡ true =
    rw (← start, ← c.first.ensures, ← c.is_line_over.ensures) c.if-is_line_over.true in
    let after : c.past_comment.result.now ≡ past_comment (past_blanks s) = c.past_comment.ensures ∙
    ap past_comment start in
    subst (λ (r : List ℕ). (x : Line) × (line_at c.args.depth s ≡ Some (x, r))
    × (c.args.out.now.items ≡ c.args.out.now.items ++ tokens_of_line x r)) (sym after)
    (empty_noted c.args.depth c.args.out.now.items s over)

pub returns-in_err-rest : goal.returns-in_err-rest
returns-in_err-rest c =
    let s = c.args.s.now in
    let start : c.past_run-start.result.now ≡ past_blanks s = c.past_run-start.ensures in
    let over : is_line_over (first (past_blanks s)) ≡ false =
    rw (← start, ← c.first.ensures, ← c.is_line_over.ensures) c.if-is_line_over.false in
    let p = err_from_is_err_and c.from_residual.result c.from_residual.ensures.1 in
    line_failed c.args.depth c.args.out.now c.statement.new.out s c.in_err-rest.field-0.0 p.0
    c.from_residual.result p.1 p.2 over (rw (← start) c.in_err-rest.ensures)

pub returns : goal.returns
returns c =
    let s = c.args.s.now in
    let start : c.past_run-start.result.now ≡ past_blanks s = c.past_run-start.ensures in
    let over : is_line_over (first (past_blanks s)) ≡ false =
    rw (← start, ← c.first.ensures, ← c.is_line_over.ensures) c.if-is_line_over.false in
    let r = c.in_ok-rest.rest.now in
    let p : (x : Statement) × (statement_at c.args.depth c.past_run-start.result.now ≡ Some (x, r))
    × (c.statement.new.out.items ≡ c.args.out.now.items ++ tokens_of_statement x r) = c.in_ok-rest.ensures in
    let after : c.past_comment-2.result.now ≡ past_comment (past_blanks r) = c.past_comment-2.ensures ∙
    ap past_comment c.past_run.ensures in
    subst (λ (t : List ℕ). (x : Line) × (line_at c.args.depth s ≡ Some (x, t))
    × (c.statement.new.out.items ≡ c.args.out.now.items ++ tokens_of_line x t)) (sym after)
    (full_noted c.args.depth c.args.out.now.items c.statement.new.out.items s r p.0 over
    (rw (← start) p.1) p.2)
