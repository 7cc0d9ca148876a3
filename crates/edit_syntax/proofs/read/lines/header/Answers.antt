use Rattle.std.proofs.Common.{◌≡◌, ◌++◌, Some, true, eqb, eq-eqb, ap, ◌∙◌, drop}
use Rattle.edit_syntax.specs.Characters.{left_bracket, right_bracket}
use Rattle.edit_syntax.specs.Strings.{Key}
use Rattle.edit_syntax.specs.SyntaxTokens.{tokens_of_key}
use Rattle.edit_syntax.specs.Reading.{first, past_blanks, past, key_at}
use Rattle.edit_syntax.proofs.NotedLines.{header_noted}
use Rattle.edit_syntax.proofs.read.lines.header.Goals as goal

pub returns : goal.returns
returns c =
    let s = c.args.s.now in
    let opened : eqb (first s) left_bracket ≡ true = eq-eqb _ _ c.requires in
    let inner : c.past_run.result.now ≡ past_blanks (drop 1 s) = c.past_run.ensures ∙
    ap past_blanks c.skip.ensures in
    let k : (k : Key) × (key_at c.past_run.result.now ≡ Some (k, c.in_ok-after_key.after_key.now))
    × (c.key.new.out.items ≡ c.args.out.now.items ++ tokens_of_key k c.in_ok-after_key.after_key.now) =
    c.in_ok-after_key.ensures in
    header_noted c.args.out.now.items c.key.new.out.items c.append_token.new.out.items s
    c.in_ok-after_key.after_key.now c.in-Some.rest.now k.0 opened (rw (← inner) k.1) k.2
    (c.in-Some.ensures ∙ ap (past right_bracket) c.past_run-end.ensures) c.in_ok-append_token.ensures
