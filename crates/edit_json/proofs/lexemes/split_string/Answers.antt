use Rattle.std.proofs.Common.{◌+◌, sym, ap, ◌∙◌, arith}
use Rattle.std.proofs.lemmas.List.{take_rest}
use Rattle.json.specs.Lex.{between, lex}
use Rattle.edit_json.proofs.LexemeLemmas.{split_at_quote}
use Rattle.edit_json.proofs.lexemes.split_string.Goals as goal

pub returns-clause-content : goal.returns-clause-content
returns-clause-content c =
    let t = c.args.text.now in
    let n = c.plain_len-len.result in
    (split_at_quote t n c.plain_len-len.ensures.value (omega (arith, c.if-len-text.false, c.plain_len-len.ensures.bound)) c.if-text-len-ne34.false).content

pub returns-clause-rest : goal.returns-clause-rest
returns-clause-rest c =
    let t = c.args.text.now in
    let n = c.plain_len-len.result in
    (split_at_quote t n c.plain_len-len.ensures.value (omega (arith, c.if-len-text.false, c.plain_len-len.ensures.bound)) c.if-text-len-ne34.false).rest
    ∙ ap (lex between) (sym (take_rest t (n + 1)))
