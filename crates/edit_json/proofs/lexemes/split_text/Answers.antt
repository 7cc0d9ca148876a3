use Rattle.std.proofs.Common.{◌≡◌, ◌∷◌, get_or, ap, ◌∙◌, arith}
use Rattle.json.specs.Lex.{tokens}
use Rattle.json.specs.Token.{string}
use Rattle.edit_json.specs.Taken.{Follows}
use Rattle.edit_json.proofs.LexemeLemmas.{behind, one_byte, tokens_string}
use Rattle.edit_json.proofs.TakenLemmas.{takes_here}
use Rattle.edit_json.proofs.lexemes.split_text.Goals as goal

pub returns : goal.returns
returns c =
    let t = c.args.text.now in
    let s = c.in_ok-content.content.now in
    let r = c.in_ok-content.rest.now in
    let quote : get_or t 0 0 ≡ 34 = grind arith in
    let done = takes_here Follows r c.in_ok-skip_comma.field-0.now c.in_ok-skip_comma.ensures.follows in
    record {
      tokens =
          ap tokens (one_byte t 34 c.in-34.len_at_least quote)
          ∙ tokens_string (behind 1 t) s r c.in_ok-content.ensures.content c.in_ok-content.ensures.rest done.no_key
          ∙ ap (λ ts. string s ∷ ts) done.tokens;
    }
