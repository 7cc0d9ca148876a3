use Rattle.std.proofs.Common.{◌≡◌, ◌∷◌, get_or, ap, ◌∙◌, arith}
use Rattle.json.specs.Lex.{between, fresh, lex, punctuate, tokens}
use Rattle.json.specs.Token.{key}
use Rattle.edit_json.specs.Taken.{HasSameLexemes}
use Rattle.edit_json.proofs.LexemeLemmas.{behind, one_byte, tokens_key}
use Rattle.edit_json.proofs.TakenLemmas.{takes_here}
use Rattle.edit_json.proofs.lexemes.split_key.Goals as goal

pub returns-in-58 : goal.returns-in-58
returns-in-58 c =
    let t = c.args.text.now in
    let k = c.in_ok-key.key.now in
    let r = c.in_ok-key.rest.now in
    let quote : get_or t 0 0 ≡ 34 = grind arith in
    let colon : get_or r 0 0 ≡ 58 = grind arith in
    record {
      tokens =
          ap tokens (one_byte t 34 c.in-34.len_at_least quote)
          ∙ tokens_key (behind 1 t) k (behind 1 r) c.in_ok-key.ensures.content
          (c.in_ok-key.ensures.rest ∙ ap (lex between) (one_byte r 58 c.in-58.len_at_least colon))
          ∙ ap (λ ls. key k ∷ punctuate fresh ls) (takes_here HasSameLexemes (behind 1 r) c.skip_blanks.result.now c.skip_blanks.ensures.same);
    }
