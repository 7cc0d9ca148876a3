use Rattle.std.proofs.Common.{◌≡◌, [], ◌∷◌, get_or, arith}
use Rattle.std.proofs.lemmas.Option.{IfSome_then}
use Rattle.json.specs.Token.{end_array}
use Rattle.edit_json.proofs.LexemeLemmas.{behind, one_byte, tokens_end_array}
use Rattle.edit_json.proofs.TakenLemmas.{token_taken}
use Rattle.edit_json.proofs.lexemes.split_end_array.Goals as goal

pub returns-in-93 : goal.returns-in-93
returns-in-93 c =
    let t = c.args.text.now in
    let first : get_or t 0 0 ≡ 93 = grind arith in
    record {
      token = IfSome_then c.skip_comma.result c.skip_comma.ensures.follows
          (λ r follows. token_taken (93 ∷ []) end_array t (behind 1 t) r.now (one_byte t 93 c.in-93.len_at_least first) follows (λ o ends. tokens_end_array o));
    }
