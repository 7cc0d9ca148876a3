use Rattle.std.proofs.Common.{◌≡◌, [], ◌∷◌, get_or, arith}
use Rattle.std.proofs.lemmas.Option.{IfSome_then}
use Rattle.json.specs.Token.{end_object}
use Rattle.edit_json.proofs.LexemeLemmas.{behind, one_byte, tokens_end_object}
use Rattle.edit_json.proofs.TakenLemmas.{token_taken}
use Rattle.edit_json.proofs.lexemes.split_end_object.Goals as goal

pub returns-in-125 : goal.returns-in-125
returns-in-125 c =
    let t = c.args.text.now in
    let first : get_or t 0 0 ≡ 125 = grind arith in
    record {
      token = IfSome_then c.skip_comma.result c.skip_comma.ensures.follows
          (λ r follows. token_taken (125 ∷ []) end_object t (behind 1 t) r.now (one_byte t 125 c.in-125.len_at_least first) follows (λ o ends. tokens_end_object o));
    }
