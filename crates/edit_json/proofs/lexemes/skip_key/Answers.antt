use Rattle.std.proofs.Common.{◌≡◌, get_or, arith}
use Rattle.edit_json.proofs.LexemeLemmas.{behind, one_byte}
use Rattle.edit_json.proofs.TakenLemmas.{key_taken}
use Rattle.edit_json.proofs.lexemes.skip_key.Goals as goal

pub returns-in-58 : goal.returns-in-58
returns-in-58 c =
    let t = c.args.text.now in
    let v = c.in_ok-rest.rest.now in
    let quote : get_or t 0 0 ≡ 34 = grind arith in
    let colon : get_or v 0 0 ≡ 58 = grind arith in
    record { token = key_taken t (behind 1 t) v (behind 1 v) c.skip_blanks.result.now (one_byte t 34 c.in-34.len_at_least quote) c.in_ok-rest.ensures.closed (one_byte v 58 c.in-58.len_at_least colon) c.skip_blanks.ensures.same }
