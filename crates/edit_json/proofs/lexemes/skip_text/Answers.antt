use Rattle.std.proofs.Common.{◌≡◌, get_or, arith}
use Rattle.edit_json.proofs.LexemeLemmas.{behind, one_byte}
use Rattle.edit_json.proofs.TakenLemmas.{string_taken}
use Rattle.edit_json.proofs.lexemes.skip_text.Goals as goal

pub returns : goal.returns
returns c =
    let t = c.args.text.now in
    let quote : get_or t 0 0 ≡ 34 = grind arith in
    record { token = string_taken t (behind 1 t) c.in_ok-rest.rest.now c.in_ok-rest-2.rest.now (one_byte t 34 c.in-34.len_at_least quote) c.in_ok-rest.ensures.closed c.in_ok-rest-2.ensures.follows }
