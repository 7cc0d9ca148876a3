use Rattle.std.proofs.Common.{◌≡◌, [], ◌∷◌, get_or, arith}
use Rattle.edit_json.proofs.LexemeLemmas.{one_byte, tokens_begin_array}
use Rattle.edit_json.proofs.lexemes.split_begin_array.Goals as goal

pub returns-in-91 : goal.returns-in-91
returns-in-91 c =
    let t = c.args.text.now in
    let first : get_or t 0 0 ≡ 91 = grind arith in
    record { token = record { front = 91 ∷ []; whole = one_byte t 91 (omega arith) first; local = λ other same. tokens_begin_array other } }
