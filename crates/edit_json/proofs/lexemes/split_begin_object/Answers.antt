use Rattle.std.proofs.Common.{◌≡◌, [], ◌∷◌, get_or, arith}
use Rattle.edit_json.proofs.LexemeLemmas.{one_byte, tokens_begin_object}
use Rattle.edit_json.proofs.lexemes.split_begin_object.Goals as goal

pub returns-in-123 : goal.returns-in-123
returns-in-123 c =
    let t = c.args.text.now in
    let first : get_or t 0 0 ≡ 123 = grind arith in
    record { token = record { front = 123 ∷ []; whole = one_byte t 123 (omega arith) first; local = λ other same. tokens_begin_object other } }
