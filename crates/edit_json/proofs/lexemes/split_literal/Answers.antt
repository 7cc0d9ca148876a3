use Rattle.std.proofs.Common.{◌≡◌, [], ◌∷◌, true, false, get_or, arith}
use Rattle.json.specs.Token.{boolean, null, number}
use Rattle.edit_json.proofs.LexemeLemmas.{behind, five_bytes, four_bytes, one_byte, tokens_false, tokens_null, tokens_one, tokens_true, tokens_two}
use Rattle.edit_json.proofs.TakenLemmas.{token_taken}
use Rattle.edit_json.proofs.lexemes.split_literal.Goals as goal

pub returns-in_ok-skip_comma-in-116 : goal.returns-in_ok-skip_comma-in-116
returns-in_ok-skip_comma-in-116 c =
    let t = c.args.text.now in
    let b0 : get_or t 0 0 ≡ 116 = grind arith in
    let b1 : get_or t 1 0 ≡ 114 = grind arith in
    let b2 : get_or t 2 0 ≡ 117 = grind arith in
    let b3 : get_or t 3 0 ≡ 101 = grind arith in
    record { token = token_taken (116 ∷ 114 ∷ 117 ∷ 101 ∷ []) (boolean true) t (behind 4 t) c.in_ok-skip_comma-in-116.field-0.now (four_bytes t 116 114 117 101 (grind arith) b0 b1 b2 b3) c.in_ok-skip_comma-in-116.ensures.follows tokens_true }

pub returns-in_ok-skip_comma-in-102 : goal.returns-in_ok-skip_comma-in-102
returns-in_ok-skip_comma-in-102 c =
    let t = c.args.text.now in
    let b0 : get_or t 0 0 ≡ 102 = grind arith in
    let b1 : get_or t 1 0 ≡ 97 = grind arith in
    let b2 : get_or t 2 0 ≡ 108 = grind arith in
    let b3 : get_or t 3 0 ≡ 115 = grind arith in
    let b4 : get_or t 4 0 ≡ 101 = grind arith in
    record { token = token_taken (102 ∷ 97 ∷ 108 ∷ 115 ∷ 101 ∷ []) (boolean false) t (behind 5 t) c.in_ok-skip_comma-in-102.field-0.now (five_bytes t 102 97 108 115 101 c.in-102.len_at_least b0 b1 b2 b3 b4) c.in_ok-skip_comma-in-102.ensures.follows tokens_false }

pub returns-in_ok-skip_comma-in-110 : goal.returns-in_ok-skip_comma-in-110
returns-in_ok-skip_comma-in-110 c =
    let t = c.args.text.now in
    let b0 : get_or t 0 0 ≡ 110 = grind arith in
    let b1 : get_or t 1 0 ≡ 117 = grind arith in
    let b2 : get_or t 2 0 ≡ 108 = grind arith in
    let b3 : get_or t 3 0 ≡ 108 = grind arith in
    record { token = token_taken (110 ∷ 117 ∷ 108 ∷ 108 ∷ []) null t (behind 4 t) c.in_ok-skip_comma-in-110.field-0.now (four_bytes t 110 117 108 108 (grind arith) b0 b1 b2 b3) c.in_ok-skip_comma-in-110.ensures.follows tokens_null }

pub returns-in_ok-skip_comma-in-49 : goal.returns-in_ok-skip_comma-in-49
returns-in_ok-skip_comma-in-49 c =
    let t = c.args.text.now in
    let b0 : get_or t 0 0 ≡ 49 = grind arith in
    record { token = token_taken (49 ∷ []) (number (49 ∷ [])) t (behind 1 t) c.in_ok-skip_comma-in-49.field-0.now (one_byte t 49 (grind arith) b0) c.in_ok-skip_comma-in-49.ensures.follows tokens_one }

pub returns-in_ok-skip_comma-in-50 : goal.returns-in_ok-skip_comma-in-50
returns-in_ok-skip_comma-in-50 c =
    let t = c.args.text.now in
    let b0 : get_or t 0 0 ≡ 50 = grind arith in
    record { token = token_taken (50 ∷ []) (number (50 ∷ [])) t (behind 1 t) c.in_ok-skip_comma-in-50.field-0.now (one_byte t 50 (grind arith) b0) c.in_ok-skip_comma-in-50.ensures.follows tokens_two }
