use Rattle.std.proofs.Common.{◌≡◌, ◌⊎◌, get_or, arith}
use Rattle.edit_json.specs.Taken.{Follows}
use Rattle.edit_json.proofs.LexemeLemmas.{at_the_end, behind, one_byte}
use Rattle.edit_json.proofs.TakenLemmas.{closing_follows, comma_taken, first_of_empty, takes_nothing}
use Rattle.edit_json.proofs.lexemes.skip_comma.Goals as goal

pub returns-in-empty : goal.returns-in-empty
returns-in-empty c =
    let t = c.args.text.now in
    record { follows = takes_nothing Follows t (λ other same. at_the_end other (first_of_empty t other same (omega arith))) }

pub returns-in-34 : goal.returns-in-34
returns-in-34 c =
    let t = c.args.text.now in
    let r = c.skip_blanks-rest.result.now in
    let comma : get_or t 0 0 ≡ 44 = grind arith in
    let begins : (get_or r 0 0 ≡ 34) ⊎ ((get_or r 0 0 ≡ 123) ⊎ (get_or r 0 0 ≡ 91)) = grind arith in
    record { follows = comma_taken t (behind 1 t) r (one_byte t 44 (omega arith) comma) c.skip_blanks-rest.ensures.same (omega arith) begins }

pub returns-in-93 : goal.returns-in-93
returns-in-93 c =
    let t = c.args.text.now in
    let closes : (get_or t 0 0 ≡ 93) ⊎ (get_or t 0 0 ≡ 125) = grind arith in
    record { follows = takes_nothing Follows t (λ other same. closing_follows t other same (omega arith) closes) }
