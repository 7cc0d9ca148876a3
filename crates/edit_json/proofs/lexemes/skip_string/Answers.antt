use Rattle.std.proofs.Common.{◌≡◌, ◌⊎◌, [], ◌∷◌, get_or, subst, arith}
use Rattle.edit_json.specs.Passed.{Passed}
use Rattle.edit_json.specs.Taken.{ClosesString}
use Rattle.edit_json.proofs.LexemeLemmas.{behind, one_byte}
use Rattle.edit_json.proofs.PassedLemmas.{closed, escape_taken, passed_both}
use Rattle.edit_json.proofs.TakenLemmas.{HasFront, front_taken, takes_both}
use Rattle.edit_json.proofs.lexemes.skip_string.Goals as goal

pub loop-rest-preserved : goal.loop-rest-preserved
loop-rest-preserved c =
    let t = c.loop-rest.rest.now in
    let r = c.skip_plain-rest-in-92.result.now in
    let backslash : get_or t 0 0 ≡ 92 = grind arith in
    let escaped : (get_or t 1 0 ≡ 34) ⊎ (get_or t 1 0 ≡ 92) = grind arith in
    let escape = escape_taken t c.in-92.len_at_least backslash escaped in
    let more = takes_both Passed Passed Passed t (behind 2 t) r escape c.skip_plain-rest-in-92.ensures.passed passed_both in
    takes_both Passed Passed Passed c.args.text.now t r c.loop-rest.invariant more passed_both

pub returns-in-34 : goal.returns-in-34
returns-in-34 c =
    let t = c.loop-rest.rest.now in
    let quote : get_or t 0 0 ≡ 34 = grind arith in
    let r = behind 1 t in
    record {
      closed = takes_both Passed (HasFront (34 ∷ [])) ClosesString c.args.text.now t r c.loop-rest.invariant
          (front_taken (34 ∷ []) t r (one_byte t 34 c.in-34.len_at_least quote))
          (λ x y z passed front. closed x z (subst (Passed x) front passed));
    }
