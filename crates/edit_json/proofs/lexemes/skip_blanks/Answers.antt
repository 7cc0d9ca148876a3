use Rattle.std.proofs.Common.{◌≡◌, [], ◌∷◌, get_or, refl, ◌∙◌, arith}
use Rattle.edit_json.specs.Taken.{HasSameLexemes, Takes}
use Rattle.edit_json.proofs.LexemeLemmas.{one_byte, behind, lex_blank}
use Rattle.edit_json.proofs.TakenLemmas.{takes_both, takes_nothing}
use Rattle.edit_json.proofs.lexemes.skip_blanks.Goals as goal

pub loop-rest-init : goal.loop-rest-init
loop-rest-init c = takes_nothing HasSameLexemes c.args.text.now (λ other same. refl)

pub loop-rest-preserved : goal.loop-rest-preserved
loop-rest-preserved c =
    let t = c.loop-rest.rest.now in
    let blank : get_or t 0 0 ≡ 32 = grind arith in
    let one : Takes HasSameLexemes t (behind 1 t) = record { front = 32 ∷ []; whole = one_byte t 32 c.in-32.len_at_least blank; local = λ other same. lex_blank other } in
    takes_both HasSameLexemes HasSameLexemes HasSameLexemes c.args.text.now t (behind 1 t) c.loop-rest.invariant one (λ x y z e f. e ∙ f)
