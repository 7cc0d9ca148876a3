use Rattle.std.proofs.Common.{◌≡◌, ◌∷◌, ◌++◌, ap, sym, ◌∙◌}
use Rattle.edit_syntax.specs.Characters.{equals}
use Rattle.edit_syntax.specs.SyntaxTokens.{tokens_of_key}
use Rattle.edit_syntax.specs.Reading.{key_at, past, past_blanks}
use Rattle.edit_syntax.proofs.TokenLaws.{some_is}
use Rattle.edit_syntax.proofs.StepLaws.{naming_again, naming_read, naming_value, sign_read, sign_there, refused_memory}
use Rattle.edit_syntax.proofs.read.steps.past_name.Goals as goal

pub returns-in-Err : goal.returns-in-Err
returns-in-Err c k a b more h e =
    refused_memory (key_at c.args.s.now) (k, a ++ (equals ∷ (b ++ more))) c.in-Err.error c.to_error.result
    (ap key_at e ∙ naming_again k a b more h) c.in-Err.ensures c.to_error.ensures

pub returns-in_default : goal.returns-in_default
returns-in_default c k a b more h e =
    let p = c.in-Ok.ensures in
    let n = naming_read c.args.s.now c.in-Ok.rest.now p.0 k a b more h e p.1 in
    absurd (sign_there c.in-Ok.rest.now k a b more h n.1 (ap (past equals) (sym c.past_blanks-sign.ensures) ∙
    sym c.in_default.ensures))

pub returns : goal.returns
returns c k a b more h e =
    let p = c.in-Ok.ensures in
    let out = c.args.out.now.items in
    let r = c.in-Ok.rest.now in
    let n = naming_read c.args.s.now r p.0 k a b more h e p.1 in
    let sign = c.in-Some.ensures ∙ ap (past equals) c.past_blanks-sign.ensures ∙
    sign_read r k a b more h n.1 in
    let rest : c.in-Some.rest.now ≡ b ++ more = some_is _ _ sign in (
      c.past_blanks.ensures ∙ ap past_blanks rest ∙ naming_value k a b more h,
      p.2 ∙ ap (λ x. out ++ tokens_of_key x r) n.0 ∙ ap (λ t. out ++ tokens_of_key k t) n.1,
    )
