use Rattle.std.proofs.Common.{◌≡◌, Option, codes, refl, subst}
use Rattle.std.proofs.lemmas.Result.{IfErr-weaker, IfOk-weaker}
use Rattle.clap.specs.Words.{Text}
use Rattle.edit_program.specs.ParsedBound.{HasNoBound, IsBound}
use Rattle.edit_program.proofs.ArgsLemmas.{option_text_is}
use Rattle.edit_program.proofs.publication_bound.publication_bound.Goals as goal

-- what holds of three values holds of the same ones
same_values : (P : Option Text → Option Text → Option Text → Type 0) (a b c x y z : Option Text)
    → a ≡ x → b ≡ y → c ≡ z → P a b c → P x y z
same_values P a b c x y z first second third h =
    subst (λ (o : Option Text). P o y z) first
    (subst (λ (o : Option Text). P a o z) second (subst (λ (o : Option Text). P a b o) third h))

pub returns-clause-ok : goal.returns-clause-ok
returns-clause-ok c =
    let time = option_text_is c.args.matches.now (codes "published-before") c.get_str.result _ refl
    c.get_str.ensures in
    let days = option_text_is c.args.matches.now (codes "min-age") c.get_str-2.result _ refl
    c.get_str-2.ensures in
    let now = option_text_is c.args.matches.now (codes "now") c.get_str-3.result _ refl c.get_str-3.ensures in
    IfOk-weaker c.bound_of.result _ _
    (λ bound h. same_values (λ t d n. IsBound t d n bound) _ _ _ _ _ _ time days now h)
    c.bound_of.ensures.ok

pub returns-clause-error : goal.returns-clause-error
returns-clause-error c =
    let time = option_text_is c.args.matches.now (codes "published-before") c.get_str.result _ refl
    c.get_str.ensures in
    let days = option_text_is c.args.matches.now (codes "min-age") c.get_str-2.result _ refl
    c.get_str-2.ensures in
    let now = option_text_is c.args.matches.now (codes "now") c.get_str-3.result _ refl c.get_str-3.ensures in
    IfErr-weaker c.bound_of.result _ _
    (λ e h. same_values HasNoBound _ _ _ _ _ _ time days now h)
    c.bound_of.ensures.error
