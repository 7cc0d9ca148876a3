use Rattle.std.proofs.Common.{◌≡◌, ℕ, List, Option, None, String, Global, string_bytes, subst, sym, ◌∙◌}
use Rattle.std.specs.Prelude.{MatchOption}
use Rattle.std.proofs.lemmas.Result.{IfOk-weaker}
use Rattle.edit_syntax.specs.Grammar.{Text}
use Rattle.edit_tree.specs.EditBytes.{in_inline, inserted_text}
use Rattle.edit_document.specs.Items.{place_view}
use Rattle.edit_document.specs.NewItemViews.{new_value_view}
use Rattle.edit_tree.specs.Assertions.{IsDocument}
use Rattle.edit_rewrite.proofs.InsertedLines.{each_ok}
use Rattle.edit_rewrite.proofs.insert.with_member.Goals as goal

pub returns-in-Some-clause-text : goal.returns-in-Some-clause-text
returns-in-Some-clause-text c form m =
    let place = place_view c.args.place.now in
    let v = new_value_view c.args.value.now in
    let pair = c.as_str-pair.result.now in
    subst (λ (o : Option (String Global)). MatchOption o (in_inline place pair form ≡ None)
    (λ t. string_bytes t ≡ inserted_text place c.args.key.now v form)) c.in-Some.is
    ((c.in_ok-inline.ensures {u = tt}).text form c.args.key.now v m
    (c.as_str-pair.ensures.value ∙ (c.in_ok-written.ensures {u = tt}).text))

pub returns-clause-text : goal.returns-clause-text
returns-clause-text c =
    let place = place_view c.args.place.now in
    let v = new_value_view c.args.value.now in
    let bytes = c.args.document.now.bytes in
    let pair = c.as_str-pair.result.now in
    let is = c.as_str-pair.ensures.value ∙ (c.in_ok-written.ensures {u = tt}).text in
    IfOk-weaker c.with_pair.result _ _ (λ t h form m. h (form, m))
    (each_ok {X = (form : Text) × IsDocument bytes form} c.with_pair.result
    (λ x t. string_bytes t ≡ inserted_text place c.args.key.now v x.0)
    (λ x. c.with_pair.ensures.text x.0 c.args.key.now v
    (subst (λ (b : List ℕ). IsDocument b x.0) (sym c.as_str.ensures) x.1)
    (subst (λ (o : Option (String Global)). MatchOption o (in_inline place pair x.0 ≡ None)
    (λ t. string_bytes t ≡ inserted_text place c.args.key.now v x.0)) c.in_default.is
    ((c.in_ok-inline.ensures {u = tt}).text x.0 c.args.key.now v x.1 is))
    ((c.in_ok-inner.ensures {u = tt}).found x.0 x.1) is))
