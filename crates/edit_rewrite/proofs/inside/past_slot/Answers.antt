use Rattle.std.proofs.Common.{◌≡◌, List, ◌∷◌, ◌++◌, sym, subst, ap, ◌∙◌}
use Rattle.std.proofs.lemmas.Result.{err_from_is_err_and}
use Rattle.edit_syntax.specs.declared.read.syntax_tokens.SyntaxToken.{SyntaxToken}
use Rattle.edit_syntax.specs.Characters.{equals}
use Rattle.edit_syntax.specs.Grammar.{gap, value}
use Rattle.edit_syntax.specs.SyntaxTokens.{tokens_of_key}
use Rattle.edit_tree.specs.Assertions.{names}
use Rattle.edit_document.specs.Items.{place_view}
use Rattle.edit_tree.specs.Slots.{is_item_removed}
use Rattle.edit_tree.specs.SlotTexts.{AreDecodedAs}
use Rattle.edit_rewrite.proofs.SlotSteps.{pair_at_front, keeps_memory}
use Rattle.edit_rewrite.proofs.inside.past_slot.Goals as goal

pub returns-in_err-value : goal.returns-in_err-value
returns-in_err-value c it g rest h =
    let p = err_from_is_err_and c.from_residual-in_err-value.result c.from_residual-in_err-value.ensures.1 in
    let f = pair_at_front c.args.text.now c.args.s.now c.args.is_table it g rest h c.if-not-is_table.false in
    keeps_memory c.from_residual-in_err-value.result c.in_err-value.field-0.0 p.0
    (λ r. (r.0 ≡ is_item_removed (place_view c.args.below.now) c.args.index it) × (r.1.now ≡ gap g rest)) p.1 p.2
    (c.in_err-value.ensures {u = tt} f.k f.a f.b (value f.v (gap g rest)) f.naming f.spelled)

pub returns-in_err-is_gone : goal.returns-in_err-is_gone
returns-in_err-is_gone c it g rest h =
    let p = err_from_is_err_and c.from_residual-in_err-is_gone.result c.from_residual-in_err-is_gone.ensures.1
    in
    let f = pair_at_front c.args.text.now c.args.s.now c.args.is_table it g rest h c.if-not-is_table.false in
    let n = c.in_ok-value.ensures {u = tt} f.k f.a f.b (value f.v (gap g rest)) f.naming f.spelled in
    let all = tokens_of_key f.k (f.a ++ (equals ∷ (f.b ++ value f.v (gap g rest)))) in
    let tokens : c.as_slice.result.now ≡ all = c.as_slice.ensures.value ∙ n.1 ∙
    ap (λ (l : List SyntaxToken). l ++ all) c.new-tokens.ensures.items in
    let said = subst (λ (ms : List SyntaxToken). AreDecodedAs c.args.text.now ms (names f.k)) (sym tokens) f.said in
    keeps_memory c.from_residual-in_err-is_gone.result c.in_err-is_gone.field-0.0 p.0
    (λ r. (r.0 ≡ is_item_removed (place_view c.args.below.now) c.args.index it) × (r.1.now ≡ gap g rest)) p.1 p.2
    (c.in_err-is_gone.ensures {u = tt} (names f.k) said)

pub returns-in_err-rest-2 : goal.returns-in_err-rest-2
returns-in_err-rest-2 c it g rest h =
    let p = err_from_is_err_and c.from_residual-in_err-rest-2.result c.from_residual-in_err-rest-2.ensures.1
    in
    let f = pair_at_front c.args.text.now c.args.s.now c.args.is_table it g rest h c.if-not-is_table.false in
    let n = c.in_ok-value.ensures {u = tt} f.k f.a f.b (value f.v (gap g rest)) f.naming f.spelled in
    keeps_memory c.from_residual-in_err-rest-2.result c.in_err-rest-2.field-0.0 p.0
    (λ r. (r.0 ≡ is_item_removed (place_view c.args.below.now) c.args.index it) × (r.1.now ≡ gap g rest)) p.1 p.2
    (c.in_err-rest-2.ensures {u = tt} f.v g rest f.item n.0)

pub returns : goal.returns
returns c it g rest h =
    let below = place_view c.args.below.now in
    let f = pair_at_front c.args.text.now c.args.s.now c.args.is_table it g rest h c.if-not-is_table.false in
    let n = c.in_ok-value.ensures {u = tt} f.k f.a f.b (value f.v (gap g rest)) f.naming f.spelled in
    let all = tokens_of_key f.k (f.a ++ (equals ∷ (f.b ++ value f.v (gap g rest)))) in
    let tokens : c.as_slice.result.now ≡ all = c.as_slice.ensures.value ∙ n.1 ∙
    ap (λ (l : List SyntaxToken). l ++ all) c.new-tokens.ensures.items in
    let said = subst (λ (ms : List SyntaxToken). AreDecodedAs c.args.text.now ms (names f.k)) (sym tokens) f.said in (
      c.in_ok-is_gone.ensures {u = tt} (names f.k) said ∙ ap (is_item_removed below c.args.index) (sym f.is),
      c.in_ok-rest-2.ensures {u = tt} f.v g rest f.item n.0,
    )
