use Rattle.std.proofs.Common.{◌≡◌, ℕ, List, [], ◌∷◌, ◌++◌, refl, sym, subst, ap, ◌∙◌, append-nil}
use Rattle.std.proofs.lemmas.Result.{err_from_is_err_and}
use Rattle.edit_syntax.specs.declared.read.syntax_tokens.SyntaxToken.{SyntaxToken}
use Rattle.edit_syntax.specs.Characters.{equals}
use Rattle.edit_syntax.specs.Grammar.{gap, value}
use Rattle.edit_syntax.specs.SyntaxTokens.{tokens_of_key}
use Rattle.edit_syntax.specs.Strings.{key}
use Rattle.edit_tree.specs.EditBytes.{unresolved}
use Rattle.edit_rewrite.specs.Entries.{AreParts}
use Rattle.edit_rewrite.specs.Inner.{inner_in}
use Rattle.edit_document.specs.Items.{place_view}
use Rattle.edit_tree.specs.Slots.{Slot}
use Rattle.edit_tree.specs.SlotTexts.{Ends}
use Rattle.edit_tree.specs.Statements.{parts}
use Rattle.edit_rewrite.proofs.InnerTurns.{inner_made}
use Rattle.edit_rewrite.proofs.KeyWays.{key_are}
use Rattle.edit_rewrite.proofs.SlotSteps.{pair_at_front, keeps_memory}
use Rattle.edit_rewrite.proofs.Ways.{follows_itself}
use Rattle.edit_rewrite.proofs.inner.inner_at.Goals as goal

pub returns-in_err-value : goal.returns-in_err-value
returns-in_err-value c above it g rest h start =
    let p = err_from_is_err_and c.from_residual.result c.from_residual.ensures.1 in
    let f = pair_at_front c.args.text.now c.args.s.now _ it g rest h refl in
    keeps_memory c.from_residual.result c.in_err-value.field-0.0 p.0 _ p.1 p.2
    (c.in_err-value.ensures {u = tt} f.k f.a f.b (value f.v (gap g rest)) f.naming f.spelled)

pub returns-in_err-rest : goal.returns-in_err-rest
returns-in_err-rest c above it g rest h start =
    let p = err_from_is_err_and c.from_residual-in_err-rest.result c.from_residual-in_err-rest.ensures.1 in
    let f = pair_at_front c.args.text.now c.args.s.now _ it g rest h refl in
    let n = c.in_ok-value.ensures {u = tt} f.k f.a f.b (value f.v (gap g rest)) f.naming f.spelled in
    keeps_memory c.from_residual-in_err-rest.result c.in_err-rest.field-0.0 p.0 _ p.1 p.2
    (c.in_err-rest.ensures {u = tt} f.v g rest f.item n.0)

pub returns : goal.returns
returns c above it g rest h start =
    let text = c.args.text.now in
    let s = c.args.s.now in
    let place = place_view c.args.place.now in
    let f = pair_at_front text s _ it g rest h refl in
    let more = f.a ++ (equals ∷ (f.b ++ value f.v (gap g rest))) in
    let n = c.in_ok-value.ensures {u = tt} f.k f.a f.b (value f.v (gap g rest)) f.naming f.spelled in
    let tokens : c.as_slice.result.now ≡ tokens_of_key f.k more ++ [] =
    c.as_slice.ensures.value ∙ n.1 ∙ ap (λ (l : List SyntaxToken). l ++ tokens_of_key f.k more) c.new-tokens.ensures.items
    ∙ sym (append-nil (tokens_of_key f.k more)) in
    let ends : Ends text (key f.k more) =
    (h.within.0, h.within.1 ∙ ap (λ (x : List ℕ). h.within.0 ++ x) f.spelled) in
    let are = subst (λ (ms : List SyntaxToken). AreParts text (parts f.k more) ms) (sym tokens)
    (key_are text f.k more [] f.naming.key c.utf8.text ends refl) in
    let goes = (c.in_ok-front.ensures {u = tt}).goes above unresolved _ _ are (follows_itself place) start in
    let behind = c.in_ok-rest.ensures {u = tt} f.v g rest f.item n.0 in (
      inner_made s c.in_ok-rest.rest.now (key f.k more) (gap g rest) c.in_ok-front.front _ c.inner_from.result
          c.inner_from.ensures goes.1 f.spelled behind
          ∙ ap (λ (x : Slot). inner_in place above x (gap g rest)) (sym f.is),
      behind,
    )
