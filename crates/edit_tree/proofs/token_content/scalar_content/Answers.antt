use Rattle.std.proofs.Common.{List, ℕ, sym, ap, subst, ◌∙◌}
use Rattle.edit_syntax.specs.declared.read.syntax_tokens.TokenKind.{TokenKind}
use Rattle.edit_syntax.specs.Decoding.{HasDecodedValue, HasPlainValue}
use Rattle.edit_tree.specs.Tree.{string, whole, fractional, moment}
use Rattle.edit_tree.specs.Nodes.{scalar, scalar_shape}
use Rattle.edit_tree.proofs.ShapedStrings.{string_shape}
use Rattle.edit_tree.proofs.token_content.scalar_content.Goals as goal

pub returns-in_ok-decode_token-in_default-clause-shows : goal.returns-in_ok-decode_token-in_default-clause-shows
returns-in_ok-decode_token-in_default-clause-shows c name says =
    ap (λ (b : List ℕ). scalar (string b)) ((c.in_ok-decode_token-in_default.ensures {u = tt}).says name says) ∙
    string_shape c.args.token.kind name c.in_default.not-Integer c.in_default.not-Float
    c.in_default.not-DateTime

pub returns-in-Integer-clause-shows : goal.returns-in-Integer-clause-shows
returns-in-Integer-clause-shows c name (before, content, rest, spelled, from, to, says) =
    let seen = c.content_span.ensures c.args.text.now before content rest name c.utf8.text spelled from to
    says in
    let token_text : HasPlainValue content name = subst (λ (k : TokenKind). HasDecodedValue k content name) c.in-Integer.is says in
    ap (λ (b : List ℕ). scalar (whole b)) (seen ∙ sym token_text.2) ∙
    ap (λ (k : TokenKind). scalar_shape k name) (sym c.in-Integer.is)

pub returns-in-Float-clause-shows : goal.returns-in-Float-clause-shows
returns-in-Float-clause-shows c name (before, content, rest, spelled, from, to, says) =
    let seen = c.content_span-in-Float.ensures c.args.text.now before content rest name c.utf8.text spelled
    from to says in
    let token_text : HasPlainValue content name = subst (λ (k : TokenKind). HasDecodedValue k content name) c.in-Float.is says in
    ap (λ (b : List ℕ). scalar (fractional b)) (seen ∙ sym token_text.2) ∙
    ap (λ (k : TokenKind). scalar_shape k name) (sym c.in-Float.is)

pub returns-in-DateTime-clause-shows : goal.returns-in-DateTime-clause-shows
returns-in-DateTime-clause-shows c name (before, content, rest, spelled, from, to, says) =
    let seen = c.content_span-in-DateTime.ensures c.args.text.now before content rest name c.utf8.text spelled
    from to says in
    let token_text : HasPlainValue content name = subst (λ (k : TokenKind). HasDecodedValue k content name) c.in-DateTime.is says in
    ap (λ (b : List ℕ). scalar (moment b)) (seen ∙ sym token_text.2) ∙
    ap (λ (k : TokenKind). scalar_shape k name) (sym c.in-DateTime.is)
