use Rattle.std.proofs.Common.{◌≡◌, ◌<◌, length, sym, subst, ◌∙◌}
use Rattle.edit_syntax.specs.declared.read.syntax_tokens.TokenKind.{TokenKind}
use Rattle.edit_syntax.specs.Characters.{is_bare, All}
use Rattle.edit_syntax.specs.Decoding.{HasDecodedValue}
use Rattle.edit_tree.proofs.token_content.decode_token.Goals as goal

pub returns-in-BarePart-clause-says : goal.returns-in-BarePart-clause-says
returns-in-BarePart-clause-says c name (before, content, rest, spelled, from, to, says) =
    let seen = c.content_span.ensures c.args.text.now before content rest name c.utf8.text spelled from to
    says in
    let bare : (0 < length content) × All is_bare content
    × (name ≡ content) = subst (λ (k : TokenKind). HasDecodedValue k content name) c.in-BarePart.is says in
    seen ∙ sym bare.2
