use Rattle.std.proofs.Common.{◌≡◌, ℕ, List, subst, ◌∙◌, ◌⊎◌, inl, inr}
use Rattle.edit_syntax.specs.declared.read.syntax_tokens.TokenKind.{TokenKind}
use Rattle.edit_syntax.specs.declared.read.syntax_tokens.TokenKind.TheVariants.{BasicPart, BasicString}
use Rattle.edit_syntax.specs.Decoding.{HasDecodedValue, HasBasicValue}
use Rattle.edit_syntax.proofs.LineContents.{basic_line, raw_content}
use Rattle.edit_syntax.proofs.read.decode.decoded_text.Goals as goal

basic_says : (kind : TokenKind) (content said : List ℕ) → (kind ≡ BasicPart) ⊎ (kind ≡ BasicString)
    → HasDecodedValue kind content said → HasBasicValue content said
basic_says kind content said (inl e) h = subst (λ (k : TokenKind). HasDecodedValue k content said) e h
basic_says kind content said (inr e) h = subst (λ (k : TokenKind). HasDecodedValue k content said) e h

pub returns-in-BasicPart-clause-text : goal.returns-in-BasicPart-clause-text
returns-in-BasicPart-clause-text c said says = c.decode_escapes.ensures.text said
    (basic_line c.args.content.now said
    (basic_says c.args.kind c.args.content.now said c.in-BasicPart.is says))

pub returns-in_ok-from_str-in-MultiLiteralString-clause-text :
    goal.returns-in_ok-from_str-in-MultiLiteralString-clause-text
returns-in_ok-from_str-in-MultiLiteralString-clause-text c said says =
    (c.in_ok-from_str-in-MultiLiteralString.ensures {u = tt}).ok ∙ c.past_break-in-MultiLiteralString.ensures
    ∙ raw_content c.args.content.now said
    (subst (λ (k : TokenKind). HasDecodedValue k c.args.content.now said) c.in-MultiLiteralString.is says)
