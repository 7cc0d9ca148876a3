-- The shape of a token that is no number, date or time is a string.
use Rattle.std.proofs.Common.{◌≡◌, List, ℕ, refl}
use Rattle.edit_syntax.specs.declared.read.syntax_tokens.TokenKind.{TokenKind}
use Rattle.edit_syntax.specs.declared.read.syntax_tokens.TokenKind.TheVariants.{Integer, Float, DateTime}
use Rattle.edit_tree.specs.Nodes.{scalar, scalar_shape}
use Rattle.edit_tree.specs.Tree.{string}

-- what is no number, no date and no time shows a string
pub string_shape : (kind : TokenKind) (said : List ℕ) → (kind ≡ Integer → ⊥) → (kind ≡ Float → ⊥)
    → (kind ≡ DateTime → ⊥) → scalar (string said) ≡ scalar_shape kind said
string_shape Integer said a b c = absurd (a refl)
string_shape Float said a b c = absurd (b refl)
string_shape DateTime said a b c = absurd (c refl)
string_shape _ said a b c = refl
